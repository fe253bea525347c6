-- What is asked of an operand: the operand as a row, and what is found as the code's answers.
use Rattle.std.proofs.Math.Option.{Option, none, some, bind}
use Rattle.std.specs.Prelude.{ℕ, Some, None}
use Rattle.rules.specs.{Sheet.Sheet, Sheet.OpRow, Accept.operand, Accept.class_of}
use Rattle.table.specs.declared.view.Operand.{Operand}
use Rattle.table.specs.View.{operand_of}
use Rattle.std.specs.Prelude as Code
use Rattle.entity.specs.declared.numbers.RegClass.{RegClass}

-- an operand as the row that says it
unfoldable pub as_row : Operand → OpRow
as_row o = record { at = o.at.0; kind = o.kind; constraint = o.constraint; place = o.place }

unfoldable pub operand_found : Option OpRow → Code.Option Operand
operand_found none = None
operand_found (some o) = Some (operand_of o)

unfoldable pub class_found : Option ℕ → Code.Option RegClass
class_found none = None
class_found (some c) = Some (record { 0 = c })

-- the class of operand k of the instruction of o
unfoldable pub reused_class : Sheet → OpRow → ℕ → Option ℕ
reused_class sh o k = bind (operand sh o k) (λ u. class_of sh u.constraint)
