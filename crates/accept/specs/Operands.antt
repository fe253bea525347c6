-- Refusal 5 in the steps in which the code goes: what is asked of one operand.
use Rattle.std.specs.Prelude.{Bool, true, false, ◌&&◌, cond, List, map, ℕ, ◌+◌, ◌*◌, eqb, ltb, length, get_or}
use Rattle.std.proofs.Math.Option.{Option-elim}
use Rattle.entity.specs.declared.forms.Constraint.{Constraint, TheVariants.Class, TheVariants.Fixed, TheVariants.Reuse}
use Rattle.rules.specs.Sheet.{Sheet, OpRow, GroupRow}
use Rattle.rules.specs.Accept.{operand, reuse_holds, headed_by, constraint_holds, fixed_holds, group_holds}

-- a constraint is of a class
unfoldable pub is_class : Constraint → Bool
is_class (Class c) = true
is_class (Fixed r) = false
is_class (Reuse k) = false

-- the group is of class c, begins with register r and has n registers
unfoldable pub group_is : ℕ → ℕ → ℕ → GroupRow → Bool
group_is c r n g = headed_by c r g && eqb (length g.regs) n

-- the number that no group has
abbrev pub no_head : ℕ
no_head = 4294967295

-- class c, first register r and length n of a group in one number
unfoldable pub head_of : ℕ → ℕ → ℕ → ℕ
head_of c r n = cond (ltb c 128 && ltb r 256 && ltb n 65536) (c * 16777216 + r * 65536 + n) no_head

unfoldable pub head_in : GroupRow → ℕ
head_in g = head_of g.class (get_or g.regs 0 0) (length g.regs)

module _ (sh : Sheet) where
  unfoldable pub heads_of : List ℕ
  heads_of = map head_in sh.groups

  -- o may reuse operand k of its instruction
  unfoldable pub reuses : OpRow → ℕ → Bool
  reuses o k = Option-elim (operand sh o k) false (reuse_holds sh o)

  unfoldable pub operand_holds : OpRow → Bool
  operand_holds o = constraint_holds sh o && fixed_holds sh o && group_holds sh o
