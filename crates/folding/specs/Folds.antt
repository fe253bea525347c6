-- What is told of an instruction's operands in one pass, and the rows that are passed.
use Rattle.std.specs.Prelude.{Bool, false, ◌&&◌, List, map, ℕ, ◌-◌, eqb}
use Rattle.laws.specs.Lists.{any, from}
use Rattle.bits.specs.Sets.{set_of}
use Rattle.entity.specs.declared.forms.Constraint.{Constraint, TheVariants.Class, TheVariants.Fixed, TheVariants.Reuse}
use Rattle.rules.specs.Sheet.{Sheet, OpRow, is_use, is_early}
use Rattle.rules.specs.Forward.{in_memory}
use Rattle.table.specs.View.{op_row}
use Rattle.table.specs.declared.index.Range.{Range}
use Rattle.folding.specs.declared.Told.{Told}

-- a constraint that reuses operand k
abbrev pub reuses : ℕ → Constraint → Bool
reuses k c = elim c [ Class n ↦ false | Fixed r ↦ false | Reuse n ↦ eqb n.0 k ]

-- "a `use` in memory"
unfoldable pub may_fold : Sheet → OpRow → Bool
may_fold sh o = is_use o.kind && in_memory sh o.place

unfoldable pub told : Sheet → List OpRow → Told
told sh os =
    record {
      reused = set_of (λ k. any (λ o. reuses k o.constraint) os);
      early = any (λ o. is_early o.kind) os;
      folds = any (may_fold sh) os;
    }

-- the operand rows of a range
abbrev pub ops_in : Sheet → Range → List OpRow
ops_in sh r = map (op_row sh) (from r.from (r.to - r.from))
