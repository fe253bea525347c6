use mathlib.Core.Path.{◌≡◌, refl, ap, ◌∙◌}
use mathlib.Core.Bool.{◌||◌}
use Rattle.table.specs.Sheet.{sheet_in}
use Rattle.table.specs.View.{op_row}
use Rattle.rules.specs.Sheet.{is_early}
use Rattle.folding.proofs.Telling.{or_first, or_second, told_more}
use Rattle.folding.proofs.told_with.Goals as goal
use Rattle.folding.proofs.told_with.Goals.{Joined-past, then-past, else-past}

-- whether one is early, with row n
early_too : (c : Joined-past) → c.if-past.result ≡ (c.args.past.early || is_early (op_row (sheet_in c.args.t.now) c.args.n.0).kind)
early_too c =
    elim c.if-past.branch [
      | then-past v ↦ or_first _ v.if-past.true v.result-is
      | else-past v ↦ or_second v.if-past.false (v.is_early.ensures ∙ ap is_early c.kind_at-k.ensures) v.result-is
    ]

pub returns-then-past-2 : goal.returns-then-past-2
returns-then-past-2 c = λ os e. let a = c.args in
    told_more (sheet_in a.t.now) (op_row (sheet_in a.t.now) a.n.0) os e (rw (← c.constraint_at.ensures) c.with_reuse.ensures) (early_too (goal.at.returns-then-past-2 c).Joined-past) (or_first _ c.if-past-2.true refl)

pub returns-else-past-2 : goal.returns-else-past-2
returns-else-past-2 c = λ os e. let a = c.args in
    told_more (sheet_in a.t.now) (op_row (sheet_in a.t.now) a.n.0) os e (rw (← c.constraint_at.ensures) c.with_reuse.ensures) (early_too (goal.at.returns-else-past-2 c).Joined-past) (or_second c.if-past-2.false (c.may_fold.ensures c.kind_at-k.ensures) refl)
