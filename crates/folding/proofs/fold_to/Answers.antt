use mathlib.Core.Path.{sym, ap, ◌∙◌}
use Rattle.rules.specs.Sheet.{subject_of}
use Rattle.record.specs.Flat.{record_of}
use Rattle.table.specs.Sheet.{sheet_in}
use Rattle.table.specs.View.{op_row}
use Rattle.folding.proofs.Folding.{found_none, tied_stays, other_stays, other_class, class_folds, class_small}
use Rattle.folding.proofs.fold_to.Goals as goal
use Rattle.folding.proofs.fold_to.Goals.{then-tied-via-then-tied, then-tied-via-else-tied+then-not-may_fold}

pub returns-then-tied : goal.returns-then-tied
returns-then-tied c = let a = c.args in λ g f k e.
    found_none (elim c.then-tied.branch [
      | then-tied-via-then-tied w ↦ tied_stays (sheet_in a.t.now) (op_row (sheet_in a.t.now) a.n.0) k (record_of a.rec.now) (sym e ∙ w.if-tied.true)
      | then-tied-via-else-tied+then-not-may_fold w ↦ other_stays (sheet_in a.t.now) (op_row (sheet_in a.t.now) a.n.0) k (record_of a.rec.now) (sym (w.may_fold.ensures c.kind_at-k.ensures) ∙ w.if-not-may_fold.true)
    ])

pub returns-in-Class : goal.returns-in-Class
returns-in-Class c = let a = c.args in
    let kind = c.kind_at-k.ensures in
    let class = sym c.constraint_at.ensures ∙ c.in-Class.is in
    λ g f k e. class_folds (sheet_in a.t.now) (op_row (sheet_in a.t.now) a.n.0) k (record_of a.rec.now) (sym e ∙ c.if-tied.false)
    (sym (c.may_fold.ensures kind) ∙ c.if-not-may_fold.false)
    class (class_small g a.n.0 class) (c.value_of.ensures ∙ ap subject_of kind) (c.lowest_holding.ensures g f)

pub returns-in_default : goal.returns-in_default
returns-in_default c = let a = c.args in λ g f k e. found_none (other_class (sheet_in a.t.now) (op_row (sheet_in a.t.now) a.n.0) k (record_of a.rec.now) c.constraint_at.ensures c.in_default.not-Class)
