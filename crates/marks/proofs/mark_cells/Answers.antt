use Rattle.std.proofs.Common.{ℕ, take, ap, ◌∙◌}
use Rattle.std.proofs.lemmas.List.{take_min}
use Rattle.entity.specs.Limits.{edit_limit}
use Rattle.marks.specs.Marks.{applied}
use Rattle.marks.proofs.mark_cells.Goals as goal

pub returns : goal.returns
returns c =
    c.mark_rows.ensures ∙ ap (λ (n : ℕ). applied c.args.edits.now (take n c.args.marks.now)) c.min.ensures
    ∙ ap (applied c.args.edits.now) (take_min edit_limit c.args.marks.now)
