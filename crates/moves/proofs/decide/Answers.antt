use mathlib.Core.Path.{sym, ◌∙◌}
use Rattle.table.specs.Sheet.{sheet_in}
use Rattle.moves.specs.Moves.{fate_of}
use Rattle.moves.proofs.Deciding.{found_reg}
use Rattle.moves.proofs.decide.Goals as goal

pub returns-in-Some : goal.returns-in-Some
unfolding fate_of
returns-in-Some c = λ g fl.
    rw (sym (c.already.ensures (sheet_in c.args.t.now)) ∙ c.if-already.false, sym c.spilled_above.ensures ∙ c.if-spilled_above.false) (found_reg _ (c.new_source.ensures g fl) c.in-Some.is)
