use Rattle.moves.proofs.Moving.{rewrite_kept, rewrite_removed, rewrite_sourced}
use Rattle.moves.proofs.rewrite.Goals as goal

pub returns-in-Kept : goal.returns-in-Kept
returns-in-Kept c = let a = c.args in rewrite_kept a.edits.now a.counts.now a.j.0 a.a c.in-Kept.is

pub returns-in-Removed : goal.returns-in-Removed
returns-in-Removed c = let a = c.args in
    rewrite_removed a.edits.now a.counts.now a.j.0 a.a
    c.in-Removed.is
    c.store_edit.ensures c.tally.ensures

pub returns-in-Sourced : goal.returns-in-Sourced
returns-in-Sourced c = let a = c.args in
    rewrite_sourced a.edits.now a.counts.now a.j.0 a.a
    c.in-Sourced.is
    c.reg.ensures
    c.store_edit-in-Sourced.ensures c.tally-in-Sourced.ensures
