use lib.ListN.{drop}
use Rattle.definitions.proofs.Loops.{Gathering}
use Rattle.definitions.proofs.add_units.Given as goal

abbrev pub invariant-loop-u : goal.invariant-loop-u
invariant-loop-u l = Gathering (drop l.u-index l.u-items) l.u-items l.initial.s.0 l.s.0
