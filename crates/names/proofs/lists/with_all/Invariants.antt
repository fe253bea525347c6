use mathlib.Core.Bool.{◌||◌}
use lib.Dec.{eqb}
use Rattle.laws.specs.Lists.{is_in}
use Rattle.bits.specs.Sets.{has, set_of}
use Rattle.names.proofs.Sets.{Growing}
use Rattle.names.proofs.lists.with_all.Given as goal

abbrev pub invariant-loop-x : goal.invariant-loop-x
invariant-loop-x l = Growing eqb l.list (set_of (λ k. has l.initial.grown k || is_in k l.list)) l.x-index l.grown
