use mathlib.Core.Path.{◌≡◌}
use lib.ListN.{drop}
use mathlib.Core.Bool.{true}
use Rattle.laws.specs.Lists.{twice}
use Rattle.names.proofs.Sets.{below, again}
use Rattle.names.proofs.lists.stands_twice.Given as goal

abbrev pub invariant-loop-x : goal.invariant-loop-x
invariant-loop-x l = below l.list ≡ true → again l.seen (drop l.x-index l.list) ≡ twice l.list
