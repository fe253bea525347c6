use Prim.Native.Nat.{◌≤◌}
use lib.ListN.{length}
use Rattle.table.specs.Rows.{count_in}
use Rattle.drifthurdle.specs.Loading.{PlacesLoaded}
use Rattle.drifthurdle.proofs.load_places.Given as goal

abbrev pub invariant-loop-n : goal.invariant-loop-n
invariant-loop-n l = count_in l.t 10 ≤ length l.initial.places → PlacesLoaded l.t l.places l.n
