use mathlib.Core.Path.{◌≡◌}
use Prim.Native.Nat.{◌-◌}
use Rattle.laws.specs.Fold.{run}
use Rattle.laws.specs.Lists.{from}
use Rattle.record.specs.Flat.{record_of}
use Rattle.move_optimizer.proofs.BlockWalks.{defines}
use Rattle.move_optimizer.proofs.levels.enter.Given as goal

abbrev pub invariant-loop-n : goal.invariant-loop-n
invariant-loop-n l = run (defines l.t l.b.0) (record_of l.rec) (from l.n (l.n-end - l.n)) ≡ run (defines l.t l.b.0) (record_of l.initial.rec) (from l.initial.n (l.n-end - l.initial.n))
