use Rattle.std.proofs.Common.{◌≡◌, ℕ}
use lib.ListN.{drop}
use Rattle.laws.specs.Fold.{run}
use Rattle.rules.specs.Record.{Record}
use Rattle.record.specs.Flat.{record_of}
use Rattle.record.proofs.flat.WalkRecord.each_unit.Given as goal

abbrev pub invariant-loop-u : goal.invariant-loop-u
invariant-loop-u g l = (f : Record → ℕ → Record) → ((x y : _) (u : _) → goal.F-post g l.change x u tt y → record_of y.now ≡ f (record_of x.now) u.0) → run f (record_of l.self) (drop l.u-index l.us) ≡ run f (record_of l.initial.self) l.us
