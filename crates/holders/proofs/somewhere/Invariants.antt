use mathlib.Core.Path.{◌≡◌}
use Rattle.rules.specs.Record.{holds}
use Rattle.record.specs.Flat.{record_of}
use Rattle.holders.proofs.Holding.{some_below}
use Rattle.holders.proofs.somewhere.Given as goal

abbrev pub invariant-loop-r : goal.invariant-loop-r
invariant-loop-r l = l.x ≡ some_below (λ k. holds (record_of l.rec) k l.v.0) l.r
