use Rattle.accept.proofs.Pairing.{unit_in}
use Rattle.accept.specs.Pairs.{shared_in}
use Rattle.bits.specs.Sets.{set_of}
use Rattle.table.specs.Sheet.{sheet_in}
use Rattle.laws.specs.Lists.{any, from}
use mathlib.Core.Path.{◌≡◌}
use Rattle.accept.proofs.edits.shared_units.Given as goal

abbrev pub invariant-loop-r : goal.invariant-loop-r
invariant-loop-r l = (l.seen ≡ set_of (λ k. any (unit_in (sheet_in l.t) k) (from 0 l.r))) × (l.shared ≡ set_of (shared_in (sheet_in l.t) l.r))
