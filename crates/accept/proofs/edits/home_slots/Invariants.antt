use Rattle.accept.proofs.Pairing.{home_in}
use Rattle.bits.specs.Sets.{set_of}
use Rattle.table.specs.Sheet.{sheet_in}
use Rattle.laws.specs.Lists.{any, from}
use mathlib.Core.Path.{◌≡◌}
use Rattle.accept.proofs.edits.home_slots.Given as goal

abbrev pub invariant-loop-v : goal.invariant-loop-v
invariant-loop-v l = l.s.0 ≡ set_of (λ k. any (home_in (sheet_in l.t) k) (from 0 l.v))
