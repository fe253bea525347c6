use Rattle.rules.specs.Accept.{is_entry}
use Rattle.bits.specs.Sets.{set_of}
use lib.Dec.{ltb}
use mathlib.Core.Bool.{◌&&◌}
use Rattle.table.specs.Sheet.{sheet_in}
use mathlib.Core.Path.{◌≡◌}
use Rattle.accept.proofs.blocks.entries.Given as goal

abbrev pub invariant-loop-b : goal.invariant-loop-b
invariant-loop-b l = l.s.0 ≡ set_of (λ k. ltb k l.b && is_entry (sheet_in l.t) k)
