use mathlib.Core.Path.{◌≡◌}
use mathlib.Core.Bool.{not, ◌&&◌}
use lib.ListN.{take}
use Rattle.laws.specs.Lists.{is_in}
use Rattle.bits.specs.Sets.{set_of}
use Rattle.rules.specs.Sheet.{is_memory}
use Rattle.table.specs.Sheet.{sheet_in}
use Rattle.holders.proofs.of_list.Given as goal

abbrev pub invariant-loop-r : goal.invariant-loop-r
invariant-loop-r l = l.s.0 ≡ set_of (λ r. is_in r (take l.r-index l.rs) && not (is_memory (sheet_in l.t) r))
