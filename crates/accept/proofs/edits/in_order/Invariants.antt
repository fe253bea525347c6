use Rattle.accept.proofs.Pairing.{sorted_from}
use Rattle.table.specs.Sheet.{sheet_in}
use Rattle.rules.specs.Accept.{in_order}
use lib.ListN.{drop}
use mathlib.Core.Path.{◌≡◌}
use Rattle.accept.proofs.edits.in_order.Given as goal

abbrev pub invariant-loop-n : goal.invariant-loop-n
invariant-loop-n l = sorted_from l.last (drop l.n (sheet_in l.t).edits) ≡ in_order (sheet_in l.t).edits
