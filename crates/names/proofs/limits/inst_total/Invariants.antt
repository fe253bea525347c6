use mathlib.Core.Path.{◌≡◌}
use Prim.Native.Nat.{◌+◌, ◌≤◌}
use lib.ListN.{drop}
use Rattle.entity.specs.Limits.{inst_limit}
use Rattle.rules.specs.Sheet.{total_of}
use Rattle.table.specs.Sheet.{sheet_in}
use Rattle.names.proofs.limits.inst_total.Given as goal

abbrev pub invariant-loop-b : goal.invariant-loop-b
invariant-loop-b l = (l.sum ≤ inst_limit) × (l.sum + total_of (drop l.b (sheet_in l.t).blocks) ≡ total_of (sheet_in l.t).blocks)
