use Rattle.accept.specs.Pairs.{paired_by, edits_of}
use Rattle.table.specs.Sheet.{sheet_in}
use lib.ListN.{take, drop}
use Prim.Native.Nat.{◌-◌}
use mathlib.Core.Path.{◌≡◌}
use Rattle.accept.proofs.edits.paired_in.Given as goal

abbrev pub invariant-loop-n : goal.invariant-loop-n
invariant-loop-n l = paired_by l.held (edits_of (take (l.n-end - l.n) (drop l.n (sheet_in l.t).edits))) ≡ paired_by l.initial.held (edits_of (take (l.n-end - l.initial.n) (drop l.initial.n (sheet_in l.t).edits)))
