use mathlib.Core.Path.{◌≡◌}
use Prim.Native.Nat.{◌-◌}
use lib.ListN.{take, drop}
use Rattle.laws.specs.Fold.{run}
use Rattle.rules.specs.Forward.{define_all}
use Rattle.table.specs.Sheet.{sheet_in}
use Rattle.table.specs.Index.{Ready}
use Rattle.record.specs.Flat.{record_of}
use Rattle.definitions.specs.Definitions.{taken}
use Rattle.definitions.proofs.define_all.Given as goal

abbrev pub invariant-loop-n : goal.invariant-loop-n
invariant-loop-n l = Ready l.t → run (λ s o. define_all (sheet_in l.t) l.b.0 (taken (sheet_in l.t) l.pass o) s) (record_of l.rec) (take (l.n-end - l.n) (drop l.n (sheet_in l.t).ops)) ≡ run (λ s o. define_all (sheet_in l.t) l.b.0 (taken (sheet_in l.t) l.pass o) s) (record_of l.initial.rec) (take (l.n-end - l.initial.n) (drop l.initial.n (sheet_in l.t).ops))
