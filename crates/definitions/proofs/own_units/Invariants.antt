use mathlib.Core.List.{flat_map}
use Prim.Native.Nat.{◌-◌}
use lib.ListN.{take, drop}
use Rattle.rules.specs.Forward.{all_defs}
use Rattle.table.specs.Sheet.{sheet_in}
use Rattle.table.specs.Index.{Ready}
use Rattle.definitions.specs.Definitions.{units_at}
use Rattle.definitions.proofs.Loops.{Gathering}
use Rattle.definitions.proofs.own_units.Given as goal

abbrev pub invariant-loop-n : goal.invariant-loop-n
invariant-loop-n l = Ready l.t → Gathering (flat_map (λ o. units_at (sheet_in l.t) (all_defs (sheet_in l.t) o)) (take (l.n-end - l.n) (drop l.n (sheet_in l.t).ops))) (flat_map (λ o. units_at (sheet_in l.t) (all_defs (sheet_in l.t) o)) (take (l.n-end - l.initial.n) (drop l.initial.n (sheet_in l.t).ops))) l.initial.s.0 l.s.0
