use mathlib.Core.List.{List}
use Prim.Native.Nat.{ℕ, ◌+◌, ◌-◌}
use Rattle.rules.specs.Forward.{Walk, Handed, visits}
use Rattle.table.specs.Sheet.{sheet_in}
use Rattle.moves.specs.Walks.{Ordered}
use Rattle.move_optimizer.specs.Levels.{Stands}
use Rattle.move_optimizer.proofs.Visits.{Walking}
use Rattle.move_optimizer.proofs.levels.visits.Given as goal

abbrev pub invariant-loop : goal.invariant-loop
invariant-loop l = Ordered l.t → (places : List ℕ) (n : ℕ) (wh : Walk × Handed) → Stands l.t l.initial.rec l.initial.states l.edits places l.initial.counts l.initial.w.0 (n + l.most) wh → Walking l.t l.rec l.states l.edits places l.counts l.w.0 n (l.most - l.counter) (visits (sheet_in l.t) l.most wh)
