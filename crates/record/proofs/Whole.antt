-- The record tells every cell: two tables of the record's length that have the same record are the same. Assumes nothing.
use mathlib.Core.Path.{◌≡◌, sym, ap, ◌∙◌}
use mathlib.Core.List.{List}
use Prim.Native.Nat.{ℕ, ◌+◌, ◌-◌, ◌≤◌, ◌<◌}
use native.Mathlib.Omega.{arith}
use lib.ListN.{length, get_or, drop}
use lib.Seq.{ext_get_or, get_or-take, get_or-drop}
use Rattle.entity.specs.Limits.{reg_limit, slot_limit, unit_limit, value_limit}
use Rattle.laws.proofs.Cases.{by_lt}
use Rattle.rules.specs.Record.{Record}
use Rattle.record.specs.Layout.{defined_at, held_at, noted_reg_at, noted_value_at, record_length, spilled_at, stored_at, unit_reg_at, unit_value_at}
use Rattle.record.specs.Flat.{section, record_in}

module _ (a b : List ℕ) where
  cell : (at n : ℕ) → section a at n ≡ section b at n → (i : ℕ) → at ≤ i → i < at + n → get_or a i 0 ≡ get_or b i 0
  cell at n e i h l =
      let j : at + (i - at) ≡ i = omega arith in
      let u : i - at < n = omega arith in
      let one : (c : List ℕ) → get_or (section c at n) (i - at) 0 ≡ get_or c i 0 =
      λ c. get_or-take n (drop at c) (i - at) 0 u ∙ get_or-drop at c (i - at) 0 ∙ ap (λ (k : ℕ). get_or c k 0) j
      in
      sym (one a) ∙ ap (λ (c : List ℕ). get_or c (i - at) 0) e ∙ one b

  pub same_cells : length a ≡ record_length → length b ≡ record_length → record_in a ≡ record_in b → a ≡ b
  unfolding record_in
  same_cells p q e =
      ext_get_or 0 a b (p ∙ sym q) (λ i h.
      by_lt i unit_value_at (λ l. cell unit_reg_at unit_limit (ap (λ (s : Record). s.writes.reg) e) i (omega arith) (omega arith)) (λ g1.
      by_lt i held_at (λ l. cell unit_value_at unit_limit (ap (λ (s : Record). s.writes.value) e) i (omega arith) (omega arith)) (λ g2.
      by_lt i stored_at (λ l. cell held_at reg_limit (ap (λ (s : Record). s.known.held) e) i (omega arith) (omega arith)) (λ g3.
      by_lt i defined_at (λ l. cell stored_at slot_limit (ap (λ (s : Record). s.known.stored) e) i (omega arith) (omega arith)) (λ g4.
      by_lt i spilled_at (λ l. cell defined_at value_limit (ap (λ (s : Record). s.blocks.defined) e) i (omega arith) (omega arith)) (λ g5.
      by_lt i noted_reg_at (λ l. cell spilled_at value_limit (ap (λ (s : Record). s.blocks.spilled) e) i (omega arith) (omega arith)) (λ g6.
      by_lt i noted_value_at (λ l. cell noted_reg_at unit_limit (ap (λ (s : Record). s.notes.reg) e) i (omega arith) (omega arith)) (λ g7.
      cell noted_value_at unit_limit (ap (λ (s : Record). s.notes.value) e) i (omega arith) (omega arith)))))))))
