-- A block's walk on the code's tables (`Walked` of moves/specs/Walks.antt): `enter`, `optimise_block` and `prepare_block` of src/levels.rt do what
-- `entered`, `optimised` and `prepared` say; and the loop over numbers, with a budget, that each walk is (`Passing`). Assumes nothing.
use mathlib.Core.Path.{◌≡◌, refl, sym, ap, ◌∙◌}
use mathlib.Core.List.{List, ◌∷◌}
use Prim.Native.Nat.{ℕ, zero, suc, ◌+◌, ◌-◌, ◌*◌, ◌≤◌, ◌<◌}
use native.Mathlib.Nat.{mul-add, mul-one, add_assoc}
use native.Mathlib.Numerals.{add-one}
use native.Mathlib.Omega.{arith}
use lib.ListN.{length, get_or, take, drop}
use lib.Seq.{drop-cons}
use borrow.Author.Tests.{lt-ltb, le-ltb}
use Rattle.laws.specs.Fold.{run}
use Rattle.laws.specs.Lists.{from}
use Rattle.laws.proofs.Cases.{by_lt}
use Rattle.entity.specs.Limits.{block_limit, inst_limit, edit_limit, operand_limit}
use Rattle.entity.specs.declared.forms.Edit.{Edit}
use Rattle.entity.specs.declared.forms.Edit.TheVariants.{Nothing}
use Rattle.rules.specs.Sheet.{Sheet, insts_of}
use Rattle.rules.specs.Record.{Record, define, effect}
use Rattle.rules.specs.Forward.{Walk, with_rec, edits_at, optimise_edit, optimise_inst, prepare_inst}
use Rattle.rules.proofs.Refusals.{in_limits}
use Rattle.table.specs.Layout.{inst_index, param_index}
use Rattle.table.specs.Sheet.{rows_at, sheet_in}
use Rattle.table.specs.Index.{range_in, Ready}
use Rattle.table.specs.View.{param_row, param_of}
use Rattle.table.specs.declared.index.Range.{Range}
use Rattle.table.specs.declared.view.Param.{Param}
use Rattle.table.proofs.Sheets.{params_are, long_of, rows_long}
use Rattle.table.proofs.Ranges.{before_within}
use Rattle.table.proofs.Lookups.{params_of, insts_are}
use Rattle.table.proofs.Filling.{total_part}
use Rattle.record.specs.Flat.{record_of}
use Rattle.record.specs.declared.flat.WalkRecord.{WalkRecord}
use Rattle.moves.specs.Walks.{Walked, entered, optimised, prepared, block_most, inst_most}
use Rattle.moves.proofs.Walks.{walked_fewer, walked_with}

-- ---- a loop over the numbers from i to `to`: what remains of it gives the same, and each turn may spend `cost`

pub record Passing {S : Type 0} (P : ℕ → S → Type 0) (f : S → ℕ → S) (cost n i to : ℕ) (e : S) : Type 0 where
  pub at : S
  pub stands : P (n + cost * (to - i)) at
  pub rest : run f at (from i (to - i)) ≡ e

from_step : (i to : ℕ) → i < to → from i (to - i) ≡ i ∷ from (i + 1) (to - (i + 1))
unfolding from
from_step i to h = let e : to - i ≡ suc (to - (i + 1)) = omega arith in rw (e, add-one i)

spend : (cost n i to : ℕ) → i < to → n + cost * (to - i) ≡ n + cost * (to - (i + 1)) + cost
spend cost n i to h =
    let e : to - i ≡ to - (i + 1) + 1 = omega arith in
    let m : cost * (to - i) ≡ cost * (to - (i + 1)) + cost = rw (e, mul-add, mul-one) in
    ap (λ (x : ℕ). n + x) m ∙ sym (add_assoc n (cost * (to - (i + 1))) cost)

module _ {S : Type 0} {P : ℕ → S → Type 0} (f : S → ℕ → S) (cost n i to : ℕ) where
  pub passing_start : (s : S) → P (n + cost * (to - i)) s → Passing P f cost n i to (run f s (from i (to - i)))
  passing_start s p = record { at = s; stands = p; rest = refl }

  module _ {e : S} where
    pub passing_again : {Q : ℕ → S → Type 0} → i < to → ((m : ℕ) (s : S) → P (m + cost) s → Q m (f s i)) → Passing P f cost n i to e → Passing Q f cost n (i + 1) to e
    unfolding run
    passing_again h turn p =
        record {
          at = f p.at i;
          stands = turn (n + cost * (to - (i + 1))) p.at (rw (spend cost n i to h) at p.stands);
          rest = rw (from_step i to h) at p.rest;
        }

    pub passing_end : to ≤ i → Passing P f cost n i to e → P (n + cost * (to - i)) e
    unfolding run from
    passing_end h p =
        let z : to - i ≡ 0 = omega arith in
        let r : p.at ≡ e = rw z at p.rest in
        rw (← r) p.stands

-- ---- the same of a run that costs nothing

module _ {S : Type 0} (f : S → ℕ → S) (i to : ℕ) (s : S) {e : S} where
  pub run_again : {s' : S} → i < to → s' ≡ f s i → run f s (from i (to - i)) ≡ e → run f s' (from (i + 1) (to - (i + 1))) ≡ e
  unfolding run
  run_again h q p = rw q (rw (from_step i to h) at p)

  pub run_done : to ≤ i → run f s (from i (to - i)) ≡ e → s ≡ e
  unfolding run from
  run_done h p = let z : to - i ≡ 0 = omega arith in rw z at p

-- ---- the parameters of a block

-- a run through a part of a list, by the numbers of its elements
run_part : {S A : Type 0} (g : S → A → S) (d : A) (l : List A) (a k : ℕ) (s : S) → a + k ≤ length l → run (λ x j. g x (get_or l j d)) s (from a k) ≡ run g s (take k (drop a l))
unfolding run from
run_part g d l a zero s h = refl
run_part g d l a (suc k) s h = rw (drop-cons l a d (omega arith)) (run_part g d l (suc a) k (g s (get_or l a d)) (omega arith))

module _ (t : List ℕ) (b : ℕ) where
  abbrev sh : Sheet
  sh = sheet_in t

  abbrev pub defines : Record → ℕ → Record
  defines s j = define sh b (param_row sh j).value (param_row sh j).place s

  param_range_lem : Ready t → ((range_in t param_index block_limit b).from ≤ length sh.params) × ((range_in t param_index block_limit b).to ≤ length sh.params)
  unfolding range_in
  param_range_lem g =
      let m : length sh.params ≡ length (rows_at t 9) = long_of (params_are t) ∙ sym (rows_long t 9) in
      by_lt b block_limit
      (λ h.
      let e : param_index + b + 1 ≡ param_index + (b + 1) = omega arith in
      rw (lt-ltb b block_limit h, e, g.built.params b (omega arith), g.built.params (b + 1) (omega arith))
      (omega (arith, before_within b (rows_at t 9)), omega (arith, before_within (b + 1) (rows_at t 9))))
      (λ h. rw (le-ltb b block_limit h) (omega arith, omega arith))

  module _ (s : Record) {n to : ℕ} where
    pub entered_next : {s' e : Record} {p : Param} → p ≡ param_of (param_row sh n) → n < to → s' ≡ define sh b p.value.0 p.place s → run defines s (from n (to - n)) ≡ e → run defines s' (from (n + 1) (to - (n + 1))) ≡ e
    entered_next q h d x = run_again defines n to s h (d ∙ ap (λ (y : Param). define sh b y.value.0 y.place s) q) x

    pub entered_end : {r : Range} (s₀ : Record) → r ≡ range_in t param_index block_limit b → to ≤ n → Ready t → run defines s (from n (to - n)) ≡ run defines s₀ (from r.from (r.to - r.from)) → s ≡ entered sh b s₀
    unfolding entered
    entered_end s₀ q h g x =
        let k = param_range_lem g in
        run_done defines n to s h x
        ∙ ap (λ (x : Range). run defines s₀ (from x.from (x.to - x.from))) q
        ∙ run_part (λ s p. define sh b p.value p.place s) _ sh.params (range_in t param_index block_limit b).from ((range_in t param_index block_limit b).to - (range_in t param_index block_limit b).from) s₀ (omega (arith, k.0, k.1))
        ∙ ap (run (λ s p. define sh b p.value p.place s) s₀) (params_of g b)

-- ---- the instructions of a block

pub insts_few : {t : List ℕ} {r : Range} (b : ℕ) → r ≡ range_in t inst_index block_limit b → Ready t → r.to ≤ inst_limit
unfolding range_in
insts_few {t} b q g =
    rw q
    (by_lt b block_limit
    (λ h.
    let e : inst_index + b + 1 ≡ inst_index + (b + 1) = omega arith in
    rw (lt-ltb b block_limit h, e, g.built.insts (b + 1) (omega arith)) (omega (arith, total_part (b + 1) (sheet_in t).blocks, (in_limits (sheet_in t) g.limits).few_insts)))
    (λ h. rw (le-ltb b block_limit h) (omega arith)))

module _ {S : Type 0} {t : List ℕ} {r : Range} (b : ℕ) (f : S → ℕ → S) (s : S) where
  pub run_insts : r ≡ range_in t inst_index block_limit b → Ready t → run f s (from r.from (r.to - r.from)) ≡ run f s (insts_of (sheet_in t) b)
  run_insts q g = ap (λ (x : Range). run f s (from x.from (x.to - x.from))) q ∙ ap (run f s) (insts_are g b)

module _ (sh : Sheet) (b : ℕ) where
  abbrev pub optimises : Walk → ℕ → Walk
  optimises x i = optimise_inst sh b (run (optimise_edit sh b) x (edits_at sh i)) i

  abbrev pub prepares : List Edit → Record → ℕ → Record
  prepares es u i = prepare_inst sh b (run (λ x j. effect sh (get_or es j Nothing) x) u (edits_at sh i)) i

module _ {t : List ℕ} {rec : WalkRecord} {edits places counts : List ℕ} (b : ℕ) where
  -- before the first instruction
  pub optimised_start : {r : Range} {rec₀ : WalkRecord} → r ≡ range_in t inst_index block_limit b → Ready t → (Ready t → record_of rec ≡ entered (sheet_in t) b (record_of rec₀))
      → (n : ℕ) (w : Walk) → Walked t rec₀ edits places counts (n + block_most) w → Walked t rec edits places counts (n + inst_most * (r.to - r.from)) (with_rec (entered (sheet_in t) b) w)
  optimised_start {r} q g p n w x = walked_fewer (n + inst_most * (r.to - r.from)) (omega (arith, insts_few b q g)) (walked_with (entered (sheet_in t) b) (p g) x)

  pub optimised_next : {rec₁ rec₂ : WalkRecord} {edits₁ counts₁ places₂ counts₂ : List ℕ} {i to n : ℕ} {e : Walk} → i < to
      → ((places : List ℕ) (n : ℕ) (w : Walk) → Walked t rec edits places counts (n + edit_limit) w → Walked t rec₁ edits₁ places counts₁ n (run (optimise_edit (sheet_in t) b) w (edits_at (sheet_in t) i)))
      → ((edits : List ℕ) (n : ℕ) (w : Walk) → Walked t rec₁ edits places counts₁ (n + operand_limit) w → Walked t rec₂ edits places₂ counts₂ n (optimise_inst (sheet_in t) b w i))
      → Passing (Walked t rec edits places counts) (optimises (sheet_in t) b) inst_most n i to e → Passing (Walked t rec₂ edits₁ places₂ counts₂) (optimises (sheet_in t) b) inst_most n (i + 1) to e
  optimised_next {edits₁ = edits₁} {i = i} {to = to} {n = n} h p q x =
      passing_again (optimises (sheet_in t) b) inst_most n i to h
      (λ m s y. q edits₁ m (run (optimise_edit (sheet_in t) b) s (edits_at (sheet_in t) i)) (p places (m + operand_limit) s (walked_fewer (m + operand_limit + edit_limit) (omega arith) y))) x

  pub optimised_end : {r : Range} {i n : ℕ} (w : Walk) → r ≡ range_in t inst_index block_limit b → r.to ≤ i → Ready t
      → Passing (Walked t rec edits places counts) (optimises (sheet_in t) b) inst_most n i r.to (run (optimises (sheet_in t) b) (with_rec (entered (sheet_in t) b) w) (from r.from (r.to - r.from)))
      → Walked t rec edits places counts n (optimised (sheet_in t) b w)
  unfolding optimised
  optimised_end {r} {i} {n} w q h g x =
      rw (← run_insts b (optimises (sheet_in t) b) (with_rec (entered (sheet_in t) b) w) q g)
      (walked_fewer n (omega arith) (passing_end (optimises (sheet_in t) b) inst_most n i r.to h x))

module _ (t : List ℕ) (b : ℕ) (es : List Edit) (s : Record) where
  pub prepared_next : (s₁ : Record) {s₂ e : Record} {i to : ℕ} → i < to → s₁ ≡ run (λ x j. effect (sheet_in t) (get_or es j Nothing) x) s (edits_at (sheet_in t) i) → s₂ ≡ prepare_inst (sheet_in t) b s₁ i
      → run (prepares (sheet_in t) b es) s (from i (to - i)) ≡ e → run (prepares (sheet_in t) b es) s₂ (from (i + 1) (to - (i + 1))) ≡ e
  prepared_next s₁ {i = i} {to = to} h p q x = run_again (prepares (sheet_in t) b es) i to s h (q ∙ ap (λ (u : Record). prepare_inst (sheet_in t) b u i) p) x

  pub prepared_end : {r : Range} {i : ℕ} (s₀ s₁ : Record) → r ≡ range_in t inst_index block_limit b → r.to ≤ i → Ready t → s₁ ≡ entered (sheet_in t) b s₀
      → run (prepares (sheet_in t) b es) s (from i (r.to - i)) ≡ run (prepares (sheet_in t) b es) s₁ (from r.from (r.to - r.from)) → s ≡ prepared (sheet_in t) b es s₀
  unfolding prepared
  prepared_end {r} {i} s₀ s₁ q h g p x =
      run_done (prepares (sheet_in t) b es) i r.to s h x
      ∙ run_insts b (prepares (sheet_in t) b es) s₁ q g
      ∙ ap (λ (u : Record). run (prepares (sheet_in t) b es) u (insts_of (sheet_in t) b)) p
