-- A block's list is a part of the successor or of the predecessor list. Assumes nothing.
use mathlib.Core.Path.{◌≡◌, sym, ap, ◌∙◌}
use mathlib.Core.Bool.{cond}
use mathlib.Core.List.{List, [], ◌∷◌}
use Prim.Native.Nat.{ℕ, zero, suc, ◌+◌, ◌-◌, ◌%◌, ◌≤◌, ◌<◌}
use native.Mathlib.Nat.{add_assoc, mod-eq_of_lt}
use native.Mathlib.Omega.{arith}
use lib.Dec.{ltb}
use lib.ListN.{length, get_or, take, drop}
use lib.Seq.{take-take, drop-drop, take-nil}
use borrow.Author.Tests.{lt-ltb, le-ltb}
use Rattle.laws.proofs.Cases.{by_lt}
use Rattle.entity.specs.Limits.{block_limit}
use Rattle.rules.specs.Sheet.{succs_of, preds_of}
use Rattle.table.specs.Layout.{kind_index, pred_index, row_limit, succ_index}
use Rattle.table.specs.Rows.{start_in, first_in, count_in, kind_row}
use Rattle.table.specs.Table.{Indexed}
use Rattle.table.specs.Sheet.{sheet_in}
use Rattle.table.specs.Index.{range_in, Ready}
use Rattle.table.specs.declared.index.Range.{Range}
use Rattle.table.proofs.Holding.{start_later, start_within}
use Rattle.table.proofs.Kindred.{begin_within}
use Rattle.table.proofs.Ranges.{range_within}
use Rattle.table.proofs.Lookups.{succs_below, preds_below, succs_of_lem, preds_of_lem}
use Rattle.graph.specs.Graph.{chosen, part_in, base_in, stretch_in, list_in}
use Rattle.graph.specs.declared.Direction.{Direction}
use Rattle.graph.specs.declared.Direction.TheVariants.{Successors, Predecessors}

drop_take : {A : Type 0} (m n : ℕ) (l : List A) → drop m (take n l) ≡ take (n - m) (drop m l)
drop_take zero n l = let e : n ≡ n - 0 = omega arith in ap (λ (m : ℕ). take m l) e
drop_take (suc m) zero l = let e : 0 ≡ 0 - suc m = omega arith in ap (λ (k : ℕ). take k (drop (suc m) l)) e
drop_take (suc m) (suc n) [] = sym (take-nil (suc n - suc m))
drop_take (suc m) (suc n) (x ∷ l) = let e : n - m ≡ suc n - suc m = omega arith in drop_take m n l ∙ ap (λ (k : ℕ). take k (drop m l)) e

less_le : (a b x : ℕ) → a ≤ b → a - x ≤ b - x
less_le a b x h = omega arith

-- the cells from s + 2 to e, out of those from base to end
part_of_stretch : {A : Type 0} (l : List A) (base s e end : ℕ) → base ≤ s → e ≤ end → take (e - base - (s + 2 - base)) (drop (s + 2 - base) (take (end - base) (drop base l))) ≡ drop 2 (take (e - s) (drop s l))
part_of_stretch l base s e end h u =
    let a : e - base - (s + 2 - base) ≡ e - s - 2 = omega arith in
    let b : base + (s + 2 - base) ≡ s + 2 = omega arith in
    ap (take (e - base - (s + 2 - base))) (drop_take (s + 2 - base) (end - base) (drop base l) ∙ ap (take (end - base - (s + 2 - base))) (drop-drop (s + 2 - base) base l))
    ∙ take-take (e - base - (s + 2 - base)) (end - base - (s + 2 - base)) (drop (base + (s + 2 - base)) l) (less_le _ _ _ (less_le e end base u))
    ∙ ap (λ (n : ℕ). take n (drop (base + (s + 2 - base)) l)) a ∙ ap (λ (n : ℕ). take (e - s - 2) (drop n l)) b
    ∙ sym (drop_take 2 (e - s) (drop s l) ∙ ap (take (e - s - 2)) (drop-drop 2 s l))

-- the list of a range's one row, in the stretch of its kind
module _ {rs : List (List ℕ)} {t : List ℕ} (i : Indexed rs t) (k : ℕ) (small : k < 13) (r : Range) (within : r.from < r.to → r.from < count_in t k) where
  pub list_in_lem : part_in (list_in t k r) (stretch_in t k (k + 1)) ≡ cond (ltb r.from r.to) (drop 2 (kind_row t k r.from)) []
  unfolding part_in list_in kind_row stretch_in base_in
  list_in_lem =
      by_lt r.from r.to
      (λ h.
      let n = r.from in
      let w = within h in
      let f = first_in t k in
      let next : get_or t (kind_index + k + 1) 0 ≡ get_or t (kind_index + (k + 1)) 0 = ap (λ (j : ℕ). get_or t j 0) (add_assoc kind_index k 1) in
      let end : get_or t (kind_index + (k + 1)) 0 ≤ length rs = begin_within i (k + 1) (omega arith) in
      let few : length rs ≤ row_limit = i.held.few_rows in
      let fm : f % 65536 ≡ f = mod-eq_of_lt (omega arith) in
      let nm : n % 65536 ≡ n = mod-eq_of_lt (omega arith) in
      let low : start_in t f ≤ start_in t (f + n) = start_later i.held f n (omega arith) in
      let e1 : f + n + 1 + (get_or t (kind_index + (k + 1)) 0 - (f + n + 1)) ≡ get_or t (kind_index + (k + 1)) 0 = omega arith in
      let high : start_in t (f + n + 1) ≤ start_in t (get_or t (kind_index + (k + 1)) 0) = rw e1 at (start_later i.held (f + n + 1) (get_or t (kind_index + (k + 1)) 0 - (f + n + 1)) (omega arith)) in
      let sm : start_in t (f + n) % 65536 ≡ start_in t (f + n) = mod-eq_of_lt (omega (arith, start_within i.held (f + n) (omega arith))) in
      rw (lt-ltb n r.to h, lt-ltb n (count_in t k) w, fm, nm, sm)
      (part_of_stretch t (base_in t k) (start_in t (f + n)) (start_in t (f + n + 1)) (base_in t (k + 1)) low high))
      (λ h. rw (le-ltb r.from r.to h))

-- NEIGHBOURS
abbrev pub lists_in : List ℕ → Direction → ℕ → Range
lists_in t d b = chosen d (list_in t 7 (range_in t succ_index block_limit b)) (list_in t 8 (range_in t pred_index block_limit b))

module _ {t : List ℕ} (g : Ready t) (b : ℕ) where
  neighbours_are : (d : Direction) → part_in (lists_in t d b) (chosen d (stretch_in t 7 8) (stretch_in t 8 9)) ≡ chosen d (succs_of (sheet_in t) b) (preds_of (sheet_in t) b)
  unfolding chosen
  neighbours_are Successors =
      list_in_lem g.held 7 (omega arith) (range_in t succ_index block_limit b) (range_within t succ_index 7 block_limit g.built.succs (succs_below g) b) ∙ succs_of_lem g b
  neighbours_are Predecessors =
      list_in_lem g.held 8 (omega arith) (range_in t pred_index block_limit b) (range_within t pred_index 8 block_limit g.built.preds (preds_below g) b) ∙ preds_of_lem g b

-- by what the code hands on
pub neighbours_by : (t l s p : List ℕ) (r : Range) (d : Direction) (b : ℕ) → s ≡ stretch_in t 7 8 → p ≡ stretch_in t 8 9 → r ≡ lists_in t d b → l ≡ part_in r (chosen d s p) → Ready t
    → l ≡ chosen d (succs_of (sheet_in t) b) (preds_of (sheet_in t) b)
neighbours_by t l s p r d b e f h q g = q ∙ rw (e, f, h) (neighbours_are g b d)
