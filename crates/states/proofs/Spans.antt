-- The loops of src/handed.rt that store into a part of a list, one place a turn; and parts by their elements. Assumes nothing.
use mathlib.Core.Path.{◌≡◌, refl, sym, ap, ◌∙◌}
use mathlib.Core.Bool.{Bool, true, false, not, ◌||◌}
use mathlib.Core.List.{List, [], ◌∷◌, map, zip_with}
use Prim.Native.Nat.{ℕ, zero, suc, ◌+◌, ◌≤◌, ◌<◌}
use native.Mathlib.Omega.{arith}
use lib.ListN.{length, get_or, take, drop, replicate, length-replicate, get_or-replicate}
use lib.Dec.{eqb}
use borrow.Author.Tests.{eq-eqb, ne_eqb}
use native.Mathlib.Numerals.{add-one}
use lib.Seq.{ext_get_or, get_or-take, get_or-drop}
use Rattle.laws.specs.Fold.{run}
use Rattle.laws.specs.Lists.{from}
use Rattle.laws.proofs.Cases.{by_eq}
use Rattle.laws.proofs.Lists.{run_more}
pub use Rattle.laws.specs.Spans.{Span}
pub use Rattle.laws.proofs.Lists.{span_none, span_store}
use Rattle.table.proofs.Loops.{never}
use Rattle.record.specs.Flat.{section}
use Rattle.record.proofs.Parts.{length-section}
pub use Rattle.record.proofs.Parts.{span_put, span_filled}

module _ (l : List ℕ) (at k : ℕ) (fits : at + k ≤ length l) where
  pub section_at : (j : ℕ) → j < k → get_or (section l at k) j 0 ≡ get_or l (at + j) 0
  section_at j h = get_or-take k (drop at l) j 0 h ∙ get_or-drop at l j 0

  -- a part is the list that has its elements
  pub section_is : (m : List ℕ) → length m ≡ k → ((j : ℕ) → j < k → get_or l (at + j) 0 ≡ get_or m j 0) → section l at k ≡ m
  section_is m e h =
      let s : length (section l at k) ≡ k = length-section l at k fits in
      ext_get_or 0 (section l at k) m (s ∙ sym e) (λ j u. section_at j (omega arith) ∙ h j (omega arith))

-- the same part of two lists that agree there
pub section_same : (l l' : List ℕ) (at k : ℕ) → length l' ≡ length l → at + k ≤ length l → ((j : ℕ) → j < k → get_or l' (at + j) 0 ≡ get_or l (at + j) 0) → section l' at k ≡ section l at k
section_same l l' at k e fits h =
    section_is l' at k (omega arith) (section l at k) (length-section l at k fits) (λ j u. h j u ∙ sym (section_at l at k fits j u))

-- `went` tells if one of the first i stores changed something
pub record Kept (f v : ℕ → ℕ) (i : ℕ) (went : Bool) : Type 0 where
  pub no : went ≡ false → (j : ℕ) → j < i → f j ≡ v j
  pub yes : went ≡ true → ((j : ℕ) → j < i → f j ≡ v j) → ⊥

module _ (f v : ℕ → ℕ) where
  pub kept_next : (i : ℕ) (went went' : Bool) → Kept f v i went → went' ≡ (went || not (eqb (f i) (v i))) → Kept f v (i + 1) went'
  kept_next i true went' k e = record { no = λ z. never (sym z ∙ e); yes = λ z g. k.yes refl (λ j h. g j (omega arith)) }
  kept_next i false went' k e =
      by_eq (f i) (v i)
      (λ q.
      let z : went' ≡ false = e ∙ ap not (eq-eqb (f i) (v i) q) in
      record { no = λ _. λ j h. by_eq j i (λ p. rw (p, q)) (λ d. k.no refl j (omega arith)); yes = λ y. never (sym z ∙ y) })
      (λ n.
      let z : went' ≡ true = e ∙ ap not (ne_eqb (f i) (v i) n) in
      record { no = λ y. never (sym y ∙ z); yes = λ _. λ g. n (g i (omega arith)) })

-- ---- elements of lists made of lists

pub map_at : (h : ℕ → ℕ) (l : List ℕ) (j : ℕ) → j < length l → get_or (map h l) j 0 ≡ h (get_or l j 0)
map_at h [] j u = absurd (omega arith)
map_at h (x ∷ l) zero u = refl
map_at h (x ∷ l) (suc j) u = map_at h l j (omega arith)

pub zip_long : (g : ℕ → ℕ → ℕ) (l m : List ℕ) → length l ≡ length m → length (zip_with g l m) ≡ length l
unfolding zip_with
zip_long g [] m e = refl
zip_long g (x ∷ l) [] e = absurd (omega arith)
zip_long g (x ∷ l) (y ∷ m) e = ap suc (zip_long g l m (omega arith))

pub zip_at : (g : ℕ → ℕ → ℕ) (l m : List ℕ) (j : ℕ) → j < length l → j < length m → get_or (zip_with g l m) j 0 ≡ g (get_or l j 0) (get_or m j 0)
unfolding zip_with
zip_at g [] m j u w = absurd (omega arith)
zip_at g (x ∷ l) [] j u w = absurd (omega arith)
zip_at g (x ∷ l) (y ∷ m) zero u w = refl
zip_at g (x ∷ l) (y ∷ m) (suc j) u w = zip_at g l m j (omega arith) (omega arith)

-- a part that is filled with v
pub section_filled : (l : List ℕ) (at k v : ℕ) → at + k ≤ length l → ((j : ℕ) → j < k → get_or l (at + j) 0 ≡ v) → section l at k ≡ replicate k v
section_filled l at k v fits h = section_is l at k fits (replicate k v) (length-replicate k v) (λ j u. h j u ∙ sym (get_or-replicate k j v 0 u))

-- a run's last step
module _ {S A : Type 0} (f : S → A → S) (d : A) where
  run_suc : (s : S) (l : List A) (k : ℕ) → k < length l → run f s (take (suc k) l) ≡ f (run f s (take k l)) (get_or l k d)
  unfolding run
  run_suc s [] k h = absurd (omega arith)
  run_suc s (x ∷ l) zero h = refl
  run_suc s (x ∷ l) (suc k) h = run_suc (f s x) l k (omega arith)

  pub run_take : (s : S) (l : List A) (k : ℕ) → k < length l → run f s (take (k + 1) l) ≡ f (run f s (take k l)) (get_or l k d)
  run_take s l k h = ap (λ (n : ℕ). run f s (take n l)) (add-one k) ∙ run_suc s l k h

-- the same over the numbers from 0 on
module _ {S : Type 0} (f : S → ℕ → S) where
  pub run_from : (s : S) (n : ℕ) → run f s (from 0 (n + 1)) ≡ f (run f s (from 0 n)) n
  run_from s n = ap (λ (m : ℕ). run f s (from 0 m)) (add-one n) ∙ run_more f s 0 n ∙ ap (f (run f s (from 0 n))) (omega arith)
