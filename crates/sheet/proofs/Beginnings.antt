-- For `index` of src/kinds.rt, its loop: where each kind's rows begin, one kind or one row at a time. Assumes nothing.
use mathlib.Core.Path.{◌≡◌, sym, ◌∙◌, ap}
use mathlib.Core.Bool.{Bool, true, false, ◌&&◌}
use mathlib.Core.List.{List, [], ◌∷◌, ◌++◌}
use Prim.Native.Nat.{ℕ, zero, suc, ◌+◌, ◌-◌, ◌<◌, ◌≤◌}
use native.Mathlib.Numerals.{add-one}
use native.Mathlib.Omega.{arith}
use lib.ListN.{length, get_or, take, drop, set}
use lib.Seq.{take-suc, take_all}
use lib.Dec.{ltb, eqb}
use borrow.Author.Tests.{lt-ltb, le-ltb, ltb-true, ltb-false}
use Rattle.laws.specs.Lists.{all}
use Rattle.laws.proofs.Cases.{by_eq, and_parts}
use Rattle.rules.specs.Words.{slots_word}
use Rattle.rules.specs.Rows.{kind, row_ok, pair_ok, pairs_ok, sheet_ok}
use Rattle.rules.specs.Cells.{word}
use Rattle.table.specs.Layout.{kind_index}
use Rattle.table.specs.Table.{kinds_begin, Holds, Rising, Indexed}
use Rattle.table.specs.Rows.{row_in}
use Rattle.sheet.proofs.Buffers.{section_store}
use Rattle.table.proofs.Holding.{row_is}
use Rattle.table.proofs.Beginnings.{counted, later, before, long, begin_at, holds_store}
use Rattle.table.proofs.Orders.{pair_kind}

-- ---- the loop

pub record Indexing (rs : List (List ℕ)) (t : List ℕ) (i k : ℕ) : Type 0 where
  pub held : Holds rs t
  pub begun : take k (drop kind_index t) ≡ take k (kinds_begin rs)
  pub passed : (j : ℕ) → j < i → kind (get_or rs j []) < slots_word + k

module _ {rs : List (List ℕ)} {t : List ℕ} {i k : ℕ} (x : Indexing rs t i k) where
  pub row_more : i < length rs → kind (row_in t i) < slots_word + k → Indexing rs t (i + 1) k
  row_more h l =
      record {
        held = x.held;
        begun = x.begun;
        passed = λ j u. by_eq j i (λ e. rw (e, ← row_is x.held i h) l) (λ d. x.passed j (omega arith));
      }

  pub kind_more : Rising rs → k < 14 → i ≤ length rs → kind_index + k < length t → (i < length rs → slots_word + k ≤ kind (row_in t i))
      → Indexing rs (set t (kind_index + k) i) i (k + 1)
  unfolding before
  kind_more up l h m g =
      let at_i : i < length rs → slots_word + k ≤ kind (get_or rs i []) = λ u. rw (← row_is x.held i u) (g u) in
      let later-i : (j : ℕ) → i ≤ j → j < length rs → slots_word + k ≤ kind (get_or rs j []) =
      λ j a b.
      let e : i + (j - i) ≡ j = omega arith in
      let z : kind (get_or rs i []) ≤ kind (get_or rs j []) = rw e at (later rs up i (j - i) (omega arith)) in
      omega (arith, z, at_i (omega arith)) in
      let count : before k rs ≡ i =
      counted (λ r. ltb (kind r) (slots_word + k)) rs i h (λ j u. lt-ltb _ _ (x.passed j u)) (λ j a b. le-ltb _ _ (later-i j a b)) in
      record {
        held = holds_store x.held (kind_index + k) i (omega arith);
        begun =
            section_store t kind_index k i m ∙ ap (λ (l : List ℕ). l ++ (i ∷ [])) x.begun
            ∙ sym
            (ap (λ (n : ℕ). take n (kinds_begin rs)) (add-one k) ∙ take-suc (kinds_begin rs) k 0 (rw (long rs) l)
            ∙ ap (λ (v : ℕ). take k (kinds_begin rs) ++ (v ∷ [])) (begin_at rs k l ∙ count));
        passed = λ j u. omega (arith, x.passed j u);
      }

  pub all_kinds : Rising rs → k ≡ 14 → Indexed rs t
  all_kinds up e =
      record {
        held = x.held;
        kinds_begun = ap (λ (n : ℕ). take n (drop kind_index t)) (sym e) ∙ x.begun ∙ take_all k (kinds_begin rs) (rw (long rs) (omega arith));
        rising = up;
      }

-- of a table that held rows, whose kinds never fall
abbrev pub Goes : List ℕ → ℕ → List ℕ → ℕ → ℕ → Type 0
Goes t₀ n t i k = (rs : List (List ℕ)) → Holds rs t₀ → length rs ≡ n → Rising rs → Indexing rs t i k

-- ---- the rows of a sheet that passes the test never fall

pairs_rise : (p : List ℕ) (rs : List (List ℕ)) → pairs_ok p rs ≡ true → (i : ℕ) → suc i < length (p ∷ rs) → kind (get_or (p ∷ rs) i []) ≤ kind (get_or (p ∷ rs) (suc i) [])
unfolding pairs_ok
pairs_rise p [] e i h = absurd (omega arith)
pairs_rise p (r ∷ rs) e zero h = pair_kind p r (and_parts _ _ e).0
pairs_rise p (r ∷ rs) e (suc i) h = pairs_rise r rs (and_parts (pair_ok p r) _ e).1 i (omega arith)

pub sheet_rises : (rs : List (List ℕ)) → sheet_ok rs ≡ true → Rising rs
unfolding sheet_ok Rising
sheet_rises [] e i h = absurd (omega arith)
sheet_rises (r ∷ rs) e i h = rw add-one (pairs_rise r rs (and_parts (eqb (kind r) (word "slots") && all row_ok (r ∷ rs)) (pairs_ok r rs) e).1 i (omega arith))

-- ---- the code's test of row i

pub is_before : (i n a b : ℕ) → (ltb i n && ltb a b) ≡ true → (i < n) × (a < b)
is_before i n a b e = let x = and_parts (ltb i n) (ltb a b) e in (ltb-true i n x.0, ltb-true a b x.1)

pub not_before : (i n a b : ℕ) → (ltb i n && ltb a b) ≡ false → i < n → b ≤ a
not_before i n a b e h = ltb-false a b (sym (ap (λ (x : Bool). x && ltb a b) (lt-ltb i n h)) ∙ e)
