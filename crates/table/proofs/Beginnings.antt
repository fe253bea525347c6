-- For `kinds_begin` of specs/Table.antt: where each kind's rows begin, by counting; and a store before the cells leaves the rows. Assumes nothing.
use mathlib.Core.Path.{◌≡◌, refl, sym, ◌∙◌, ap}
use mathlib.Core.Bool.{Bool, true, false}
use mathlib.Core.List.{List, [], ◌∷◌}
use Prim.Native.Nat.{ℕ, zero, suc, ◌+◌, ◌-◌, ◌<◌, ◌≤◌}
use native.Mathlib.Nat.{add-zero}
use native.Mathlib.Omega.{arith}
use lib.ListN.{length, get_or, take, set, length-set, get_or-map}
use lib.Seq.{drop-set-lt, get_or-set_same, get_or-set_other}
use lib.Dec.{ltb}
use Rattle.laws.specs.Lists.{keep, from}
use Rattle.laws.proofs.Lists.{get_d_any}
use Rattle.rules.specs.Words.{slots_word}
use Rattle.rules.specs.Rows.{kind}
use Rattle.table.specs.Layout.{cells_at}
use Rattle.table.specs.Rows.{start_in}
use Rattle.table.specs.Table.{flatten, kinds_begin, Holds, Rising}

-- ---- counting

-- a test that the first i pass and no other does
pub counted : (p : List ℕ → Bool) (rs : List (List ℕ)) (i : ℕ) → i ≤ length rs → ((j : ℕ) → j < i → p (get_or rs j []) ≡ true)
    → ((j : ℕ) → i ≤ j → j < length rs → p (get_or rs j []) ≡ false) → length (keep p rs) ≡ i
unfolding keep
counted p [] i h a b = omega arith
counted p (r ∷ rs) zero h a b =
    rw (b 0 (omega arith) (omega arith)) (counted p rs zero (omega arith) (λ j l. absurd (omega arith)) (λ j l u. b (suc j) (omega arith) (omega arith)))
counted p (r ∷ rs) (suc i) h a b =
    rw (a 0 (omega arith)) (ap suc (counted p rs i (omega arith) (λ j l. a (suc j) (omega arith)) (λ j l u. b (suc j) (omega arith) (omega arith))))

-- kinds that never fall from one row to the next never fall
pub later : (rs : List (List ℕ)) → Rising rs → (i d : ℕ) → i + d < length rs → kind (get_or rs i []) ≤ kind (get_or rs (i + d) [])
unfolding Rising
later rs up i zero h = rw add-zero (omega arith)
later rs up i (suc d) h =
    let e : i + suc d ≡ i + d + 1 = omega arith in
    rw e (omega (arith, later rs up i d (omega arith), up (i + d) (omega arith)))

-- ---- the list of beginnings

unfoldable pub before : ℕ → List (List ℕ) → ℕ
before k rs = length (keep (λ r. ltb (kind r) (slots_word + k)) rs)

-- the list from 0 on, at k and as long as it is
pub from_at : (a n k : ℕ) → k < n → get_or (from a n) k 0 ≡ a + k
unfolding from
from_at a zero k h = absurd (omega arith)
from_at a (suc n) zero h = sym (add-zero a)
from_at a (suc n) (suc k) h = from_at (suc a) n k (omega arith) ∙ omega arith

pub long : (rs : List (List ℕ)) → length (kinds_begin rs) ≡ 14
unfolding kinds_begin from
long rs = refl

pub begin_at : (rs : List (List ℕ)) (k : ℕ) → k < 14 → get_or (kinds_begin rs) k 0 ≡ before k rs
unfolding kinds_begin before
begin_at rs k h =
    get_d_any (kinds_begin rs) k 0 (before 0 rs) (rw (long rs) h)
    ∙ get_or-map (λ j. before j rs) (from 0 14) k 0 ∙ ap (λ (j : ℕ). before j rs) (from_at 0 14 k h ∙ omega arith)

-- ---- a store and where rows start

module _ (t : List ℕ) (j v i : ℕ) where
  pub start_kept : (length t - (i + 1) ≡ j → ⊥) → start_in (set t j v) i ≡ start_in t i
  start_kept d = ap (λ (m : ℕ). get_or (set t j v) (m - (i + 1)) 0) (length-set t j v) ∙ get_or-set_other t j (length t - (i + 1)) v 0 d

  pub start_stored : i < length t → j ≡ length t - (i + 1) → start_in (set t j v) i ≡ v
  start_stored h e =
      ap (λ (m : ℕ). get_or (set t j v) (m - (i + 1)) 0) (length-set t j v) ∙ ap (λ (m : ℕ). get_or (set t j v) m 0) (sym e) ∙ get_or-set_same t j v 0 (omega arith)

-- a store before the cells leaves the rows
pub holds_store : {rs : List (List ℕ)} {t : List ℕ} → Holds rs t → (j v : ℕ) → j < cells_at → Holds rs (set t j v)
holds_store {rs} {t} h j v l =
    record {
      cells_begin = ap (take (length (flatten rs))) (drop-set-lt cells_at t j v l) ∙ h.cells_begin;
      starts_begin = λ i u. start_kept t j v i (λ e. omega (arith, h.apart)) ∙ h.starts_begin i u;
      apart = rw (length-set t j v) h.apart;
      few_cells = h.few_cells;
      few_rows = h.few_rows;
    }
