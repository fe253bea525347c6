-- For `kind_row` and `count_in` of specs/Rows.antt, the rows of one kind: row n of kind k in the table is the n-th of the sheet's rows of that kind, and there are as many.
-- Assumes nothing.
use mathlib.Core.Path.{◌≡◌, sym, ◌∙◌, ap}
use mathlib.Core.Bool.{Bool, true, false}
use mathlib.Core.List.{List, [], ◌∷◌}
use Prim.Native.Nat.{ℕ, zero, suc, ◌+◌, ◌-◌, ◌<◌, ◌≤◌}
use native.Mathlib.Nat.{add_assoc}
use native.Mathlib.Omega.{arith}
use lib.ListN.{length, get_or, take, drop, length-drop, get_or-eq_default}
use lib.Seq.{get_or-take, get_or-drop, take-nil, drop-nil, length-take-le}
use lib.Dec.{eqb, ltb}
use borrow.Author.Tests.{lt-ltb, le-ltb, eq-eqb, ne_eqb}
use Rattle.laws.specs.Lists.{keep}
use Rattle.laws.proofs.Cases.{by_lt}
use Rattle.rules.specs.Words.{slots_word}
use Rattle.rules.specs.Rows.{kind}
use Rattle.table.specs.Layout.{kind_index}
use Rattle.table.specs.Rows.{count_in, kind_row}
use Rattle.table.specs.Table.{Rising, Indexed}
use Rattle.table.proofs.Holding.{row_is}
use Rattle.table.proofs.Beginnings.{before, begin_at, counted, later}

-- those that pass a test that rows a to b pass and no other does
segment : (p : List ℕ → Bool) (rs : List (List ℕ)) (a b : ℕ) → a ≤ b → b ≤ length rs → ((j : ℕ) → j < a → p (get_or rs j []) ≡ false)
    → ((j : ℕ) → a ≤ j → j < b → p (get_or rs j []) ≡ true) → ((j : ℕ) → b ≤ j → j < length rs → p (get_or rs j []) ≡ false)
    → keep p rs ≡ take (b - a) (drop a rs)
unfolding keep
segment p [] a b h l f g e = rw (drop-nil, take-nil)
segment p (r ∷ rs) zero zero h l f g e =
    rw (e 0 (omega arith) (omega arith)) (segment p rs zero zero h (omega arith) (λ j u. absurd (omega arith)) (λ j u v. absurd (omega arith)) (λ j u v. e (suc j) (omega arith) (omega arith)))
segment p (r ∷ rs) zero (suc b) h l f g e =
    let longer : suc (b - 0) ≡ suc b - 0 = omega arith in
    rw (g 0 (omega arith) (omega arith))
    (ap (λ (x : List (List ℕ)). r ∷ x)
    (segment p rs zero b (omega arith) (omega arith) (λ j u. absurd (omega arith)) (λ j u v. g (suc j) (omega arith) (omega arith)) (λ j u v. e (suc j) (omega arith) (omega arith)))
    ∙ ap (λ (n : ℕ). take n (r ∷ rs)) longer)
segment p (r ∷ rs) (suc a) zero h l f g e = absurd (omega arith)
segment p (r ∷ rs) (suc a) (suc b) h l f g e =
    let same : b - a ≡ suc b - suc a = omega arith in
    rw (f 0 (omega arith))
    (segment p rs a b (omega arith) (omega arith) (λ j u. f (suc j) (omega arith)) (λ j u v. g (suc j) (omega arith) (omega arith)) (λ j u v. e (suc j) (omega arith) (omega arith))
    ∙ ap (λ (n : ℕ). take n (drop a rs)) same)

-- the row up to which kinds are below c: there is one, and it is as far on as there are rows below c
pub record Parts (rs : List (List ℕ)) (c i : ℕ) : Type 0 where
  pub within : i ≤ length rs
  pub low : (j : ℕ) → j < i → kind (get_or rs j []) < c
  pub high : (j : ℕ) → i ≤ j → j < length rs → c ≤ kind (get_or rs j [])

module _ (rs : List (List ℕ)) (up : Rising rs) where
  parted : (c d i : ℕ) → i + d ≡ length rs → ((j : ℕ) → j < i → kind (get_or rs j []) < c) → (i : ℕ) × Parts rs c i
  parted c zero i e f = (i, record { within = omega arith; low = f; high = λ j a b. absurd (omega arith) })
  parted c (suc d) i e f =
      by_lt (kind (get_or rs i [])) c (λ h. parted c d (i + 1) (omega arith) (λ j u. by_lt j i (λ l. f j l) (λ l. let q : j ≡ i = omega arith in rw q h)))
      (λ h. (
        i,
        record {
          within = omega arith;
          low = f;
          high =
              λ j a b.
              let q : i + (j - i) ≡ j = omega arith in
              let z : kind (get_or rs i []) ≤ kind (get_or rs j []) = rw q at (later rs up i (j - i) (omega arith)) in omega arith;
        },
      ))

  parts : (k : ℕ) → Parts rs (slots_word + k) (before k rs)
  unfolding before
  parts k =
      let x = parted (slots_word + k) (length rs) 0 (omega arith) (λ j u. absurd (omega arith)) in
      let p = x.1 in
      let e : before k rs ≡ x.0 = counted (λ r. ltb (kind r) (slots_word + k)) rs x.0 p.within (λ j u. lt-ltb _ _ (p.low j u)) (λ j a b. le-ltb _ _ (p.high j a b)) in
      rw e p

  of_kind_lem : (k : ℕ) → keep (λ r. eqb (kind r) (slots_word + k)) rs ≡ take (before (k + 1) rs - before k rs) (drop (before k rs) rs)
  of_kind_lem k =
      let a = parts k in
      let b = parts (k + 1) in
      segment (λ r. eqb (kind r) (slots_word + k)) rs (before k rs) (before (k + 1) rs) (rises k) b.within
      (λ j u. ne_eqb (kind (get_or rs j [])) (slots_word + k) (λ e. omega (arith, a.low j u)))
      (λ j u v. eq-eqb (kind (get_or rs j [])) (slots_word + k) (omega (arith, a.high j u (omega (arith, b.within)), b.low j v)))
      (λ j u v. ne_eqb (kind (get_or rs j [])) (slots_word + k) (λ e. omega (arith, b.high j u v)))
    where
      rises : (k : ℕ) → before k rs ≤ before (k + 1) rs
      rises k =
          by_lt (before (k + 1) rs) (before k rs)
          (λ h. absurd (omega (arith, (parts k).low (before (k + 1) rs) h, (parts (k + 1)).high (before (k + 1) rs) (omega arith) (omega (arith, (parts k).within)))))
          (λ h. h)

module _ {rs : List (List ℕ)} {t : List ℕ} (x : Indexed rs t) where
  pub begin_is : (k : ℕ) → k < 14 → get_or t (kind_index + k) 0 ≡ before k rs
  begin_is k h =
      sym (get_or-take 14 (drop kind_index t) k 0 h ∙ get_or-drop kind_index t k 0) ∙ ap (λ (l : List ℕ). get_or l k 0) x.kinds_begun ∙ begin_at rs k h

  pub begin_within : (k : ℕ) → k < 14 → get_or t (kind_index + k) 0 ≤ length rs
  begin_within k h = rw (begin_is k h) (parts rs x.rising k).within

  end_is : (k : ℕ) → k < 13 → get_or t (kind_index + k + 1) 0 ≡ before (k + 1) rs
  end_is k h = ap (λ (j : ℕ). get_or t j 0) (add_assoc kind_index k 1) ∙ begin_is (k + 1) (omega arith)

  -- how many rows there are of kind k
  pub count_is : (k : ℕ) → k < 13 → count_in t k ≡ length (keep (λ r. eqb (kind r) (slots_word + k)) rs)
  count_is k h =
      let b = parts rs x.rising (k + 1) in
      rw (begin_is k (omega arith), end_is k h, of_kind_lem rs x.rising k)
      (sym (length-take-le _ (drop (before k rs) rs) (rw length-drop (omega (arith, b.within)))))

  -- and the n-th of them
  pub kind_row_is : (k : ℕ) → k < 13 → (n : ℕ) → kind_row t k n ≡ get_or (keep (λ r. eqb (kind r) (slots_word + k)) rs) n []
  unfolding kind_row
  kind_row_is k h n =
      let b = parts rs x.rising (k + 1) in
      by_lt n (count_in t k)
      (λ l.
      let l' : n < before (k + 1) rs - before k rs = rw (begin_is k (omega arith), end_is k h) at l in
      rw (lt-ltb n (count_in t k) l, begin_is k (omega arith), row_is x.held (before k rs + n) (omega (arith, b.within)), of_kind_lem rs x.rising k)
      (sym (get_or-take _ (drop (before k rs) rs) n [] l' ∙ get_or-drop (before k rs) rs n [])))
      (λ l. rw (le-ltb n (count_in t k) l) (sym (get_or-eq_default (keep (λ r. eqb (kind r) (slots_word + k)) rs) [] {n = n} (omega (arith, count_is k h)))))
