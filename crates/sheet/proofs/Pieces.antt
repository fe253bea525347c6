-- For `digits` and `packed` of src/fields.rt and `number` and `word` of src/lexing.rt: the bytes at the head that pass a test, and that they are the
-- field, or else the field has no cell and no end stands behind them. Assumes nothing.
use mathlib.Core.Path.{◌≡◌, refl, sym, ◌∙◌, ap}
use mathlib.Core.Bool.{Bool, true, false, ◌&&◌, ◌||◌}
use mathlib.Core.List.{List, [], ◌∷◌}
use mathlib.Core.Option.{Option, none, some}
use Prim.Native.Nat.{ℕ, zero, suc, ◌+◌, ◌-◌, ◌<◌, ◌≤◌}
use native.Mathlib.Omega.{arith}
use lib.ListN.{length, get_or, drop, get_or-eq_default}
use lib.Dec.{eqb, leb}
use borrow.Author.Tests.{eqb-true, le-leb, lt-leb, leb-true}
use Rattle.laws.specs.Lists.{all}
use Rattle.laws.proofs.Cases.{by_bool, by_lt, never, and_parts, and_both}
use Rattle.sheet.specs.Answers.{up_to, comma, crlf, ended, field_by, lead}
use Rattle.std.specs.declared.option.Option.TheVariants.{None}
use Rattle.sheet.proofs.Lists.{drop_step, drop_end}

-- ---- the bytes at the head

module _ (p : ℕ → Bool) where
  pub lead_all : (k : ℕ) (t : List ℕ) → all p (lead p k t) ≡ true
  unfolding lead
  lead_all zero t = refl
  lead_all (suc k) [] = refl
  lead_all (suc k) (b ∷ bs) = by_bool (p b) (λ e. rw (e, e) (lead_all k bs)) (λ e. rw e)

  pub lead_few : (k : ℕ) (t : List ℕ) → length (lead p k t) ≤ k
  unfolding lead
  lead_few zero t = omega arith
  lead_few (suc k) [] = omega arith
  lead_few (suc k) (b ∷ bs) = by_bool (p b) (λ e. rw e (omega (arith, lead_few k bs))) (λ e. rw e (omega arith))

  pub lead_within : (k : ℕ) (t : List ℕ) → length (lead p k t) ≤ length t
  unfolding lead
  lead_within zero t = omega arith
  lead_within (suc k) [] = omega arith
  lead_within (suc k) (b ∷ bs) = by_bool (p b) (λ e. rw e (omega (arith, lead_within k bs))) (λ e. rw e (omega arith))

  pub lead_first : (k : ℕ) (t : List ℕ) → 0 < length (lead p k t) → get_or (lead p k t) 0 0 ≡ get_or t 0 0
  unfolding lead
  lead_first zero t h = absurd (omega arith)
  lead_first (suc k) [] h = refl
  lead_first (suc k) (b ∷ bs) h = by_bool (p b) (λ e. rw e) (λ e. absurd (omega (arith, rw e at h)))

  pub lead_bytes : (n k : ℕ) (t : List ℕ) → 0 < n → ((i : ℕ) → get_or t i 0 < n) → (i : ℕ) → get_or (lead p k t) i 0 < n
  unfolding lead
  lead_bytes n zero t z h i = z
  lead_bytes n (suc k) [] z h i = z
  lead_bytes n (suc k) (b ∷ bs) z h zero = by_bool (p b) (λ e. rw e (h 0)) (λ e. rw e z)
  lead_bytes n (suc k) (b ∷ bs) z h (suc i) = by_bool (p b) (λ e. rw e (lead_bytes n k bs z (λ j. h (suc j)) i)) (λ e. rw e z)

  -- at a cursor
  pub lead_more : (n : ℕ) (t : List ℕ) (k : ℕ) → p 0 ≡ false → k < n → p (get_or t k 0) ≡ true
      → lead p (n - k) (drop k t) ≡ get_or t k 0 ∷ lead p (n - (k + 1)) (drop (k + 1) t)
  unfolding lead
  lead_more n t k z h e =
      let m : n - k ≡ suc (n - (k + 1)) = omega arith in
      by_lt k (length t) (λ l. rw (m, drop_step t k l, e)) (λ l. never (sym z ∙ ap p (sym (get_or-eq_default t 0 l)) ∙ e))

  pub lead_stop : (n : ℕ) (t : List ℕ) (k : ℕ) → p (get_or t k 0) ≡ false → lead p n (drop k t) ≡ []
  unfolding lead
  lead_stop zero t k e = refl
  lead_stop (suc n) t k e = by_lt k (length t) (λ l. rw (drop_step t k l, e)) (λ l. rw (drop_end t k l))

  pub lead_done : (n : ℕ) (t : List ℕ) (k : ℕ) → n ≤ k → lead p (n - k) t ≡ []
  unfolding lead
  lead_done n t k h = let z : n - k ≡ 0 = omega arith in rw z

-- ---- and the field

leb_suc : (m k : ℕ) → leb (suc m) (suc k) ≡ leb m k
leb_suc m k = by_lt k m (λ h. lt-leb (suc m) (suc k) (omega arith) ∙ sym (lt-leb m k h)) (λ h. le-leb (suc m) (suc k) (omega arith) ∙ sym (le-leb m k h))

no_end : (b : ℕ) (bs : List ℕ) → (eqb b 44 || eqb b 13) ≡ false → (comma (b ∷ bs) ≡ false) × (crlf (b ∷ bs) ≡ false)
unfolding comma crlf
no_end b bs e = go (eqb b 44) (eqb b 13) refl refl e bs
  where
    go : (p q : Bool) → eqb b 44 ≡ p → eqb b 13 ≡ q → (p || q) ≡ false → (bs : List ℕ) → (comma (b ∷ bs) ≡ false) × (crlf (b ∷ bs) ≡ false)
    go true q x y e bs = never (sym e)
    go false true x y e bs = never (sym e)
    go false false x y e [] = (x, refl)
    go false false x y e (d ∷ ds) = (x, rw y)

module _ (p : ℕ → Bool) (no-comma : p 44 ≡ false) (no-cr : p 13 ≡ false) where
  an_end : (b : ℕ) → (eqb b 44 || eqb b 13) ≡ true → p b ≡ false
  an_end b e = go (eqb b 44) (eqb b 13) refl refl e
    where
      go : (x y : Bool) → eqb b 44 ≡ x → eqb b 13 ≡ y → (x || y) ≡ true → p b ≡ false
      go true y f g e = ap p (eqb-true b 44 f) ∙ no-comma
      go false true f g e = ap p (eqb-true b 13 g) ∙ no-cr
      go false false f g e = never e

  -- where all of the field passes and is short enough, it is what stands at the head
  head_is : (k : ℕ) (t : List ℕ) → (all p (up_to t) && leb (length (up_to t)) k) ≡ true → lead p k t ≡ up_to t
  unfolding lead up_to
  head_is zero [] h = refl
  head_is (suc k) [] h = refl
  head_is zero (b ∷ bs) h =
      by_bool (eqb b 44 || eqb b 13) (λ e. rw e)
      (λ e. absurd (omega (arith, leb-true (suc (length (up_to bs))) 0 (and_parts (p b && all p (up_to bs)) _ (rw e at h)).1)))
  head_is (suc k) (b ∷ bs) h =
      by_bool (eqb b 44 || eqb b 13) (λ e. rw (e, an_end b e))
      (λ e.
      let x = and_parts (p b && all p (up_to bs)) (leb (suc (length (up_to bs))) (suc k)) (rw e at h) in
      let y = and_parts (p b) (all p (up_to bs)) x.0 in
      rw (e, y.0) (ap (λ (l : List ℕ). b ∷ l) (head_is k bs (and_both _ _ y.1 (sym (leb_suc (length (up_to bs)) k) ∙ x.1)))))

  -- and where not, no end stands behind that
  not_ended : (k : ℕ) (t : List ℕ) → (all p (up_to t) && leb (length (up_to t)) k) ≡ false
      → (comma (drop (length (lead p k t)) t) ≡ false) × (crlf (drop (length (lead p k t)) t) ≡ false)
  unfolding lead up_to
  not_ended k [] h = never (sym h ∙ le-leb 0 k (omega arith))
  not_ended zero (b ∷ bs) h =
      by_bool (eqb b 44 || eqb b 13) (λ e. never (sym (rw e at h))) (λ e. no_end b bs e)
  not_ended (suc k) (b ∷ bs) h =
      by_bool (eqb b 44 || eqb b 13) (λ e. never (sym (rw e at h) ∙ le-leb 0 (suc k) (omega arith)))
      (λ e. by_bool (p b) (λ g. rw g (not_ended k bs (rw (e, g, leb_suc (length (up_to bs)) k) at h))) (λ g. rw g (no_end b bs e)))

  -- so a reading that gives nothing to fields that do not pass or are too long may be made of what stands at the head
  module _ (k : ℕ) (cell : List ℕ → Option ℕ) (out : (f : List ℕ) → (all p f && leb (length f) k) ≡ false → cell f ≡ none) (t : List ℕ) (at : ℕ) where
    pub head_unread : cell (lead p k t) ≡ none → None ≡ field_by cell t at
    unfolding ended
    head_unread e =
        let n : cell (up_to t) ≡ none =
        by_bool (all p (up_to t) && leb (length (up_to t)) k) (λ w. ap cell (sym (head_is k t w)) ∙ e) (λ w. out (up_to t) w) in
        rw n

    pub head_ended : (v : ℕ) → cell (lead p k t) ≡ some v
        → ended (some v) (comma (drop (length (lead p k t)) t)) (crlf (drop (length (lead p k t)) t)) (at + length (lead p k t)) ≡ field_by cell t at
    unfolding ended
    head_ended v e =
        by_bool (all p (up_to t) && leb (length (up_to t)) k)
        (λ w.
        let q = head_is k t w in
        let g : cell (up_to t) ≡ some v = ap cell (sym q) ∙ e in
        rw (q, g))
        (λ w.
        let x = not_ended k t w in
        let n = out (up_to t) w in
        rw (x.0, x.1, n))
