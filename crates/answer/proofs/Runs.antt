-- For Folds.antt, numbers one after the other: those that pass a test, what is written of each, and rows by their first fields. Assumes nothing.
use mathlib.Core.Path.{◌≡◌, refl, sym, ap, ap₂, ◌∙◌}
use mathlib.Core.Bool.{Bool, true, false}
use mathlib.Core.List.{List, [], ◌∷◌, ◌++◌, map, flat_map, zip_with, append_assoc}
use Prim.Native.Nat.{ℕ, zero, suc, ◌+◌, ◌-◌, ◌≤◌, ◌<◌}
use native.Mathlib.Nat.{add-zero}
use native.Mathlib.Numerals.{add-one}
use native.Mathlib.Omega.{arith}
use lib.ListN.{length, get_or}
use borrow.Author.Tests.{lt-ltb, le-ltb}
use Rattle.laws.specs.Lists.{keep, from}
use Rattle.laws.proofs.Cases.{by_lt}
use Rattle.rules.specs.Rows.{first}
use Rattle.table.specs.Index.{before, NeverFalls}

-- ---- the numbers from lo up to hi pass a test

pub keep_between : (p : ℕ → Bool) (e m a lo hi : ℕ) → a + m ≡ e → a ≤ lo → lo ≤ hi → hi ≤ e → ((n : ℕ) → lo ≤ n → n < hi → p n ≡ true) → ((n : ℕ) → a ≤ n → n < lo → p n ≡ false)
    → ((n : ℕ) → hi ≤ n → n < e → p n ≡ false) → keep p (from a m) ≡ from lo (hi - lo)
unfolding keep from
keep_between p e zero a lo hi q h u v mid low high = let z : hi - lo ≡ 0 = omega arith in rw z
keep_between p e (suc m) a lo hi q h u v mid low high =
    by_lt a lo
    (λ l. rw (low a (omega arith) l) (keep_between p e m (suc a) lo hi (omega arith) l u v mid (λ n x y. low n (omega arith) y) high))
    (λ l.
    let s : lo ≡ a = omega arith in
    by_lt a hi
    (λ k.
    let z : hi - lo ≡ suc (hi - suc a) = omega arith in
    rw (mid a l k, z, s)
    (ap (λ (r : List ℕ). a ∷ r) (keep_between p e m (suc a) (suc a) hi (omega arith) (omega arith) k v (λ n x y. mid n (omega arith) y) (λ n x y. absurd (omega arith)) high)))
    (λ k.
    let z : hi - lo ≡ 0 = omega arith in
    let y : suc a - suc a ≡ 0 = omega arith in
    rw (high a k (omega arith), z)
    (keep_between p e m (suc a) (suc a) (suc a) (omega arith) (omega arith) (omega arith) (omega arith) (λ n x y. absurd (omega arith)) (λ n x y. absurd (omega arith))
    (λ n x y. high n (omega arith) y) ∙ rw y)))

-- ---- each with its number

-- what is written of each, by its index k from the first, lo, on
pub numbered : {A B : Type 0} (f : B → List ℕ) (h : ℕ → A → B) (g : ℕ → A) (r : ℕ → List ℕ) (lo c k m : ℕ) → m ≡ lo + k
    → ((j : ℕ) → k ≤ j → j < k + c → f (h j (g (lo + j))) ≡ r (lo + j)) → flat_map f (zip_with h (from k c) (map g (from m c))) ≡ flat_map r (from m c)
unfolding from flat_map zip_with
numbered f h g r lo zero k m e z = refl
numbered f h g r lo (suc c) k m e z =
    let s : f (h k (g m)) ≡ r m = rw e (z k (omega arith) (omega arith)) in
    ap₂ (λ (x y : List ℕ). x ++ y) s (numbered f h g r lo c (suc k) (suc m) (omega arith) (λ j u v. z j (omega arith) (omega arith)))

pub flat_same : {A : Type 0} (f g : A → List ℕ) (l : List A) → ((x : A) → f x ≡ g x) → flat_map f l ≡ flat_map g l
unfolding flat_map
flat_same f g [] h = refl
flat_same f g (x ∷ l) h = rw (h x, flat_same f g l h)

pub flat_within : (f g : ℕ → List ℕ) (a n : ℕ) → ((i : ℕ) → a ≤ i → i < a + n → f i ≡ g i) → flat_map f (from a n) ≡ flat_map g (from a n)
unfolding flat_map from
flat_within f g a zero h = refl
flat_within f g a (suc n) h = rw (h a (omega arith) (omega arith), flat_within f g (suc a) n (λ i u v. h i (omega arith) (omega arith)))

-- ---- parts that follow one another

flat_join : (f : ℕ → List ℕ) (p q a : ℕ) → flat_map f (from a p) ++ flat_map f (from (a + p) q) ≡ flat_map f (from a (p + q))
unfolding flat_map from
flat_join f zero q a = let e : 0 + q ≡ q = omega arith in rw (add-zero a, e)
flat_join f (suc p) q a =
    let e : suc p + q ≡ suc (p + q) = omega arith in
    let s : a + suc p ≡ suc a + p = omega arith in
    rw (e, s, append_assoc) (ap (λ (r : List ℕ). f a ++ r) (flat_join f p q (suc a)))

pub stairs : (f : ℕ → List ℕ) (lo : ℕ → ℕ) → ((x y : ℕ) → x ≤ y → lo x ≤ lo y) → (m a : ℕ) → flat_map (λ i. flat_map f (from (lo i) (lo (i + 1) - lo i))) (from a m) ≡ flat_map f (from (lo a) (lo (a + m) - lo a))
unfolding flat_map from
stairs f lo up zero a = let e : lo (a + 0) - lo a ≡ 0 = rw (add-zero a) (omega arith) in rw e
stairs f lo up (suc m) a =
    let s : a + suc m ≡ suc a + m = omega arith in
    let x : lo a + (lo (suc a) - lo a) ≡ lo (suc a) = omega (arith, up a (suc a) (omega arith)) in
    let y : lo (suc a) - lo a + (lo (suc a + m) - lo (suc a)) ≡ lo (suc a + m) - lo a = omega (arith, up a (suc a) (omega arith), up (suc a) (suc a + m) (omega arith)) in
    rw (stairs f lo up m (suc a), add-one a, s)
    (ap (λ (i : ℕ). flat_map f (from (lo a) (lo (suc a) - lo a)) ++ flat_map f (from i (lo (suc a + m) - lo (suc a)))) (sym x)
    ∙ flat_join f (lo (suc a) - lo a) (lo (suc a + m) - lo (suc a)) (lo a) ∙ ap (λ (i : ℕ). flat_map f (from (lo a) i)) y)

-- ---- rows by their first fields

pub before_up : (rows : List (List ℕ)) (x y : ℕ) → x ≤ y → before x rows ≤ before y rows
unfolding before
before_up [] x y h = omega arith
before_up (r ∷ rows) x y h =
    by_lt (first r) x (λ l. rw (lt-ltb (first r) x l, lt-ltb (first r) y (omega arith)) (omega (arith, before_up rows x y h))) (λ l. rw (le-ltb (first r) x l) (omega arith))

pub before_below : (rows : List (List ℕ)) (x n : ℕ) → n < before x rows → first (get_or rows n []) < x
unfolding before
before_below [] x n h = absurd (omega arith)
before_below (r ∷ rows) x zero h = by_lt (first r) x (λ l. l) (λ l. absurd (let z = rw (le-ltb (first r) x l) at h in omega arith))
before_below (r ∷ rows) x (suc n) h =
    by_lt (first r) x (λ l. let z = rw (lt-ltb (first r) x l) at h in before_below rows x n (omega arith)) (λ l. absurd (let z = rw (le-ltb (first r) x l) at h in omega arith))

pub before_above : (rows : List (List ℕ)) → NeverFalls rows → (x n : ℕ) → before x rows ≤ n → n < length rows → x ≤ first (get_or rows n [])
unfolding before
before_above [] up x n h u = absurd (omega arith)
before_above (r ∷ rows) up x zero h u = by_lt (first r) x (λ l. absurd (let z = rw (lt-ltb (first r) x l) at h in omega arith)) (λ l. l)
before_above (r ∷ rows) up x (suc n) h u =
    by_lt (first r) x
    (λ l. let z = rw (lt-ltb (first r) x l) at h in before_above rows (λ i j a b. up (suc i) (suc j) (omega arith) (omega arith)) x n (omega arith) (omega arith))
    (λ l. omega (arith, up 0 (suc n) (omega arith) u))
