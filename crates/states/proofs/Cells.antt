-- A block's state by the cells that it lies in: `fits`, `known_at`, `is_set`, `state_in`, `states_in` and `Sets` of specs/States.antt, and `fits` and `is_set`
-- of src/handed.rt. What is stored there is left to FirstStates and Meeting. Assumes nothing.
use mathlib.Core.Path.{◌≡◌, refl, sym, ap, ◌∙◌}
use mathlib.Core.Bool.{true, false}
use mathlib.Core.List.{List}
use mathlib.Core.Option.{none, some}
use Prim.Native.Nat.{ℕ, ◌+◌, ◌-◌, ◌≤◌, ◌<◌}
use native.Mathlib.Omega.{arith}
use lib.ListN.{length, get_or, set, length-set}
use lib.Seq.{ext_get_or, get_or-set_same, get_or-set_other}
use lib.Dec.{eqb, ltb, leb}
use Rattle.entity.specs.Limits.{block_limit, reg_limit, slot_limit}
use borrow.Author.Tests.{lt-ltb, ltb-true, le-leb, leb-true}
use Rattle.laws.proofs.Cases.{by_eq, by_lt}
use Rattle.table.proofs.Sheets.{members_long, members_at}
use Rattle.table.proofs.Loops.{and_left, and_right, never}
use Rattle.rules.specs.Record.{Known}
use Rattle.record.specs.Flat.{section}
use Rattle.states.specs.Layout.{known_size, state_at}
use Rattle.states.specs.States.{Roomy, fits, known_at, is_set, state_in, states_in, Sets}
use Rattle.states.proofs.Spans.{Span, section_same, section_is, section_at}

pub states_long : (s : List ℕ) (n : ℕ) → length (states_in s n) ≡ n
unfolding states_in
states_long s n = members_long (state_in s) n

pub states_at : (s : List ℕ) (n c : ℕ) → c < n → get_or (states_in s n) c none ≡ state_in s c
unfolding states_in
states_at s n c h = members_at (state_in s) n c none h

-- 192 numbers by their elements
pub known_is : (l : List ℕ) (at : ℕ) (k : Known) → at + known_size ≤ length l → length k.held ≡ reg_limit → length k.stored ≡ slot_limit
    → ((j : ℕ) → j < reg_limit → get_or l (at + j) 0 ≡ get_or k.held j 0) → ((j : ℕ) → j < slot_limit → get_or l (at + (reg_limit + j)) 0 ≡ get_or k.stored j 0)
    → known_at l at ≡ k
known_is l at k fits a b f g =
    let p : section l at reg_limit ≡ k.held = section_is l at reg_limit (omega arith) k.held a f in
    let q : section l (at + reg_limit) slot_limit ≡ k.stored = section_is l (at + reg_limit) slot_limit (omega arith) k.stored b (λ j h. ap (λ (i : ℕ). get_or l i 0) (omega arith) ∙ g j h) in
    rw (p, q)

pub known_same : (l l' : List ℕ) (at : ℕ) → length l' ≡ length l → at + known_size ≤ length l → ((j : ℕ) → j < known_size → get_or l' (at + j) 0 ≡ get_or l (at + j) 0)
    → known_at l' at ≡ known_at l at
known_same l l' at e fits h =
    let p : section l' at reg_limit ≡ section l at reg_limit = section_same l l' at reg_limit e (omega arith) (λ j u. h j (omega arith)) in
    let q : section l' (at + reg_limit) slot_limit ≡ section l (at + reg_limit) slot_limit =
    section_same l l' (at + reg_limit) slot_limit e (omega arith)
    (λ j u. ap (λ (i : ℕ). get_or l' i 0) (omega arith) ∙ h (reg_limit + j) (omega arith) ∙ ap (λ (i : ℕ). get_or l i 0) (omega arith)) in
    cc

-- ---- room for a block

module _ (s : List ℕ) (b : ℕ) where
  pub fits_yes : b < block_limit → state_at (b + 1) ≤ length s → fits s b ≡ true
  unfolding fits
  fits_yes h l = rw (lt-ltb b block_limit h, le-leb (state_at (b + 1)) (length s) l)

  pub fits_below : fits s b ≡ true → b < block_limit
  unfolding fits
  fits_below e = ltb-true b block_limit (and_left (ltb b block_limit) (leb (state_at (b + 1)) (length s)) e)

  pub fits_room : fits s b ≡ true → state_at (b + 1) ≤ length s
  unfolding fits
  fits_room e = leb-true (state_at (b + 1)) (length s) (and_right (ltb b block_limit) (leb (state_at (b + 1)) (length s)) e)

-- as much room in a table as long
pub roomy_same : {n : ℕ} {s s' : List ℕ} → length s' ≡ length s → Roomy n s → Roomy n s'
roomy_same e r = record { few = r.few; long = omega (arith, r.long) }

-- there is room for each of the first n blocks
pub fits_in : {n : ℕ} {s : List ℕ} (c : ℕ) → Roomy n s → c < n → fits s c ≡ true
fits_in {n} {s} c r h = fits_yes s c (omega (arith, r.few)) (omega (arith, r.long))

pub fits_same : (s s' : List ℕ) (c : ℕ) → length s' ≡ length s → fits s' c ≡ fits s c
unfolding fits
fits_same s s' c e = rw e

-- a state is that of another table that agrees on its cells
pub state_same : (s s' : List ℕ) (c : ℕ) → length s' ≡ length s → fits s c ≡ true → ((j : ℕ) → j < known_size → get_or s' (state_at c + j) 0 ≡ get_or s (state_at c + j) 0)
    → get_or s' c 0 ≡ get_or s c 0 → state_in s' c ≡ state_in s c
unfolding state_in is_set
state_same s s' c e r f g =
    let k : known_at s' (state_at c) ≡ known_at s (state_at c) = known_same s s' (state_at c) e (omega (arith, fits_room s c r)) f in
    let q : fits s' c ≡ fits s c = fits_same s s' c e in
    rw (k, q, g)

pub state_set : (s : List ℕ) (b : ℕ) → fits s b ≡ true → get_or s b 0 ≡ 1 → state_in s b ≡ some (known_at s (state_at b))
unfolding state_in is_set
state_set s b h e = rw (h, e)

-- each of the 192 numbers of what is known
pub known_at_lem : (l l' : List ℕ) (at : ℕ) → at + known_size ≤ length l → at + known_size ≤ length l' → known_at l at ≡ known_at l' at → (j : ℕ) → j < known_size → get_or l (at + j) 0 ≡ get_or l' (at + j) 0
known_at_lem l l' at u w e j h =
    by_lt j reg_limit
    (λ i. sym (section_at l at reg_limit (omega arith) j i) ∙ ap (λ (k : Known). get_or k.held j 0) e ∙ section_at l' at reg_limit (omega arith) j i)
    (λ i.
    ap (λ (x : ℕ). get_or l x 0) (omega arith) ∙ sym (section_at l (at + reg_limit) slot_limit (omega arith) (j - reg_limit) (omega arith))
    ∙ ap (λ (k : Known). get_or k.stored (j - reg_limit) 0) e ∙ section_at l' (at + reg_limit) slot_limit (omega arith) (j - reg_limit) (omega arith)
    ∙ ap (λ (x : ℕ). get_or l' x 0) (omega arith))

pub set_fits : (s : List ℕ) (b : ℕ) → is_set s b ≡ true → fits s b ≡ true
unfolding is_set
set_fits s b e = and_left (fits s b) (eqb (get_or s b 0) 1) e

-- ---- one block's cells stored anew

-- one state is set
pub sets : (s s' : List ℕ) (b : ℕ) (k : Known) → length s' ≡ length s → (fits s b ≡ true → state_in s' b ≡ some k)
    → ((c : ℕ) → fits s c ≡ true → (c ≡ b → ⊥) → state_in s' c ≡ state_in s c) → Sets s s' b k
sets s s' b k e f g =
    record {
      long = e;
      are = λ n r.
          ext_get_or none (states_in s' n) (set (states_in s n) b (some k)) (states_long s' n ∙ sym (length-set (states_in s n) b (some k) ∙ states_long s n))
          (λ c u.
          let l : length (states_in s' n) ≡ n = states_long s' n in
          let m : length (states_in s n) ≡ n = states_long s n in
          let h : c < n = omega arith in
          by_eq c b
          (λ q.
          let x : get_or (states_in s' n) b none ≡ some k = states_at s' n b (omega arith) ∙ f (fits_in b r (omega arith)) in
          rw (q, x) (sym (get_or-set_same (states_in s n) b (some k) none (omega arith))))
          (λ d. states_at s' n c h ∙ g c (fits_in c r h) d ∙ sym (get_or-set_other (states_in s n) b c (some k) none d ∙ states_at s n c h)));
    }

-- the cells of block b are stored anew in a table m that is s but for b's flag
pub stored_sets : (f : ℕ → ℕ) (s m s' : List ℕ) (b : ℕ) (k : Known) → fits s b ≡ true → length m ≡ length s → get_or m b 0 ≡ 1
    → ((j : ℕ) → (j ≡ b → ⊥) → get_or m j 0 ≡ get_or s j 0) → Span (state_at b) f m known_size s' → known_at s' (state_at b) ≡ k → Sets s s' b k
stored_sets f s m s' b k h e one other p is =
    let x : b < block_limit = fits_below s b h in
    let l : length s' ≡ length s = p.long ∙ e in
    sets s s' b k l (λ u. state_set s' b (fits_same s s' b l ∙ h) (p.before b (omega arith) ∙ one) ∙ ap some is)
    (λ c u d.
    let y : c < block_limit = fits_below s c u in
    state_same s s' c l u
    (λ j v.
    by_lt c b
    (λ z. p.before (state_at c + j) (omega arith) ∙ other (state_at c + j) (λ q. omega arith))
    (λ z. p.behind (state_at c + j) (omega arith) ∙ other (state_at c + j) (λ q. omega arith)))
    (p.before c (omega arith) ∙ other c d))

pub unset_sets : (s : List ℕ) (b : ℕ) (k : Known) → fits s b ≡ false → Sets s s b k
unset_sets s b k h = sets s s b k refl (λ u. never (sym h ∙ u)) (λ c u d. refl)

-- block b is marked, and its cells stored
pub marked : (f : ℕ → ℕ) (s s' : List ℕ) (b : ℕ) (k : Known) → fits s b ≡ true → Span (state_at b) f (set s b 1) known_size s'
    → (state_at b + known_size ≤ length (set s b 1) → known_at s' (state_at b) ≡ k) → Sets s s' b k
marked f s s' b k h p is =
    let l : length (set s b 1) ≡ length s = length-set s b 1 in
    let x : b < block_limit = fits_below s b h in
    let y : state_at (b + 1) ≤ length s = fits_room s b h in
    stored_sets f s (set s b 1) s' b k h l (get_or-set_same s b 1 0 (omega arith)) (λ j d. get_or-set_other s b j 1 0 d) p (is (omega arith))
