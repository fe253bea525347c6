-- The functions of src/lib.rt: sets of registers gathered by a loop, the sets of the classes in their words (specs/Holders.antt), and the lowest
-- register of a meet (the rule `lowest_holding`). Assumes nothing.
use mathlib.Core.Path.{◌≡◌, refl, sym, ap, ◌∙◌}
use mathlib.Core.Bool.{Bool, true, false, cond, not, ◌&&◌, ◌||◌, and-false, and_comm, or-false, or_assoc}
use mathlib.Core.List.{List, [], ◌∷◌}
use mathlib.Core.Option.{none, some}
use Prim.Native.Nat.{ℕ, zero, suc, ◌+◌, ◌*◌, ◌≤◌, ◌<◌}
use native.Mathlib.Numerals.{add-one}
use native.Mathlib.Omega.{arith}
use lib.Dec.{eqb, leb, ltb}
use lib.ListN.{length, get_or, take, get_or-eq_default}
use borrow.Rule.Slice.PartMut.{put_mid}
use Rattle.laws.specs.Spans.{Span}
use Rattle.record.proofs.Parts.{span_put}
use borrow.Author.Tests.{le-leb, lt-leb, lt-ltb, le-ltb, eq-eqb, ne_eqb}
use Rattle.laws.specs.First.{first}
use Rattle.laws.specs.Lists.{any, is_in, from}
use Rattle.laws.specs.Fold.{run}
use Rattle.laws.proofs.Lists.{run_more}
use Rattle.table.proofs.Loops.{never}
use Rattle.laws.specs.Digits.{has_in}
use Rattle.laws.proofs.Cases.{by_bool, by_eq, by_lt}
use Rattle.laws.proofs.First.{first_none, first_map}
use Rattle.laws.proofs.Words.{empty_is, has_words_of}
use Rattle.bits.specs.Sets.{has, made, set_of, set_limit}
use Rattle.bits.specs.declared.sets.NumberSet.{NumberSet}
use Rattle.bits.proofs.Members.{has_set_of, set_of_same}
use Rattle.entity.specs.Limits.{reg_limit, class_limit}
use Rattle.entity.specs.declared.numbers.PhysReg.{PhysReg}
use Rattle.std.specs.Prelude.{Some, None}
use Rattle.std.specs.Prelude as Code
use Rattle.rules.specs.Sheet.{Sheet, reg_count, class_row, is_memory}
use Rattle.rules.specs.Record.{Record, holds}
use Rattle.rules.specs.Forward.{lowest_holding}
use Rattle.rules.proofs.Refusals.{in_limits}
use Rattle.table.specs.Rows.{count_in}
use Rattle.table.specs.Sheet.{sheet_in}
use Rattle.table.specs.Index.{Ready}
use Rattle.table.proofs.Sheets.{long_of, regs_are, classes_are}
use Rattle.holders.specs.Holders.{allows, set_at, Puts, Filled, Blank, reg_found}

-- ---- a turn of a loop that adds r where a test says so

module _ {s : NumberSet} {b : Bool} (r : ℕ) where
  pub with_no : b ≡ false → (f : ℕ → Bool) → s ≡ set_of f → s ≡ set_of (λ k. f k || (eqb k r && b))
  with_no e f i = i ∙ set_of_same f (λ k. f k || (eqb k r && b)) (λ k h. rw (e, and-false (eqb k r)) (sym (or-false (f k))))

  pub with_yes : b ≡ true → {x : NumberSet} → x ≡ set_of (λ k. has s k || eqb k r) → (f : ℕ → Bool) → s ≡ set_of f → x ≡ set_of (λ k. f k || (eqb k r && b))
  with_yes e {x} q f i =
      q
      ∙ set_of_same (λ k. has s k || eqb k r) (λ k. f k || (eqb k r && b)) (λ k h. rw (i, has_set_of f k h, e) (ap (λ (t : Bool). f k || t) (yes (eqb k r))))
    where
      yes : (t : Bool) → t ≡ (t && true)
      yes true = refl
      yes false = refl

-- the numbers below n that pass g
module _ (g : ℕ → Bool) where
  pub below_next : (r : ℕ) {s : NumberSet} → s ≡ set_of (λ k. (ltb k r && g k) || (eqb k r && g r)) → s ≡ set_of (λ k. ltb k (r + 1) && g k)
  below_next r e =
      e
      ∙ set_of_same (λ k. (ltb k r && g k) || (eqb k r && g r)) (λ k. ltb k (r + 1) && g k) (λ k h.
      by_eq k r
      (λ q. rw (q, eq-eqb r r refl, le-ltb r r (omega arith), lt-ltb r (r + 1) (omega arith)))
      (λ d.
      rw (ne_eqb k r d, or-false)
      (by_lt k r (λ l. rw (lt-ltb k r l, lt-ltb k (r + 1) (omega arith))) (λ l. rw (le-ltb k r l, le-ltb k (r + 1) (omega arith))))))

  -- all registers
  pub below_end : (t : List ℕ) (r n : ℕ) {s : NumberSet} → n ≡ count_in t 1 → r ≤ n → n ≤ r → s ≡ set_of (λ k. ltb k r && g k) → s ≡ set_of (λ k. ltb k (reg_count (sheet_in t)) && g k)
  below_end t r n e l u i =
      let z : r ≡ reg_count (sheet_in t) = omega (arith, long_of (regs_are t)) in i ∙ ap (λ (m : ℕ). set_of (λ k. ltb k m && g k)) z

-- those of a list that pass g
in_more : (x : ℕ) (l : List ℕ) (k : ℕ) → k < length l → is_in x (take (suc k) l) ≡ (is_in x (take k l) || eqb x (get_or l k 0))
unfolding is_in
in_more x [] k h = absurd (omega arith)
in_more x (y ∷ l) zero h = or-false (eqb x y)
in_more x (y ∷ l) (suc k) h = rw (in_more x l k (omega arith)) (sym (or_assoc (eqb x y) (any (eqb x) (take k l)) (eqb x (get_or l k 0))))

module _ (g : ℕ → Bool) (l : List ℕ) where
  pub list_none : {s : NumberSet} → s ≡ set_of (λ k. false) → s ≡ set_of (λ k. is_in k (take 0 l) && g k)
  unfolding is_in
  list_none e = e

  pub list_next : (i : ℕ) {s : NumberSet} → i < length l → s ≡ set_of (λ k. (is_in k (take i l) && g k) || (eqb k (get_or l i 0) && g (get_or l i 0))) → s ≡ set_of (λ k. is_in k (take (i + 1) l) && g k)
  list_next i h e =
      let x = get_or l i 0 in
      e
      ∙ set_of_same (λ k. (is_in k (take i l) && g k) || (eqb k x && g x)) (λ k. is_in k (take (i + 1) l) && g k) (λ k b.
      rw (add-one i, in_more k l i h)
      (by_eq k x
      (λ q. rw (q, eq-eqb x x refl) (either (is_in x (take i l)) (g x)))
      (λ d. rw (ne_eqb k x d, or-false, or-false))))
    where
      either : (a b : Bool) → ((a && b) || b) ≡ ((a || true) && b)
      either true true = refl
      either true false = refl
      either false b = refl

-- ---- the words of a set, put and taken

four : (ws : List ℕ) → length ws ≡ 4 → (get_or ws 0 0 ∷ get_or ws 1 0 ∷ get_or ws 2 0 ∷ get_or ws 3 0 ∷ []) ≡ ws
four [] m = absurd (omega arith)
four (a ∷ []) m = absurd (omega arith)
four (a ∷ b ∷ []) m = absurd (omega arith)
four (a ∷ b ∷ c ∷ []) m = absurd (omega arith)
four (a ∷ b ∷ c ∷ d ∷ []) m = refl
four (a ∷ b ∷ c ∷ d ∷ e ∷ l) m = absurd (omega arith)

-- the four words of a set are stored at place c
put_four : (a ws : List ℕ) (c n : ℕ) → n ≡ 4 → length ws ≡ 4 → 68 ≤ length a → c ≤ class_limit → Puts a (put_mid (c * 4) n a ws) c (made ws)
put_four a ws c n e m room h =
    let b = put_mid (c * 4) n a ws in
    let p : Span (c * 4) (λ j. get_or ws j 0) a 4 b = span_put (c * 4) (λ j. get_or ws j 0) a ws 4 e (omega arith) m (λ j u. refl) in
    let kept : (d i : ℕ) → (d ≡ c → ⊥) → i < 4 → get_or b (d * 4 + i) 0 ≡ get_or a (d * 4 + i) 0
    = λ d i z u. by_lt d c (λ l. p.before (d * 4 + i) (omega arith)) (λ l. p.behind (d * 4 + i) (omega arith)) in
    let first : (d : ℕ) → d * 4 + 0 ≡ d * 4 = λ d. omega arith in
    record {
      long = p.long;
      are = λ d.
          by_eq d c
          (λ q. rw (q, eq-eqb c c refl, rw (first c) at (p.done 0 (omega arith)), p.done 1 (omega arith), p.done 2 (omega arith), p.done 3 (omega arith), four ws m))
          (λ z. rw (ne_eqb d c z, rw (first d) at (kept d 0 z (omega arith)), kept d 1 z (omega arith), kept d 2 z (omega arith), kept d 3 z (omega arith)));
    }

pub put_is : (a ws : List ℕ) (c : ℕ) {n : ℕ} {ys : List ℕ} → n ≡ 4 → ys ≡ ws → length ws ≡ 4 → 68 ≤ length a → c ≤ class_limit → Puts a (put_mid (c * 4) n a ys) c (made ws)
put_is a ws c {n} {ys} e q m room h = rw q (put_four a ws c n e m room h)

-- ---- the sets of the classes

-- the sets of the classes below m, and of all registers; of the others nothing
pub record Filling (sh : Sheet) (m : ℕ) (classes : List ℕ) : Type 0 where
  pub long : 68 ≤ length classes
  pub are : (d r : ℕ) → d ≤ class_limit → r < reg_count sh → has (set_at classes d) r ≡ ((ltb d m || eqb d class_limit) && (allows sh d r && not (is_memory sh r)))

blank_has : {a : List ℕ} → Blank a → (d r : ℕ) → r < set_limit → has (set_at a d) r ≡ false
blank_has b d r h =
    rw (b.zeros (d * 4), b.zeros (d * 4 + 1), b.zeros (d * 4 + 2), b.zeros (d * 4 + 3))
    (ap (λ (ws : List ℕ). has_in ws r) (empty_is 4) ∙ has_words_of 4 (λ k. false) r h)

small : (t : List ℕ) → Ready t → (r : ℕ) → r < reg_count (sheet_in t) → r < set_limit
small t g r h = omega (arith, (in_limits (sheet_in t) g.limits).few_regs)

module _ (t : List ℕ) (g : Ready t) {a b : List ℕ} {s : NumberSet} where
  pub fill_all : Blank a → s ≡ set_of (λ r. ltb r (reg_count (sheet_in t)) && not (is_memory (sheet_in t) r)) → (68 ≤ length a → class_limit ≤ class_limit → Puts a b class_limit s)
      → Filling (sheet_in t) 0 b
  unfolding allows
  fill_all z e p =
      let sh = sheet_in t in
      let q = p z.long (omega arith) in
      record {
        long = omega (arith, q.long, z.long);
        are = λ d r h l.
            ap (λ (x : NumberSet). has x r) (q.are d)
            ∙ by_eq d class_limit
            (λ w. rw (eq-eqb d class_limit w, le-ltb d 0 (omega arith), e, has_set_of (λ r. ltb r (reg_count sh) && not (is_memory sh r)) r (small t g r l), lt-ltb r (reg_count sh) l))
            (λ n. rw (ne_eqb d class_limit n, le-ltb d 0 (omega arith)) (blank_has z d r (small t g r l)));
      }

  pub fill_next : (m n : ℕ) {l : List ℕ} → n ≡ count_in t 2 → m < n → Filling (sheet_in t) m a → l ≡ (class_row (sheet_in t) m).members → s ≡ set_of (λ r. is_in r l && not (is_memory (sheet_in t) r))
      → (68 ≤ length a → m ≤ class_limit → Puts a b m s) → Filling (sheet_in t) (m + 1) b
  unfolding allows
  fill_next m n {l} c h f q e p =
      let sh = sheet_in t in
      let few : m < class_limit = omega (arith, (in_limits sh g.limits).few_classes, long_of (classes_are t)) in
      let y = p f.long (omega arith) in
      record {
        long = omega (arith, y.long, f.long);
        are = λ d r i j.
            ap (λ (x : NumberSet). has x r) (y.are d)
            ∙ by_eq d m
            (λ z.
            rw (z, eq-eqb m m refl, lt-ltb m (m + 1) (omega arith), ne_eqb m class_limit (λ w. omega arith), e, has_set_of (λ r. is_in r l && not (is_memory sh r)) r (small t g r j), q))
            (λ x.
            rw (ne_eqb d m x)
            (f.are d r i j
            ∙ by_lt d m (λ k. rw (lt-ltb d m k, lt-ltb d (m + 1) (omega arith))) (λ k. rw (le-ltb d m k, le-ltb d (m + 1) (omega arith)))));
      }

-- a class that is not there has no registers
absent : (sh : Sheet) (c r : ℕ) → length sh.classes ≤ c → (c ≡ class_limit → ⊥) → allows sh c r ≡ false
unfolding allows is_in
absent sh c r h n = rw (ne_eqb c class_limit n, get_or-eq_default sh.classes (record { slots = false; members = [] }) h)

pub fill_end : (t : List ℕ) (m n : ℕ) {a : List ℕ} → n ≡ count_in t 2 → n ≤ m → Filling (sheet_in t) m a → Filled (sheet_in t) a
fill_end t m n e u f =
    let sh = sheet_in t in
    let z : length sh.classes ≤ m = omega (arith, long_of (classes_are t)) in
    record {
      are = λ c r h i.
          f.are c r h i
          ∙ by_lt c m (λ k. rw (lt-ltb c m k))
          (λ k.
          rw (le-ltb c m k)
          (by_eq c class_limit (λ q. rw (eq-eqb c class_limit q)) (λ d. rw (ne_eqb c class_limit d, absent sh c r (omega arith) d))));
    }

-- ---- the lowest of a meet

-- some number below n passes g, asked of one after the other
abbrev pub some_below : (ℕ → Bool) → ℕ → Bool
some_below g n = run (λ x r. x || g r) false (from 0 n)

or_none : (a b : Bool) → (a || b) ≡ false → (a ≡ false) × (b ≡ false)
or_none true b e = never (sym e)
or_none false b e = (refl, e)

module _ (g : ℕ → Bool) where
  pub some_none : false ≡ some_below g 0
  unfolding run from
  some_none = refl

  more : (n : ℕ) → some_below g (suc n) ≡ (some_below g n || g n)
  more n = let z : 0 + n ≡ n = omega arith in run_more (λ x k. x || g k) false 0 n ∙ ap (λ (k : ℕ). some_below g n || g k) z

  pub some_next : (r : ℕ) {x y : Bool} → x ≡ some_below g r → y ≡ g r → (x || y) ≡ some_below g (r + 1)
  some_next r p q = rw (p, q, add-one r) (sym (more r))

  none_below : (n : ℕ) → some_below g n ≡ false → (k : ℕ) → k < n → g k ≡ false
  none_below zero e k h = absurd (omega arith)
  none_below (suc n) e k h =
      let z = or_none (some_below g n) (g n) (sym (more n) ∙ e) in
      by_eq k n (λ q. rw q z.1) (λ d. none_below n z.0 k (omega arith))

-- a search of m, where nothing is from the n-th on, is the search of n
first_wide : {A : Type 0} (at : ℕ → A) (other : A) (f g : ℕ → Bool) (i n m : ℕ) → n ≤ m → ((k : ℕ) → i ≤ k → k < i + n → f k ≡ g k) → ((k : ℕ) → i + n ≤ k → k < i + m → f k ≡ false)
    → first at other f i m ≡ first at other g i n
unfolding first
first_wide at other f g i zero m l s z = first_none at other f i m (λ k p q. z k (omega arith) q)
first_wide at other f g i (suc n) zero l s z = absurd (omega arith)
first_wide at other f g i (suc n) (suc m) l s z =
    rw (s i (omega arith) (omega arith))
    (by_bool (g i) (λ e. rw e)
    (λ e. rw e (first_wide at other f g (suc i) n m (omega arith) (λ k p q. s k (omega arith) (omega arith)) (λ k p q. z k (omega arith) (omega arith)))))

in_class_lem : (t classes : List ℕ) (c : ℕ) {x : NumberSet} → x ≡ cond (leb c class_limit) (set_at classes c) (set_of (λ k. false)) → Ready t → Filled (sheet_in t) classes → (r : ℕ) → r < reg_count (sheet_in t)
    → has x r ≡ (allows (sheet_in t) c r && not (is_memory (sheet_in t) r))
in_class_lem t classes c e g f r h =
    let sh = sheet_in t in
    let u : r < set_limit = omega (arith, (in_limits sh g.limits).few_regs) in
    by_lt class_limit c
    (λ l.
    rw (e, lt-leb c class_limit l, has_set_of (λ k. false) r u, absent sh c r (omega (arith, (in_limits sh g.limits).few_classes)) (λ q. omega arith)))
    (λ l. rw (e, le-leb c class_limit l) (f.are c r l h))

pub lowest_is : (t : List ℕ) (rec : Record) (classes : List ℕ) (c v : ℕ) {s x m : NumberSet} {f : Code.Option PhysReg} → s ≡ set_of (λ r. ltb r (reg_count (sheet_in t)) && holds rec r v)
    → x ≡ cond (leb c class_limit) (set_at classes c) (set_of (λ k. false)) → m ≡ set_of (λ k. has s k && has x k)
    → f ≡ first (λ k. Some (record { 0 = k })) None (has m) 0 set_limit
    → Ready t → Filled (sheet_in t) classes → f ≡ reg_found (lowest_holding (sheet_in t) (allows (sheet_in t) c) v rec)
unfolding reg_found lowest_holding
lowest_is t rec classes c v {s} {x} {m} p e q z g f =
    let sh = sheet_in t in
    let n : reg_count sh ≤ reg_limit = (in_limits sh g.limits).few_regs in
    let both : (k : ℕ) → k < set_limit → has m k ≡ ((ltb k (reg_count sh) && holds rec k v) && has x k) =
    λ k u. rw (q, has_set_of (λ k. has s k && has x k) k u, p, has_set_of (λ r. ltb r (reg_count sh) && holds rec r v) k u)
    in
    z
    ∙ first_wide (λ k. Some (record { 0 = k })) None (has m) (λ r. allows sh c r && not (is_memory sh r) && holds rec r v) 0 (reg_count sh) set_limit (omega arith)
    (λ k i h.
    both k (omega arith)
    ∙ rw (lt-ltb k (reg_count sh) (omega arith), in_class_lem t classes c e g f k (omega arith)) (and_comm (holds rec k v) (allows sh c k && not (is_memory sh k))))
    (λ k i h. both k (omega arith) ∙ rw (le-ltb k (reg_count sh) (omega arith)))
    ∙ sym (first_map reg_found some none (λ r. allows sh c r && not (is_memory sh r) && holds rec r v) 0 (reg_count sh))

module _ (t : List ℕ) (rec : Record) (classes : List ℕ) (c v : ℕ) where
  abbrev test : ℕ → Bool
  test r = allows (sheet_in t) c r && not (is_memory (sheet_in t) r) && holds rec r v

  abbrev Is : Code.Option PhysReg → Type 0
  Is f = Ready t → Filled (sheet_in t) classes → f ≡ reg_found (lowest_holding (sheet_in t) (allows (sheet_in t) c) v rec)

  is_none : ((k : ℕ) → k < reg_count (sheet_in t) → test k ≡ false) → None ≡ reg_found (lowest_holding (sheet_in t) (allows (sheet_in t) c) v rec)
  unfolding reg_found lowest_holding
  is_none h = ap reg_found (sym (first_none some none test 0 (reg_count (sheet_in t)) (λ k p q. h k (omega arith))))

  -- no register holds v
  pub held_nowhere : {b : Bool} → b ≡ some_below (λ r. holds rec r v) reg_limit → b ≡ false → Is None
  held_nowhere p e g f =
      is_none (λ k h.
      let z : holds rec k v ≡ false = none_below (λ r. holds rec r v) reg_limit (sym p ∙ e) k (omega (arith, (in_limits (sheet_in t) g.limits).few_regs)) in
      rw z (and-false (allows (sheet_in t) c k && not (is_memory (sheet_in t) k))))
