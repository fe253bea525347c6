-- For `group_at` of `src/constraints.rt`: class, first register and length of a group in one number, by which groups are told apart. Assumes nothing.
use mathlib.Core.Path.{◌≡◌, refl, sym, ap, ◌∙◌}
use mathlib.Core.Bool.{Bool, true, false, ◌&&◌, and-false}
use mathlib.Core.List.{List, [], ◌∷◌, ◌++◌, map}
use Prim.Native.Nat.{ℕ, zero, suc, ◌+◌, ◌-◌, ◌*◌, ◌≤◌, ◌<◌}
use native.Mathlib.Nat.{sub-zero}
use native.Mathlib.Omega.{arith}
use lib.Dec.{eqb, ltb}
use lib.ListN.{length, get_or, take, drop, length-map, length-append, length-drop}
use lib.Seq.{ext_get_or, length-take-le, get_or-take}
use borrow.Author.Tests.{lt-ltb, le-ltb, ltb-true, eq-eqb, ne_eqb}
use Rattle.laws.specs.Lists.{all, keep, is_in}
use Rattle.laws.proofs.Cases.{by_bool, by_lt, by_eq}
use Rattle.rules.specs.Words.{slots_word}
use Rattle.rules.specs.Rows.{kind}
use Rattle.rules.specs.Sheet.{Sheet, GroupRow, reg_count}
use Rattle.rules.specs.Accept.{reg_exists, class_exists, headed_by, begins_group}
use Rattle.rules.proofs.Refusals.{in_limits, all_named_lem, each_named}
use Rattle.names.proofs.Sets.{any_on}
use Rattle.table.specs.Rows.{count_in, kind_row}
use Rattle.table.specs.Table.{flatten}
use Rattle.table.specs.Sheet.{sheet_in}
use Rattle.table.specs.Index.{Ready}
use Rattle.table.specs.View.{group_row}
use Rattle.table.proofs.Loops.{and_left, and_right, all_at, all_each, any_map}
use Rattle.table.proofs.Sheets.{long_of, part_of, groups_are}
use Rattle.table.proofs.Kindred.{kind_row_is}
use Rattle.accept.specs.Operands.{group_is, no_head, head_of, head_in, heads_of}

-- ---- one number

module _ (c r n : ℕ) where
  pub class_great : 128 ≤ c → no_head ≡ head_of c r n
  unfolding head_of
  class_great h = rw (le-ltb c 128 h)

  pub reg_great : 256 ≤ r → no_head ≡ head_of c r n
  unfolding head_of
  reg_great h = rw (le-ltb r 256 h, and-false)

  pub long_great : 65536 ≤ n → no_head ≡ head_of c r n
  unfolding head_of
  long_great h = rw (le-ltb n 65536 h, and-false)

  pub head_small : c < 128 → r < 256 → n < 65536 → c * 16777216 + r * 65536 + n ≡ head_of c r n
  unfolding head_of
  head_small h k l = rw (lt-ltb c 128 h, lt-ltb r 256 k, lt-ltb n 65536 l)

pub head_row : (x : GroupRow) {l : List ℕ} {c r h : ℕ} → l ≡ x.regs → c ≡ x.class → r ≡ get_or l 0 0 → h ≡ head_of c r (length l) → h ≡ head_in x
unfolding head_in
head_row x q e f p = rw (← q, ← e, ← f) p

-- ---- groups with one number are one

module _ (c r n : ℕ) (x : GroupRow) where
  abbrev a : ℕ
  a = x.class

  abbrev b : ℕ
  b = get_or x.regs 0 0

  abbrev m : ℕ
  m = length x.regs

  other_class : (a ≡ c → ⊥) → false ≡ group_is c r n x
  unfolding group_is headed_by
  other_class d = rw (ne_eqb a c d)

  other_reg : (b ≡ r → ⊥) → false ≡ group_is c r n x
  unfolding group_is headed_by
  other_reg d = rw (ne_eqb b r d, and-false)

  other_long : (m ≡ n → ⊥) → false ≡ group_is c r n x
  unfolding group_is headed_by
  other_long d = rw (ne_eqb m n d, and-false)

  same_group : a ≡ c → b ≡ r → m ≡ n → eqb (head_of c r n) (head_in x) ≡ group_is c r n x
  unfolding group_is headed_by head_in
  same_group e f g = rw (e, f, g, eq-eqb c c refl, eq-eqb r r refl, eq-eqb n n refl) (eq-eqb (head_of c r n) (head_of c r n) refl)

  -- of a group whose class, first register and length are not too great
  module _ (ha : a < 128) (hb : b < 256) (hm : m < 65536) where
    no_head_lem : head_of c r n ≡ no_head → eqb (head_of c r n) (head_in x) ≡ false
    unfolding head_in
    no_head_lem e = ne_eqb (head_of c r n) (head_in x) (λ z. absurd (omega (arith, z, e, head_small a b m ha hb hm)))

    differs : c < 128 → r < 256 → n < 65536 → ((a * 16777216 + b * 65536 + m ≡ c * 16777216 + r * 65536 + n) → ⊥) → eqb (head_of c r n) (head_in x) ≡ false
    unfolding head_in
    differs hc hr hn d = ne_eqb (head_of c r n) (head_in x) (λ z. d (omega (arith, z, head_small c r n hc hr hn, head_small a b m ha hb hm)))

    head_told : eqb (head_of c r n) (head_in x) ≡ group_is c r n x
    head_told =
        by_lt c 128
        (λ hc.
        by_lt r 256
        (λ hr.
        by_lt n 65536
        (λ hn.
        by_eq a c
        (λ e.
        by_eq b r
        (λ f. by_eq m n (λ g. same_group e f g) (λ d. differs hc hr hn (λ z. d (omega arith)) ∙ other_long d))
        (λ d. differs hc hr hn (λ z. d (omega arith)) ∙ other_reg d))
        (λ d. differs hc hr hn (λ z. d (omega arith)) ∙ other_class d))
        (λ h. no_head_lem (sym (long_great c r n h)) ∙ other_long (λ z. absurd (omega arith))))
        (λ h. no_head_lem (sym (reg_great c r n h)) ∙ other_reg (λ z. absurd (omega arith))))
        (λ h. no_head_lem (sym (class_great c r n h)) ∙ other_class (λ z. absurd (omega arith)))

-- ---- no group has a head that is too great

first_or_rest : (r f : List ℕ) (ks : List (List ℕ)) → ((j : ℕ) → length (get_or ks j []) ≤ length f) → (j : ℕ) → length (get_or (r ∷ ks) j []) ≤ length (r ++ f)
first_or_rest r f ks h zero = omega (arith, length-append r f)
first_or_rest r f ks h (suc j) = omega (arith, h j, length-append r f)

kept_short : (f : List ℕ → Bool) (rs : List (List ℕ)) (j : ℕ) → length (get_or (keep f rs) j []) ≤ length (flatten rs)
unfolding keep flatten
kept_short f [] j = omega arith
kept_short f (r ∷ rs) j =
    by_bool (f r)
    (λ e. rw e (first_or_rest r (flatten rs) (keep f rs) (kept_short f rs) j))
    (λ e. rw e (omega (arith, kept_short f rs j, length-append r (flatten rs))))

abbrev small : GroupRow → Bool
small x = ltb x.class 128 && ltb (get_or x.regs 0 0) 256 && ltb (length x.regs) 65536

module _ {t : List ℕ} (g : Ready t) where
  abbrev sh : Sheet
  sh = sheet_in t

  group_short : (j : ℕ) → length (group_row sh j).regs < 65536
  group_short j =
      let e : (group_row sh j).regs ≡ drop 3 (kind_row t 3 j) = part_of (groups_are t) (λ x. x.regs) j _ refl in
      rw (e, length-drop 3 (kind_row t 3 j), kind_row_is g.held 3 (omega arith) j) (omega (arith, kept_short (λ r. eqb (kind r) (slots_word + 3)) g.rows j, g.held.held.few_cells))

  first_small : (l : List ℕ) → all (reg_exists sh) l ≡ true → get_or l 0 0 < 256
  first_small [] e = omega arith
  first_small (r ∷ l) e = omega (arith, ltb-true r (reg_count sh) (and_left (reg_exists sh r) (all (reg_exists sh) l) e), (in_limits sh g.limits).few_regs)

  groups_small : all small sh.groups ≡ true
  groups_small =
      all_each small (record { class = 0; regs = [] }) sh.groups
      (λ j u.
      let x = group_row sh j in
      let named = all_at (λ x. class_exists sh x.class && all (reg_exists sh) x.regs) (record { class = 0; regs = [] }) sh.groups (each_named sh (all_named_lem sh g.names)).groups j u in
      let k : x.class < 128 = omega (arith, ltb-true x.class (length sh.classes) (and_left (class_exists sh x.class) (all (reg_exists sh) x.regs) named), (in_limits sh g.limits).few_classes) in
      let f = first_small x.regs (and_right (class_exists sh x.class) (all (reg_exists sh) x.regs) named) in
      rw (lt-ltb x.class 128 k, lt-ltb (get_or x.regs 0 0) 256 f, lt-ltb (length x.regs) 65536 (group_short j)))

  pub heads_begin : (c r n : ℕ) {h : ℕ} {l : List ℕ} → h ≡ head_of c r n → l ≡ heads_of sh → is_in h l ≡ begins_group sh c r n
  unfolding is_in heads_of begins_group group_is
  heads_begin c r n e q =
      rw (q, e)
      (any_map head_in (eqb (head_of c r n)) sh.groups
      ∙ any_on small (λ x. eqb (head_of c r n) (head_in x)) (group_is c r n)
      (λ x s.
      let k = ltb x.class 128 in
      let f = ltb (get_or x.regs 0 0) 256 in
      let l = ltb (length x.regs) 65536 in
      let two = and_left (k && f) l s in
      head_told c r n x (ltb-true x.class 128 (and_left k f two)) (ltb-true (get_or x.regs 0 0) 256 (and_right k f two)) (ltb-true (length x.regs) 65536 (and_right (k && f) l s)))
      sh.groups groups_small)

-- ---- the heads in their cells

-- the heads of the groups before g are loaded, of as many as `groups`
pub record Loaded (t heads₀ : List ℕ) (groups : ℕ) (heads : List ℕ) (g : ℕ) : Type 0 where
  pub done : groups ≤ length heads₀ → (j : ℕ) → j < g → get_or heads j 0 ≡ head_in (group_row (sheet_in t) j)

heads_at : (d : GroupRow) (l : List GroupRow) (j : ℕ) → j < length l → get_or (map head_in l) j 0 ≡ head_in (get_or l j d)
heads_at d [] j h = absurd (omega arith)
heads_at d (x ∷ l) zero h = refl
heads_at d (x ∷ l) (suc j) h = heads_at d l j (omega arith)

pub loaded_end : {t heads₀ cells : List ℕ} {g groups : ℕ} → groups ≡ count_in t 3 → Loaded t heads₀ groups cells g → length cells ≡ length heads₀ → g ≤ groups → groups ≤ g → count_in t 3 ≤ length heads₀ → take (count_in t 3) cells ≡ heads_of (sheet_in t)
unfolding heads_of
loaded_end {t} {cells = cells} {g = g} q i l u h r =
    let sh = sheet_in t in
    let n = count_in t 3 in
    let many : length sh.groups ≡ n = long_of (groups_are t) in
    let short : length (take n cells) ≡ n = length-take-le n cells (omega arith) in
    ext_get_or 0 (take n cells) (map head_in sh.groups) (short ∙ sym (length-map sh.groups head_in ∙ many))
    (λ j k.
    let v : j < n = omega (arith, short) in
    get_or-take n cells j 0 v ∙ i.done (omega arith) j (omega arith) ∙ sym (heads_at (record { class = 0; regs = [] }) sh.groups j (omega (arith, many))))

pub heads_known : {t : List ℕ} (cells heads : List ℕ) (groups : ℕ) → (count_in t 3 ≤ 32 → take (count_in t 3) cells ≡ heads_of (sheet_in t)) → groups ≡ count_in t 3 → heads ≡ take (groups - 0) (drop 0 cells) → Ready t → heads ≡ heads_of (sheet_in t)
heads_known {t} cells heads groups e q p g =
    p ∙ ap (λ (n : ℕ). take n cells) (sub-zero groups ∙ q) ∙ e (omega (arith, (in_limits (sheet_in t) g.limits).few_groups, long_of (groups_are t)))
