-- For `headed_by` and `group_headed`: the group of a class that begins with a register. There is one at most, as no two groups share class and first
-- register. Assumes nothing.
use mathlib.Core.Path.{◌≡◌, refl, sym, ap, ◌∙◌}
use mathlib.Core.Bool.{Bool, true, false, not, ◌&&◌}
use mathlib.Core.List.{List, [], ◌∷◌, flat_map, append-nil}
use Prim.Native.Nat.{ℕ, zero, suc, ◌≤◌, ◌<◌}
use native.Mathlib.Omega.{arith}
use lib.Dec.{eqb}
use lib.ListN.{length, get_or, drop, drop_of_length-le, get_or-eq_default}
use lib.Seq.{drop-cons, get_or-drop}
use borrow.Author.Tests.{eq-eqb, ne_eqb, eqb-true, not-true}
use Rattle.std.specs.Prelude.{Option, None, Some, MatchOption}
use Rattle.std.specs.Option.{unwrap_or}
use Rattle.laws.specs.Lists.{any, keep}
use Rattle.laws.proofs.Cases.{by_bool}
use Rattle.rules.specs.Sheet.{Sheet, GroupRow, field}
use Rattle.rules.specs.Accept.{headed_by, heads_apart, names_hold, all_named, none_twice}
use Rattle.rules.specs.Forward.{group_regs}
use Rattle.table.specs.Rows.{count_in, kind_row}
use Rattle.table.specs.Sheet.{sheet_in}
use Rattle.table.specs.Index.{Ready}
use Rattle.table.specs.View.{group_row}
use Rattle.table.proofs.Loops.{and_left, and_right, never}
use Rattle.table.proofs.Sheets.{long_of, groups_are}
use Rattle.table.proofs.Views.{class_is, group_regs_are}

-- ---- one group

module _ (t : List ℕ) (g c r : ℕ) {l : List ℕ} (e : l ≡ kind_row t 3 g) {k : ℕ} (p : k ≡ get_or l 2 0) where
  class_read : k ≡ (group_row (sheet_in t) g).class
  class_read = p ∙ ap (field 2) e ∙ class_is t g

  pub other_class : (k ≡ c → ⊥) → eqb k c ≡ headed_by c r (group_row (sheet_in t) g)
  unfolding headed_by
  other_class n = rw (← class_read, ne_eqb k c n)

  pub of_class : {h : ℕ} → k ≡ c → h ≡ get_or l 3 0 → eqb h r ≡ headed_by c r (group_row (sheet_in t) g)
  unfolding headed_by
  of_class {h} q m =
      let y : h ≡ get_or (group_row (sheet_in t) g).regs 0 0 = m ∙ ap (field 3) e ∙ sym (get_or-drop 3 (kind_row t 3 g) 0 0) ∙ ap (field 0) (group_regs_are t g) in
      rw (← class_read, eq-eqb k c q, ← y)

head_of : (c r : ℕ) (x : GroupRow) → headed_by c r x ≡ true → (x.class ≡ c) × (get_or x.regs 0 0 ≡ r)
unfolding headed_by
head_of c r x h =
    (eqb-true x.class c (and_left (eqb x.class c) (eqb (get_or x.regs 0 0) r) h), eqb-true (get_or x.regs 0 0) r (and_right (eqb x.class c) (eqb (get_or x.regs 0 0) r) h))

-- ---- those that are left

heads_later : (l : List GroupRow) (i : ℕ) → heads_apart l ≡ true → heads_apart (drop i l) ≡ true
unfolding heads_apart
heads_later l zero e = e
heads_later [] (suc i) e = e
heads_later (x ∷ l) (suc i) e = heads_later l i (and_right (not (any (headed_by x.class (get_or x.regs 0 0)) l)) (heads_apart l) e)

keep_none : {A : Type 0} (f : A → Bool) (l : List A) → any f l ≡ false → keep f l ≡ []
unfolding keep
keep_none f [] e = refl
keep_none f (x ∷ l) e = by_bool (f x) (λ p. never (sym e ∙ rw p)) (λ p. rw p (keep_none f l (sym (rw p) ∙ e)))

-- the one that is headed so is the only one
only_here : (c r : ℕ) (x : GroupRow) (l : List GroupRow) → headed_by c r x ≡ true → heads_apart (x ∷ l) ≡ true → flat_map (λ g. g.regs) (keep (headed_by c r) (x ∷ l)) ≡ x.regs
unfolding heads_apart keep flat_map
only_here c r x l h e =
    let z = head_of c r x h in
    let m = not-true (any (headed_by x.class (get_or x.regs 0 0)) l) (and_left (not (any (headed_by x.class (get_or x.regs 0 0)) l)) (heads_apart l) e) in
    let n : any (headed_by c r) l ≡ false = rw (z.0, z.1) at m in
    rw (h, keep_none (headed_by c r) l n) (append-nil x.regs)

apart : (sh : Sheet) → names_hold sh ≡ true → heads_apart sh.groups ≡ true
unfolding names_hold
apart sh e = and_right (all_named sh && none_twice sh) (heads_apart sh.groups) e

-- ---- the search: what remains has the same registers

module _ (t : List ℕ) (c r : ℕ) where
  abbrev groups : List GroupRow
  groups = (sheet_in t).groups

  abbrev Left : ℕ → Type 0
  Left g = flat_map (λ x. x.regs) (keep (headed_by c r) (drop g groups)) ≡ group_regs (sheet_in t) c r

  -- the groups before n are headed otherwise
  abbrev Others : ℕ → Type 0
  Others n = (k : ℕ) → k < n → headed_by c r (group_row (sheet_in t) k) ≡ false

  left_at : (n : ℕ) → n ≤ length groups → Others n → Left n
  unfolding group_regs keep
  left_at zero h f = refl
  left_at (suc n) h f =
      let s = drop-cons groups n (record { class = 0; regs = [] }) (omega arith) in
      let inv = left_at n (omega arith) (λ k l. f k (omega arith)) in
      rw (s, f n (omega arith)) at inv

  found_at : (n : ℕ) → n < length groups → Others n → headed_by c r (group_row (sheet_in t) n) ≡ true → Ready t → (group_row (sheet_in t) n).regs ≡ group_regs (sheet_in t) c r
  found_at n h f e ready =
      let s = drop-cons groups n _ h in
      sym (only_here c r (group_row (sheet_in t) n) (drop (suc n) groups) e (sym (ap heads_apart s) ∙ heads_later groups n (apart (sheet_in t) ready.names)))
      ∙ sym (ap (λ (l : List GroupRow). flat_map (λ x. x.regs) (keep (headed_by c r) l)) s) ∙ left_at n (omega arith) f

  none_at : (n : ℕ) → length groups ≡ n → Others n → (group_row (sheet_in t) n).regs ≡ group_regs (sheet_in t) c r
  unfolding keep flat_map
  none_at n h f =
      rw (get_or-eq_default groups _ {n = n} (omega arith))
      (sym (ap (λ (l : List GroupRow). flat_map (λ x. x.regs) (keep (headed_by c r) l)) (drop_of_length-le groups {i = n} (omega arith))) ∙ left_at n (omega arith) f)

  -- the first that is headed so, or one past the last
  pub headed_first : {m n : ℕ} (o : Option ℕ) → m ≡ count_in t 3
      → MatchOption o ((k : ℕ) → 0 ≤ k → k < m → headed_by c r (group_row (sheet_in t) k) ≡ false)
      (λ i. (0 ≤ i) × (i < m) × (headed_by c r (group_row (sheet_in t) i) ≡ true) × ((k : ℕ) → 0 ≤ k → k < i → headed_by c r (group_row (sheet_in t) k) ≡ false))
      → n ≡ unwrap_or o m → Ready t → (group_row (sheet_in t) n).regs ≡ group_regs (sheet_in t) c r
  headed_first {m} None e f q ready = rw q (none_at m (omega (arith, long_of (groups_are t))) (λ k h. f k (omega arith) h))
  headed_first (Some i) e f q ready = rw q (found_at i (omega (arith, long_of (groups_are t), f.1)) (λ k h. f.3 k (omega arith) h) f.2 ready)
