-- For `src/edits.rt`: refusal 6, by the code's answers: edits in order, the edits of a block, pairs, home slots and shared units. Assumes nothing.
use mathlib.Core.Path.{◌≡◌, refl, sym, ap, ◌∙◌}
use mathlib.Core.Bool.{Bool, true, false, not, ◌&&◌, ◌||◌, and-false, or-false}
use mathlib.Core.List.{List, [], ◌∷◌, map}
use mathlib.Core.Option.{Option, none, some, Option-elim}
use Prim.Native.Nat.{ℕ, zero, suc, ◌+◌, ◌-◌, ◌≤◌, ◌<◌}
use native.Mathlib.Nat.{le_trans}
use native.Mathlib.Numerals.{add-one}
use native.Mathlib.Omega.{arith}
use lib.Dec.{eqb, leb, ltb}
use lib.ListN.{length, get_or, take, drop, drop_of_length-le, get_or-eq_default}
use lib.Seq.{drop-cons, take-nil}
use borrow.Author.Tests.{lt-ltb, le-ltb, le-leb, lt-leb, leb-true, eq-eqb, ne_eqb, ltb-true}
use Rattle.std.specs.List.{range_with_len}
use Rattle.laws.specs.Lists.{all, any, keep, is_in, from}
use Rattle.laws.proofs.Cases.{by_bool, by_lt, by_eq, same_test}
use Rattle.laws.proofs.Lists.{is_from, keep_none, part_map, from_long}
use Rattle.entity.specs.Limits.{block_limit, inst_limit, unit_limit}
use Rattle.bits.specs.Sets.{has, set_of, set_limit}
use Rattle.bits.specs.declared.sets.NumberSet.{NumberSet}
use Rattle.bits.proofs.Members.{has_set_of, set_of_same}
use Rattle.entity.specs.declared.forms.Edit.{Edit}
use Rattle.entity.specs.declared.forms.Edit.TheVariants.{Move, Remat, Espill, Ereload, Misplaced, Nothing}
use Rattle.entity.specs.declared.forms.Place.{Place}
use Rattle.entity.specs.declared.forms.Place.TheVariants.{Reg, Slot}
use Rattle.entity.specs.declared.numbers.SpillSlot.{SpillSlot}
use Rattle.rules.specs.Cells.{word, find, words}
use Rattle.rules.specs.Words.{move_word, remat_word, espill_word, ereload_word}
use Rattle.rules.specs.Rows.{first}
use Rattle.rules.specs.Sheet.{Sheet, RegRow, EditRow, place_of, espill_of, ereload_of, edit_of, reg_count, block_count, inst_count, home_of, units_of, insts_of, total_of}
use Rattle.rules.specs.Accept.{within_limits, units_within, edit_names, slot_exists, reg_exists, in_order, placed, paired, edits_in, no_home, apart, pair_holds, edits_hold}
use Rattle.rules.proofs.Refusals.{in_limits, all_named_lem, each_named}
use Rattle.table.specs.Layout.{edit_index, inst_index}
use Rattle.table.specs.Rows.{count_in, kind_row}
use Rattle.table.specs.Sheet.{rows_at, sheet_in}
use Rattle.table.specs.Index.{before, range_in, NeverFalls, Ready}
use Rattle.table.specs.View.{edit_row, slot_found}
use Rattle.table.specs.Edits.{edit_at_row}
use Rattle.table.specs.declared.index.Range.{Range}
use Rattle.table.proofs.Loops.{and_left, and_right, and_both, never, all_at, all_each, any_hit, all_numbers, any_numbers, keep_map, keep_same}
use Rattle.table.proofs.Sheets.{long_of, edits_are, values_are, regs_are, edit_row_of}
use Rattle.table.proofs.Beginnings.{from_at}
use Rattle.std.specs.Prelude.{Some, None}
use Rattle.std.specs.Prelude as Code
use Rattle.names.proofs.Sets.{below, all_more, any_set_of}
use Rattle.table.proofs.Stored.{sheet_edit_is}
use Rattle.table.proofs.Lookups.{insts_are, edits_fall_in}
use Rattle.table.proofs.Filling.{total_part}
use Rattle.table.proofs.Ranges.{before_low}
use Rattle.accept.specs.Pairs.{Held, paired_by, after_edit, is_emergency, edits_of, is_home_of, home_set, shared_in, shared_set, some_emergency, pair_apart, edit_holds, each_holds}
use Rattle.std.proofs.Common.{None, Some, Result, Ok, Err}
use Rattle.accept.proofs.Ranges.{range_from}
use Rattle.accept.proofs.Blockwise.{all_and}
use Rattle.accept.proofs.Reaching.{any_more, any_at, from_hit, from_some, in_hit, or_cases, or_left, or_right}

-- ---- in order

unfoldable pub sorted_from : ℕ → List EditRow → Bool
sorted_from x [] = true
sorted_from x (e ∷ es) = leb x e.at && sorted_from e.at es

more_low : (x y : ℕ) (es : List EditRow) → x ≤ y → all (λ f. leb y f.at) es ≡ true → all (λ f. leb x f.at) es ≡ true
more_low x y [] h e = refl
more_low x y (f ∷ es) h e =
    and_both (leb x f.at) (all (λ f. leb x f.at) es)
    (le-leb x f.at (le_trans h (leb-true y f.at (and_left (leb y f.at) (all (λ f. leb y f.at) es) e))))
    (more_low x y es h (and_right (leb y f.at) (all (λ f. leb y f.at) es) e))

sorted_is : (x : ℕ) (es : List EditRow) → sorted_from x es ≡ (all (λ f. leb x f.at) es && in_order es)
unfolding sorted_from in_order
sorted_is x [] = refl
sorted_is x (e ∷ es) =
    rw (sorted_is e.at es)
    (by_bool (leb x e.at)
    (λ p.
    rw p
    (by_bool (all (λ f. leb e.at f.at) es)
    (λ q. rw (q, more_low x e.at es (leb-true x e.at p) q))
    (λ q. rw q (sym (and-false (all (λ f. leb x f.at) es))))))
    (λ p. rw p))

zero_low : (es : List EditRow) → all (λ f. leb 0 f.at) es ≡ true
zero_low [] = refl
zero_low (e ∷ es) = rw (le-leb 0 e.at (omega arith)) (zero_low es)

pub order_start : (es : List EditRow) → sorted_from 0 es ≡ in_order es
order_start es = sorted_is 0 es ∙ rw (zero_low es)

module _ (t : List ℕ) (m n last i : ℕ) (q : m ≡ count_in t 12) (e : i ≡ (edit_row (sheet_in t) n).at) {d : Bool} (inv : sorted_from last (drop n (sheet_in t).edits) ≡ d) where
  row_there : n < m → n < length (sheet_in t).edits
  row_there h = omega (arith, long_of (edits_are t))

  pub order_stop : n < m → i < last → false ≡ d
  unfolding sorted_from
  order_stop h l =
      sym (ap (sorted_from last) (drop-cons (sheet_in t).edits n _ (row_there h)) ∙ ap (λ (x : Bool). x && sorted_from (edit_row (sheet_in t) n).at (drop (suc n) (sheet_in t).edits)) (lt-leb last (edit_row (sheet_in t) n).at (omega arith)))
      ∙ inv

  pub order_go : n < m → last ≤ i → sorted_from i (drop (n + 1) (sheet_in t).edits) ≡ d
  unfolding sorted_from
  order_go h l =
      rw (add-one n, e)
      (sym (ap (sorted_from last) (drop-cons (sheet_in t).edits n _ (row_there h)) ∙ ap (λ (x : Bool). x && sorted_from (edit_row (sheet_in t) n).at (drop (suc n) (sheet_in t).edits)) (le-leb last (edit_row (sheet_in t) n).at (omega arith)))
      ∙ inv)

pub order_end : (t : List ℕ) (m n last : ℕ) → m ≡ count_in t 12 → {d : Bool} → sorted_from last (drop n (sheet_in t).edits) ≡ d → m ≤ n → true ≡ d
unfolding sorted_from
order_end t m n last q inv h = sym (ap (sorted_from last) (drop_of_length-le (sheet_in t).edits {i = n} (omega (arith, long_of (edits_are t))))) ∙ inv

-- ---- emergencies

espill_is : (a b : Place) → is_emergency (espill_of a b) ≡ true
unfolding is_emergency espill_of
espill_is (Slot s) (Reg r) = refl
espill_is (Slot s) (Slot q) = refl
espill_is (Reg r) b = refl

ereload_is : (a b : Place) → is_emergency (ereload_of a b) ≡ true
unfolding is_emergency ereload_of
ereload_is (Reg r) (Slot s) = refl
ereload_is (Reg r) (Reg q) = refl
ereload_is (Slot s) b = refl

emergency_of : (k to p v : ℕ) → (eqb k espill_word || eqb k ereload_word) ≡ is_emergency (edit_of k to p v)
unfolding is_emergency edit_of word find words
emergency_of k to p v =
    by_eq k move_word (λ e. rw e)
    (λ a.
    by_eq k remat_word (λ e. rw e)
    (λ b.
    by_eq k espill_word (λ e. rw e (sym (espill_is (place_of to) (place_of p))))
    (λ c.
    by_eq k ereload_word (λ e. rw e (sym (ereload_is (place_of to) (place_of p))))
    (λ d. rw (ne_eqb k move_word a, ne_eqb k remat_word b, ne_eqb k espill_word c, ne_eqb k ereload_word d)))))

pub emergency_row : (t : List ℕ) (n w : ℕ) → w ≡ get_or (kind_row t 12 n) 2 0 → (eqb w espill_word || eqb w ereload_word) ≡ is_emergency (edit_row (sheet_in t) n).edit
unfolding edit_at_row
emergency_row t n w e =
    let r = kind_row t 12 n in
    ap (λ (w : ℕ). eqb w espill_word || eqb w ereload_word) e ∙ emergency_of (get_or r 2 0) (get_or r 3 0) (get_or r 4 0) (get_or r 5 0) ∙ ap is_emergency (sym (sheet_edit_is t n (record { at = 0; edit = Nothing }) refl))

pub emergencies_any : (t : List ℕ) {m : ℕ} → m ≡ count_in t 12 → any (λ n. is_emergency (edit_row (sheet_in t) n).edit) (range_with_len 0 m) ≡ some_emergency (sheet_in t)
unfolding some_emergency
emergencies_any t {m} e =
    ap (any (λ n. is_emergency (edit_row (sheet_in t) n).edit)) (range_from 0 m ∙ ap (from 0) (e ∙ sym (long_of (edits_are t))))
    ∙ sym (any_numbers (λ (e : EditRow). is_emergency e.edit) (record { at = 0; edit = Nothing }) (sheet_in t).edits)

-- of any other edit nothing is asked
other_holds : (sh : Sheet) (e : Edit) → is_emergency e ≡ false → edit_holds sh e ≡ true
unfolding is_emergency edit_holds placed pair_holds
other_holds sh (Move to p v) q = refl
other_holds sh (Remat to v) q = refl
other_holds sh (Espill s r) q = never (sym q)
other_holds sh (Ereload r s) q = never (sym q)
other_holds sh (Misplaced to p) q = never (sym q)
other_holds sh Nothing q = refl

other_paired : (e : Edit) (es : List Edit) → is_emergency e ≡ false → paired none (e ∷ es) ≡ paired none es
unfolding is_emergency paired
other_paired (Move to p v) es q = refl
other_paired (Remat to v) es q = refl
other_paired (Espill s r) es q = never (sym q)
other_paired (Ereload r s) es q = never (sym q)
other_paired (Misplaced to p) es q = never (sym q)
other_paired Nothing es q = refl

others_hold : (sh : Sheet) (es : List EditRow) → any (λ e. is_emergency e.edit) es ≡ false → all (λ e. edit_holds sh e.edit) es ≡ true
others_hold sh [] q = refl
others_hold sh (e ∷ es) q =
    by_bool (is_emergency e.edit) (λ p. let z : true ≡ false = rw p at q in never (sym z)) (λ p. rw (other_holds sh e.edit p) (others_hold sh es (rw p at q)))

others_paired : (f : EditRow → Bool) (es : List EditRow) → any (λ e. is_emergency e.edit) es ≡ false → paired none (map (λ e. e.edit) (keep f es)) ≡ true
unfolding keep paired
others_paired f [] q = refl
others_paired f (e ∷ es) q =
    by_bool (is_emergency e.edit) (λ p. let z : true ≡ false = rw p at q in never (sym z))
    (λ p.
    let z = others_paired f es (rw p at q) in
    by_bool (f e) (λ h. rw h (other_paired e.edit (map (λ e. e.edit) (keep f es)) p ∙ z)) (λ h. rw h z))

-- ---- pairs

-- the rest of a block's edits goes on well after what an edit left
abbrev pub left_by : Result Held (Unit {0}) → List Edit → Bool
left_by (Ok h) es = paired_by h es
left_by (Err u) es = false

pair_step : (e : Edit) (h : Held) (es : List Edit) → left_by (after_edit e h) es ≡ paired_by h (e ∷ es)
unfolding paired_by after_edit paired
pair_step (Move to p v) None es = refl
pair_step (Move to p v) (Some h) es = refl
pair_step (Remat to v) None es = refl
pair_step (Remat to v) (Some h) es = refl
pair_step (Misplaced to p) None es = refl
pair_step (Misplaced to p) (Some h) es = refl
pair_step Nothing None es = refl
pair_step Nothing (Some h) es = refl
pair_step (Espill s r) None es = refl
pair_step (Espill s r) (Some h) es = refl
pair_step (Ereload r s) None es = refl
pair_step (Ereload r s) (Some h) es = by_bool (eqb h.0.0 s.0 && eqb h.1.0 r.0) (λ e. rw e) (λ e. rw e)

same_after : (h : Held) → after_edit Nothing h ≡ Ok h
unfolding after_edit
same_after h = refl

module _ (t : List ℕ) (h : Held) (e : Edit) (u n : ℕ) {x : Result Held (Unit {0})} (l : n < u) (q : e ≡ edit_at_row t n) (z : x ≡ after_edit e h) {d : Bool} (inv : paired_by h (edits_of (take (u - n) (drop n (sheet_in t).edits))) ≡ d) where
  pairs_on : left_by x (edits_of (take (u - (n + 1)) (drop (n + 1) (sheet_in t).edits))) ≡ d
  unfolding edits_of
  pairs_on =
      let es = (sheet_in t).edits in
      let r = edit_row (sheet_in t) n in
      let rest = map (λ (e : EditRow). e.edit) (take (u - (n + 1)) (drop (n + 1) es)) in
      let m : u - n ≡ suc (u - (n + 1)) = omega arith in
      let w : e ≡ r.edit = q ∙ sym (sheet_edit_is t n (record { at = 0; edit = Nothing }) refl) in
      by_lt n (length es)
      (λ l.
      let a : drop n es ≡ r ∷ drop (n + 1) es = drop-cons es n _ l ∙ ap (λ (k : ℕ). r ∷ drop k es) (sym (add-one n)) in
      ap (λ (x : Result Held (Unit {0})). left_by x rest) z
      ∙ pair_step e h rest
      ∙ ap (λ (x : Edit). paired_by h (x ∷ rest)) w
      ∙ sym (ap (λ (x : List EditRow). paired_by h (map (λ e. e.edit) (take (u - n) x))) a ∙ ap (λ (k : ℕ). paired_by h (map (λ e. e.edit) (take k (r ∷ drop (n + 1) es)))) m)
      ∙ inv)
      (λ l.
      let a : drop n es ≡ [] = drop_of_length-le es l in
      let b : drop (n + 1) es ≡ [] = drop_of_length-le es {i = n + 1} (omega arith) in
      let c : e ≡ Nothing = w ∙ ap (λ (x : EditRow). x.edit) (get_or-eq_default es (record { at = 0; edit = Nothing }) l) in
      let s : x ≡ Ok h = z ∙ ap (λ (x : Edit). after_edit x h) c ∙ same_after h in
      let done : paired_by h [] ≡ d =
      sym (ap (λ (x : List EditRow). paired_by h (map (λ e. e.edit) (take (u - n) x))) a ∙ ap (λ (x : List EditRow). paired_by h (map (λ e. e.edit) x)) (take-nil (u - n))) ∙ inv
      in
      ap (λ (x : Result Held (Unit {0})). left_by x rest) s
      ∙ ap (λ (x : List EditRow). paired_by h (map (λ e. e.edit) (take (u - (n + 1)) x))) b ∙ ap (λ (x : List EditRow). paired_by h (map (λ e. e.edit) x)) (take-nil (u - (n + 1))) ∙ done)

  pub pairs_next : {k : Held} → x ≡ Ok k → paired_by k (edits_of (take (u - (n + 1)) (drop (n + 1) (sheet_in t).edits))) ≡ d
  pairs_next y = sym (ap (λ (x : Result Held (Unit {0})). left_by x (edits_of (take (u - (n + 1)) (drop (n + 1) (sheet_in t).edits)))) y) ∙ pairs_on

  pub pairs_stop : {k : Unit {0}} → x ≡ Err k → false ≡ d
  pairs_stop y = sym (ap (λ (x : Result Held (Unit {0})). left_by x (edits_of (take (u - (n + 1)) (drop (n + 1) (sheet_in t).edits)))) y) ∙ pairs_on

-- at the end all is well if none is open
pub pairs_end : (t : List ℕ) (h : Held) (u n : ℕ) {x d : Bool} → u ≤ n → x ≡ paired_by h [] → paired_by h (edits_of (take (u - n) (drop n (sheet_in t).edits))) ≡ d → x ≡ d
unfolding edits_of
pairs_end t h u n e c inv = let z : u - n ≡ 0 = omega arith in c ∙ rw z at inv

pub pairs_start : (es : List Edit) → paired_by None es ≡ paired none es
unfolding paired_by
pairs_start es = refl

-- ---- the edits of a block

abbrev within : ℕ → ℕ → List ℕ → Bool
within f u r = leb f (first r) && ltb (first r) u

span : (f u : ℕ) → f ≤ u → (rows : List (List ℕ)) → NeverFalls rows → keep (within f u) rows ≡ take (before u rows - before f rows) (drop (before f rows) rows)
unfolding keep before
span f u s [] up = refl
span f u s (r ∷ rows) up =
    let up' : NeverFalls rows = λ i j h l. up (suc i) (suc j) (omega arith) (omega arith) in
    let on : (j : ℕ) → j < length rows → first r ≤ first (get_or rows j []) = λ j l. up 0 (suc j) (omega arith) (omega arith) in
    by_lt (first r) f
    (λ h.
    let m : before u rows + 1 - (before f rows + 1) ≡ before u rows - before f rows = omega arith in
    rw (lt-leb f (first r) h, lt-ltb (first r) f h, lt-ltb (first r) u (omega arith), m, add-one (before f rows)) (span f u s rows up'))
    (λ h.
    by_lt (first r) u
    (λ l.
    let z : before f rows ≡ 0 = before_low f rows (λ j v. omega (arith, on j v)) in
    let m : before u rows + 1 - 0 ≡ suc (before u rows - before f rows) = omega arith in
    rw (le-leb f (first r) h, le-ltb (first r) f h, lt-ltb (first r) u l, m)
    (ap (λ (x : List (List ℕ)). r ∷ x) (span f u s rows up' ∙ ap (λ (n : ℕ). take (before u rows - before f rows) (drop n rows)) z)))
    (λ l.
    rw (le-ltb (first r) f h, le-ltb (first r) u l, and-false (leb f (first r)))
    (keep_none (within f u) [] rows (λ j v. rw (le-ltb (first (get_or rows j [])) u (omega (arith, on j v))) (and-false (leb f (first (get_or rows j []))))))))

module _ {t : List ℕ} (g : Ready t) (o : in_order (sheet_in t).edits ≡ true) (b : ℕ) (i : Range) (e : i ≡ range_in t inst_index block_limit b) where
  abbrev sh : Sheet
  sh = sheet_in t

  insts : insts_of sh b ≡ from i.from (i.to - i.from)
  insts = sym (rw e (insts_are g b))

  pub block_none : i.to ≤ i.from → edits_of (take (0 - 0) (drop 0 sh.edits)) ≡ edits_in sh b
  unfolding edits_in edits_of from is_in
  block_none h =
      let z : i.to - i.from ≡ 0 = omega arith in
      sym (ap (map (λ (e : EditRow). e.edit)) (keep_none (λ e. is_in e.at (insts_of sh b)) (record { at = 0; edit = Nothing }) sh.edits (λ j u. rw (insts, z))))

  insts_within : i.from < i.to → i.to ≤ inst_limit
  unfolding range_in
  insts_within h =
      by_lt b block_limit
      (λ l.
      let q : inst_index + b + 1 ≡ inst_index + (b + 1) = omega arith in
      let z : i.to ≡ total_of (take (b + 1) sh.blocks) = ap (λ (x : Range). x.to) e ∙ rw (lt-ltb b block_limit l, q) (g.built.insts (b + 1) (omega arith)) in
      rw z (omega (arith, total_part (b + 1) sh.blocks, (in_limits sh g.limits).few_insts)))
      (λ l. let z : i.to ≡ 0 = ap (λ (x : Range). x.to) e ∙ rw (le-ltb b block_limit l) in rw z (omega arith))

  pub block_some : (x y : Range) → i.from < i.to → x ≡ range_in t edit_index inst_limit i.from → y ≡ range_in t edit_index inst_limit (i.to - 1)
      → edits_of (take (y.to - x.from) (drop x.from sh.edits)) ≡ edits_in sh b
  unfolding range_in edits_in edits_of
  block_some x y h p q =
      let w = insts_within h in
      let a : x.from ≡ before i.from (rows_at t 12) = ap (λ (x : Range). x.from) p ∙ rw (lt-ltb i.from inst_limit (omega arith)) (g.built.edits i.from (omega arith)) in
      let k : edit_index + (i.to - 1) + 1 ≡ edit_index + i.to = omega arith in
      let c : y.to ≡ before i.to (rows_at t 12) = ap (λ (x : Range). x.to) q ∙ rw (lt-ltb (i.to - 1) inst_limit (omega arith), k) (g.built.edits i.to w) in
      let m : i.from + (i.to - i.from) ≡ i.to = omega arith in
      rw (a, c)
      (ap (map (λ (e : EditRow). e.edit))
      (ap (λ (l : List EditRow). take (before i.to (rows_at t 12) - before i.from (rows_at t 12)) (drop (before i.from (rows_at t 12)) l)) (edits_are t).is
      ∙ part_map edit_row_of (before i.to (rows_at t 12) - before i.from (rows_at t 12)) (before i.from (rows_at t 12)) (rows_at t 12)
      ∙ ap (map edit_row_of)
      (sym (span i.from i.to (omega arith) (rows_at t 12) (edits_fall_in g o))
      ∙ keep_same (within i.from i.to) (λ r. is_in (first r) (insts_of sh b)) (rows_at t 12) (λ r. sym (ap (is_in (first r)) insts ∙ is_from (first r) i.from (i.to - i.from) ∙ ap (λ (n : ℕ). leb i.from (first r) && ltb (first r) n) m)))
      ∙ sym (keep_map edit_row_of (λ e. is_in e.at (insts_of sh b)) (rows_at t 12)) ∙ ap (keep (λ e. is_in e.at (insts_of sh b))) (sym (edits_are t).is)))

-- ---- home slots

abbrev pub home_in : Sheet → ℕ → ℕ → Bool
home_in sh k v = Option-elim (home_of sh v) false (eqb k)

slot_lost : (x : Option ℕ) → None ≡ slot_found x → x ≡ none
unfolding slot_found
slot_lost none q = refl
slot_lost (some y) q = absurd (let z : ◌≡◌ {A = ℕ} 0 1 = cc in omega arith)

slot_found_lem : (x : Option ℕ) (h : SpillSlot) → Some h ≡ slot_found x → x ≡ some h.0
unfolding slot_found
slot_found_lem none h q = absurd (let z : ◌≡◌ {A = ℕ} 0 1 = cc in omega arith)
slot_found_lem (some y) h q = let z : h ≡ record { 0 = y } = cc in ap some (sym (ap (λ (h : SpillSlot). h.0) z))

module _ (o : Option ℕ) (s : NumberSet) {f : Code.Option SpillSlot} (e : f ≡ slot_found o) where
  pub home_none : f ≡ None → (p : ℕ → Bool) → s ≡ set_of p → s ≡ set_of (λ k. p k || Option-elim o false (eqb k))
  unfolding Option-elim
  home_none q p i = i ∙ set_of_same p (λ k. p k || Option-elim o false (eqb k)) (λ k h. rw (slot_lost o (sym q ∙ e)) (sym (or-false (p k))))

  pub home_some : (h : SpillSlot) (x : NumberSet) → f ≡ Some h → x ≡ set_of (λ k. has s k || eqb k h.0) → (p : ℕ → Bool) → s ≡ set_of p → x ≡ set_of (λ k. p k || Option-elim o false (eqb k))
  unfolding Option-elim
  home_some h x q z p i =
      z ∙ set_of_same (λ k. has s k || eqb k h.0) (λ k. p k || Option-elim o false (eqb k)) (λ k l. rw (i, has_set_of p k l, slot_found_lem o h (sym q ∙ e)))

module _ (t : List ℕ) where
  pub homes_none : (s : NumberSet) → s ≡ set_of (λ k. false) → s ≡ set_of (λ k. any (home_in (sheet_in t) k) (from 0 0))
  unfolding from
  homes_none s e = e

  pub homes_next : (v : ℕ) (x : NumberSet) → x ≡ set_of (λ k. any (home_in (sheet_in t) k) (from 0 v) || home_in (sheet_in t) k v) → x ≡ set_of (λ k. any (home_in (sheet_in t) k) (from 0 (v + 1)))
  homes_next v x e =
      e ∙ set_of_same (λ k. any (home_in (sheet_in t) k) (from 0 v) || home_in (sheet_in t) k v) (λ k. any (home_in (sheet_in t) k) (from 0 (v + 1))) (λ k h. sym (any_more (home_in (sheet_in t) k) v))

  pub homes_end : (v m : ℕ) (x : NumberSet) → m ≡ count_in t 4 → v ≤ m → m ≤ v → x ≡ set_of (λ k. any (home_in (sheet_in t) k) (from 0 v)) → x ≡ home_set (sheet_in t)
  unfolding home_set is_home_of
  homes_end v m x e l u i =
      let z : v ≡ length (sheet_in t).values = omega (arith, long_of (values_are t)) in
      i
      ∙ set_of_same (λ k. any (home_in (sheet_in t) k) (from 0 v)) (is_home_of (sheet_in t)) (λ k h. ap (λ (n : ℕ). any (home_in (sheet_in t) k) (from 0 n)) z ∙ sym (any_numbers (λ h. Option-elim h false (eqb k)) none (sheet_in t).values))

-- ---- shared units

abbrev pub unit_in : Sheet → ℕ → ℕ → Bool
unit_in sh k q = is_in k (units_of sh q)

module _ (t : List ℕ) where
  pub shared_none : (s : NumberSet) → s ≡ set_of (λ k. false) → (s ≡ set_of (λ k. any (unit_in (sheet_in t) k) (from 0 0))) × (s ≡ set_of (shared_in (sheet_in t) 0))
  unfolding from shared_in
  shared_none s e = (e, e)

  -- the units of register r
  own_is : (r : ℕ) {none o : NumberSet} {l : List ℕ} → none ≡ set_of (λ k. false) → l ≡ units_of (sheet_in t) r → o ≡ set_of (λ k. has none k || is_in k l) → (k : ℕ) → k < set_limit → has o k ≡ unit_in (sheet_in t) k r
  own_is r {none} {o} {l} n e z k h = rw (z, has_set_of (λ k. has none k || is_in k l) k h, n, has_set_of (λ k. false) k h, e)

  module _ (r : ℕ) {none s o : NumberSet} {l : List ℕ} (n : none ≡ set_of (λ k. false)) (e : l ≡ units_of (sheet_in t) r) (z : o ≡ set_of (λ k. has none k || is_in k l)) (i : s ≡ set_of (λ k. any (unit_in (sheet_in t) k) (from 0 r))) where
    pub seen_next : {x : NumberSet} → x ≡ set_of (λ k. has s k || has o k) → x ≡ set_of (λ k. any (unit_in (sheet_in t) k) (from 0 (r + 1)))
    seen_next q =
        q
        ∙ set_of_same (λ k. has s k || has o k) (λ k. any (unit_in (sheet_in t) k) (from 0 (r + 1)))
        (λ k h. rw (own_is r n e z k h, i, has_set_of (λ k. any (unit_in (sheet_in t) k) (from 0 r)) k h) (sym (any_more (unit_in (sheet_in t) k) r)))

    pub shared_next : {y w x : NumberSet} → y ≡ set_of (shared_in (sheet_in t) r) → w ≡ set_of (λ k. has s k && has o k) → x ≡ set_of (λ k. has y k || has w k) → x ≡ set_of (shared_in (sheet_in t) (r + 1))
    unfolding shared_in
    shared_next {y} {w} j m q =
        q
        ∙ set_of_same (λ k. has y k || has w k) (shared_in (sheet_in t) (r + 1))
        (λ k h. rw (add-one r, m, has_set_of (λ k. has s k && has o k) k h, own_is r n e z k h, i, j, has_set_of (λ k. any (unit_in (sheet_in t) k) (from 0 r)) k h, has_set_of (shared_in (sheet_in t) r) k h))

  pub shared_end : (r m : ℕ) (x : NumberSet) → m ≡ count_in t 1 → r ≤ m → m ≤ r → x ≡ set_of (shared_in (sheet_in t) r) → x ≡ shared_set (sheet_in t)
  unfolding shared_set
  shared_end r m x e l u i =
      let z : r ≡ reg_count (sheet_in t) = omega (arith, long_of (regs_are t)) in i ∙ ap (λ (n : ℕ). set_of (shared_in (sheet_in t) n)) z

module _ (sh : Sheet) (u : ℕ) where
  shared_hit : (n j i : ℕ) → j < i → i < n → is_in u (units_of sh j) ≡ true → is_in u (units_of sh i) ≡ true → shared_in sh n u ≡ true
  unfolding shared_in
  shared_hit zero j i h l p q = absurd (omega arith)
  shared_hit (suc n) j i h l p q =
      by_eq i n
      (λ z.
      or_right (shared_in sh n u) (any (unit_in sh u) (from 0 n) && is_in u (units_of sh n))
      (and_both (any (unit_in sh u) (from 0 n)) (is_in u (units_of sh n)) (from_hit (unit_in sh u) n j (omega arith) p) (rw z at q)))
      (λ d. or_left (shared_in sh n u) (any (unit_in sh u) (from 0 n) && is_in u (units_of sh n)) (shared_hit n j i h (omega arith) p q))

  -- another register than r has the unit
  shared_other : (n r : ℕ) → shared_in sh n u ≡ true → (q : ℕ) × (q < n) × (q ≡ r → ⊥) × (is_in u (units_of sh q) ≡ true)
  unfolding shared_in
  shared_other zero r e = never e
  shared_other (suc n) r e =
      or_cases (shared_in sh n u) (any (unit_in sh u) (from 0 n) && is_in u (units_of sh n)) e
      (λ z. let w = shared_other n r z in (w.0, omega (arith, w.1), w.2, w.3))
      (λ z.
      let w = from_some (unit_in sh u) n (and_left (any (unit_in sh u) (from 0 n)) (is_in u (units_of sh n)) z) in
      let p = and_right (any (unit_in sh u) (from 0 n)) (is_in u (units_of sh n)) z in
      by_eq n r (λ q. (w.0, omega (arith, w.1), λ x. omega (arith, w.1), w.2)) (λ d. (n, omega arith, d, p)))

  shared_both : (n q r : ℕ) → q < n → r < n → (q ≡ r → ⊥) → is_in u (units_of sh q) ≡ true → is_in u (units_of sh r) ≡ true → shared_in sh n u ≡ true
  shared_both n q r h l d a b = by_lt q r (λ z. shared_hit n q r z l a b) (λ z. shared_hit n r q (omega (arith, d)) h b a)

module _ (sh : Sheet) (r : ℕ) (h : r < reg_count sh) where
  abbrev other : ℕ → Bool
  other q = eqb q r || not (any (λ u. is_in u (units_of sh q)) (units_of sh r))

  pub apart_is : not (any (shared_in sh (reg_count sh)) (units_of sh r)) ≡ apart sh r
  unfolding apart
  apart_is =
      same_test (not (any (shared_in sh (reg_count sh)) (units_of sh r))) (all other (from 0 (reg_count sh)))
      (λ e.
      all_each other 0 (from 0 (reg_count sh))
      (λ j l.
      let b : j < reg_count sh = rw (from_long 0 (reg_count sh)) at l in
      let z : get_or (from 0 (reg_count sh)) j 0 ≡ j = from_at 0 (reg_count sh) j b ∙ omega arith in
      rw z
      (by_eq j r (λ q. rw (eq-eqb j r q))
      (λ d.
      by_bool (any (λ u. is_in u (units_of sh j)) (units_of sh r))
      (λ p.
      let w = any_at (λ u. is_in u (units_of sh j)) 0 (units_of sh r) p in
      let u = get_or (units_of sh r) w.0 0 in
      let c : any (shared_in sh (reg_count sh)) (units_of sh r) ≡ true =
      any_hit (shared_in sh (reg_count sh)) 0 (units_of sh r) w.0 w.1 (shared_both sh u (reg_count sh) j r b h d w.2 (in_hit (units_of sh r) w.0 w.1))
      in
      never (sym (ap not c) ∙ e))
      (λ p. rw (ne_eqb j r d, p))))))
      (λ e.
      by_bool (any (shared_in sh (reg_count sh)) (units_of sh r))
      (λ p.
      let w = any_at (shared_in sh (reg_count sh)) 0 (units_of sh r) p in
      let u = get_or (units_of sh r) w.0 0 in
      let v = shared_other sh u (reg_count sh) r w.2 in
      let q = v.0 in
      let z : get_or (from 0 (reg_count sh)) q 0 ≡ q = from_at 0 (reg_count sh) q v.1 ∙ omega arith in
      let a : other q ≡ true = rw z at (all_at other 0 (from 0 (reg_count sh)) e q (rw (from_long 0 (reg_count sh)) v.1)) in
      let c : any (λ u. is_in u (units_of sh q)) (units_of sh r) ≡ true = any_hit (λ u. is_in u (units_of sh q)) 0 (units_of sh r) w.0 w.1 v.3 in
      never (sym (rw (ne_eqb q r v.2, c)) ∙ a))
      (λ p. rw p))

-- ---- one edit

units_below : (sh : Sheet) (r : ℕ) → within_limits sh ≡ true → r < reg_count sh → below (units_of sh r) ≡ true
unfolding units_within
units_below sh r e h =
    all_more (λ u. ltb u unit_limit) (λ u. ltb u set_limit) (λ u l. lt-ltb u set_limit (omega (arith, ltb-true u unit_limit l))) (units_of sh r)
    (all_at (λ (r : RegRow). units_within r.units) _ sh.regs (in_limits sh e).small_units r h)

module _ (t : List ℕ) (homes shared : NumberSet) (s r : ℕ) where
  abbrev pub Known : Type 0 → Type 0
  Known X = Ready t → homes ≡ home_set (sheet_in t) → shared ≡ shared_set (sheet_in t) → slot_exists (sheet_in t) s ≡ true → reg_exists (sheet_in t) r ≡ true → X

  has_home : {x : Bool} → x ≡ has homes s → Known (x ≡ is_home_of (sheet_in t) s)
  unfolding home_set
  has_home e g p q a b =
      e ∙ ap (λ (h : NumberSet). has h s) p
      ∙ has_set_of (is_home_of (sheet_in t)) s (omega (arith, (in_limits (sheet_in t) g.limits).few_slots, ltb-true s (sheet_in t).slots a))

  pub apart_home : {x : Bool} → x ≡ has homes s → x ≡ true → Known (not x ≡ pair_apart (sheet_in t) s r)
  unfolding pair_apart no_home is_home_of
  apart_home e z g p q a b = let h = sym (has_home e g p q a b) ∙ z in rw (z, h)

  pub apart_units : {x y : Bool} (l : List ℕ) → x ≡ has homes s → x ≡ false → l ≡ units_of (sheet_in t) r → y ≡ any (has shared) l → Known (not y ≡ pair_apart (sheet_in t) s r)
  unfolding pair_apart no_home is_home_of shared_set
  apart_units {y = y} l e z m w g p q a b =
      let h = sym (has_home e g p q a b) ∙ z in
      let k = ltb-true r (reg_count (sheet_in t)) b in
      rw h
      (ap not
      (w ∙ ap (any (has shared)) m ∙ ap (λ (s : NumberSet). any (has s) (units_of (sheet_in t) r)) q
      ∙ any_set_of (shared_in (sheet_in t) (reg_count (sheet_in t))) (units_of (sheet_in t) r) (units_below (sheet_in t) r g.limits k))
      ∙ apart_is (sheet_in t) r k)

-- ---- all of them

module _ (t : List ℕ) where
  pub each_all : {m : ℕ} → m ≡ count_in t 12 → all (λ n. edit_holds (sheet_in t) (edit_row (sheet_in t) n).edit) (range_with_len 0 m) ≡ each_holds (sheet_in t)
  unfolding each_holds
  each_all {m} e =
      ap (all (λ n. edit_holds (sheet_in t) (edit_row (sheet_in t) n).edit)) (range_from 0 m ∙ ap (from 0) (e ∙ sym (long_of (edits_are t))))
      ∙ sym (all_numbers (λ (e : EditRow). edit_holds (sheet_in t) e.edit) (record { at = 0; edit = Nothing }) (sheet_in t).edits)

  -- a row names what exists, and so does what stands past the last
  named_at : Ready t → (n : ℕ) → edit_names (sheet_in t) (edit_row (sheet_in t) n).edit ≡ true
  unfolding edit_names
  named_at g n =
      let sh = sheet_in t in
      by_lt n (length sh.edits)
      (λ l.
      and_right (ltb (edit_row sh n).at (inst_count sh)) (edit_names sh (edit_row sh n).edit)
      (all_at (λ (e : EditRow). ltb e.at (inst_count sh) && edit_names sh e.edit) (record { at = 0; edit = Nothing }) sh.edits (each_named sh (all_named_lem sh g.names)).edits n l))
      (λ l. ap (λ (x : EditRow). edit_names sh x.edit) (get_or-eq_default sh.edits (record { at = 0; edit = Nothing }) l))

  row_edit : (n : ℕ) {e : Edit} → e ≡ edit_at_row t n → e ≡ (edit_row (sheet_in t) n).edit
  row_edit n z = z ∙ sym (sheet_edit_is t n (record { at = 0; edit = Nothing }) refl)

  pub row_named : Ready t → (n : ℕ) {e : Edit} → e ≡ edit_at_row t n → edit_names (sheet_in t) e ≡ true
  row_named g n z = rw (row_edit n z) (named_at g n)

  pub row_held : (n : ℕ) {e : Edit} {x : Bool} → e ≡ edit_at_row t n → x ≡ edit_holds (sheet_in t) e → x ≡ edit_holds (sheet_in t) (edit_row (sheet_in t) n).edit
  row_held n z k = k ∙ ap (edit_holds (sheet_in t)) (row_edit n z)

-- REFUSAL 6
pub edits_hold_lem : (sh : Sheet) → (in_order sh.edits && each_holds sh && all (λ b. paired none (edits_in sh b)) (from 0 (block_count sh))) ≡ edits_hold sh
unfolding edits_hold each_holds edit_holds
edits_hold_lem sh =
    rw (all_and (λ (e : EditRow). placed e.edit) (λ e. pair_holds sh e.edit) sh.edits)
    (regroup (in_order sh.edits) (all (λ (e : EditRow). placed e.edit) sh.edits) (all (λ (e : EditRow). pair_holds sh e.edit) sh.edits) (all (λ b. paired none (edits_in sh b)) (from 0 (block_count sh))))
  where
    regroup : (o p h a : Bool) → (o && (p && h) && a) ≡ (o && p && a && h)
    regroup true true true true = refl
    regroup true true true false = refl
    regroup true true false true = refl
    regroup true true false false = refl
    regroup true false h a = refl
    regroup false p h a = refl

module _ {H : Type 0} (sh : Sheet) where
  pub none_asked : (x y : Bool) → x ≡ in_order sh.edits → x ≡ true → y ≡ some_emergency sh → y ≡ false → H → not y ≡ edits_hold sh
  unfolding some_emergency each_holds edits_in
  none_asked x y e n f m g =
      let q = sym f ∙ m in
      rw m
      (rw (sym e ∙ n, others_hold sh sh.edits q, all_each (λ b. paired none (edits_in sh b)) 0 (from 0 (block_count sh)) (λ j u. others_paired (λ e. is_in e.at (insts_of sh (get_or (from 0 (block_count sh)) j 0))) sh.edits q))
      at (edits_hold_lem sh))

  pub unordered : (x : Bool) → x ≡ in_order sh.edits → x ≡ false → H → x ≡ edits_hold sh
  unordered x e n g = n ∙ rw (sym e ∙ n) at (edits_hold_lem sh)

  pub one_broken : (y : Bool) → (H → y ≡ each_holds sh) → y ≡ false → H → y ≡ edits_hold sh
  one_broken y e n g = n ∙ simp (sym (e g) ∙ n, and-false) at (edits_hold_lem sh)

  pub all_held : (x y z : Bool) → x ≡ in_order sh.edits → x ≡ true → (H → y ≡ each_holds sh) → y ≡ true
      → (H → in_order sh.edits ≡ true → z ≡ all (λ b. paired none (edits_in sh b)) (from 0 (block_count sh))) → H → z ≡ edits_hold sh
  all_held x y z e n f m k g = let o = sym e ∙ n in k g o ∙ rw (o, sym (f g) ∙ m) at (edits_hold_lem sh)
