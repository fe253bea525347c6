-- `fold_to` and `fold` of src/lib.rt: a row's fold is what the rule `fold_to` says, and what it makes of the walk. Assumes nothing.
use mathlib.Core.Path.{◌≡◌, refl, sym, ap, ◌∙◌}
use mathlib.Core.Bool.{Bool, true, false, not, ◌&&◌, and-false}
use mathlib.Core.List.{List}
use mathlib.Core.Option.{Option, none, some, Option-elim}
use Prim.Native.Nat.{ℕ, zero, suc, ◌+◌, ◌-◌, ◌<◌}
use native.Mathlib.Omega.{arith}
use lib.ListN.{length, get_or, set, length-set, get_or-eq_default}
use lib.Seq.{get_or-set_same, get_or-set_other, ext_get_or}
use borrow.Author.Tests.{ltb-true, lt-ltb, ne_eqb}
use Rattle.laws.specs.First.{first}
use Rattle.laws.specs.Lists.{is_in}
use Rattle.laws.proofs.Cases.{by_bool, by_lt, by_eq, some_ne_none}
use Rattle.laws.proofs.First.{first_found}
use Rattle.entity.specs.Limits.{class_limit}
use Rattle.entity.specs.declared.numbers.PhysReg.{PhysReg}
use Rattle.entity.specs.declared.numbers.RegClass.{RegClass}
use Rattle.std.specs.Prelude.{Some, None}
use Rattle.std.specs.Prelude as Code
use Rattle.entity.specs.declared.forms.Place.{Place}
use Rattle.entity.specs.declared.forms.Place.TheVariants.{Reg}
use Rattle.entity.specs.declared.forms.Constraint.{Constraint}
use Rattle.entity.specs.declared.forms.Constraint.TheVariants.{Class, Fixed, Reuse}
use Rattle.entity.specs.declared.forms.OperandKind.TheVariants.{NonAllocatable}
use Rattle.rules.specs.Cells.{number_limit, reg_mark, slot_mark}
use Rattle.rules.specs.Sheet.{Sheet, OpRow, reg_count, class_row, is_memory, place_of, is_use, subject_of}
use Rattle.rules.specs.Accept.{inst_exists, subject_exists, constraint_exists, place_exists}
use Rattle.rules.specs.Answer.{place_cell}
use Rattle.rules.specs.Record.{Record, holds}
use Rattle.rules.specs.Forward.{Walk, in_memory, lowest_holding, reused, fold_to, fold, count}
use Rattle.rules.proofs.Refusals.{in_limits, all_named_lem, each_named}
use Rattle.table.specs.Sheet.{sheet_in}
use Rattle.table.specs.Index.{Ready}
use Rattle.table.specs.View.{op_row}
use Rattle.table.specs.Edits.{place_in, places_in, SmallPlace}
use Rattle.table.specs.Written.{PlaceCell}
use Rattle.table.proofs.Loops.{and_left, and_right, never, all_at}
use Rattle.table.proofs.Stored.{places_length, places_at}
use Rattle.table.proofs.Counted.{count_more}
use Rattle.record.specs.Flat.{record_of}
use Rattle.record.specs.declared.flat.WalkRecord.{WalkRecord}
use Rattle.holders.specs.Holders.{allows, reg_found}
use Rattle.moves.specs.Walks.{Walked}
use Rattle.moves.proofs.Walks.{walked_fewer}
use Rattle.folding.specs.Folds.{may_fold}

-- ---- the register that a row is folded to

pub found_none : {x : Option ℕ} → x ≡ none → None ≡ reg_found x
unfolding reg_found
found_none e = rw e

-- by its constraint, if it may be folded and is not reused
abbrev chosen : Sheet → Constraint → ℕ → Record → Option ℕ
chosen sh c v s = elim c [ Class c ↦ lowest_holding sh (λ r. is_in r (class_row sh c.0).members) v s | Fixed r ↦ none | Reuse n ↦ none ]

not_chosen : (sh : Sheet) (c : Constraint) (v : ℕ) (s : Record) → ((x : RegClass) → c ≡ Class x → ⊥) → chosen sh c v s ≡ none
not_chosen sh (Class x) v s n = absurd (n x refl)
not_chosen sh (Fixed r) v s n = refl
not_chosen sh (Reuse k) v s n = refl

module _ (sh : Sheet) (o : OpRow) (k : ℕ) (s : Record) where
  abbrev goes : Bool
  goes = is_use o.kind && in_memory sh o.place && not (reused sh o.at k)

  stays : goes ≡ false → fold_to sh o k s ≡ none
  unfolding fold_to
  stays e = rw (e, fold_to)

  moves : goes ≡ true → fold_to sh o k s ≡ chosen sh o.constraint (subject_of o.kind) s
  unfolding fold_to
  moves e = rw (e, fold_to)

  pub tied_stays : reused sh o.at k ≡ true → fold_to sh o k s ≡ none
  tied_stays e = stays (rw e (and-false (is_use o.kind && in_memory sh o.place)))

  pub other_stays : may_fold sh o ≡ false → fold_to sh o k s ≡ none
  unfolding may_fold
  other_stays e = stays (rw e)

  pub other_class : {q : Constraint} → q ≡ o.constraint → ((c : RegClass) → q ≡ Class c → ⊥) → fold_to sh o k s ≡ none
  other_class {q} e n = by_bool goes (λ g. moves g ∙ ap (λ (c : Constraint). chosen sh c (subject_of o.kind) s) (sym e) ∙ not_chosen sh q (subject_of o.kind) s n) stays

first_same : {A : Type 0} (at : ℕ → A) (no' : A) (f g : ℕ → Bool) (i n : ℕ) → ((r : ℕ) → f r ≡ g r) → first at no' f i n ≡ first at no' g i n
unfolding first
first_same at no' f g i zero h = refl
first_same at no' f g i (suc n) h = rw (h i, first_same at no' f g (suc i) n h)

lowest_same : (sh : Sheet) (f g : ℕ → Bool) (v : ℕ) (s : Record) → ((r : ℕ) → f r ≡ g r) → lowest_holding sh f v s ≡ lowest_holding sh g v s
unfolding lowest_holding
lowest_same sh f g v s h =
    first_same some none (λ r. f r && not (is_memory sh r) && holds s r v) (λ r. g r && not (is_memory sh r) && holds s r v) 0 (reg_count sh) (λ r. rw (h r))

class_allows : (sh : Sheet) (c r : ℕ) → c < class_limit → allows sh c r ≡ is_in r (class_row sh c).members
unfolding allows
class_allows sh c r h = rw (ne_eqb c class_limit (λ e. omega arith))

pub class_folds : (sh : Sheet) (o : OpRow) (k : ℕ) (s : Record) {c : RegClass} {f : Code.Option PhysReg} {v : ℕ} → reused sh o.at k ≡ false → may_fold sh o ≡ true → o.constraint ≡ Class c
    → c.0 < class_limit → v ≡ subject_of o.kind → f ≡ reg_found (lowest_holding sh (allows sh c.0) v s) → f ≡ reg_found (fold_to sh o k s)
unfolding may_fold
class_folds sh o k s {c} {f} {v} t m q h e p =
    p
    ∙ ap reg_found
    (lowest_same sh (allows sh c.0) (λ r. is_in r (class_row sh c.0).members) v s (λ r. class_allows sh c.0 r h)
    ∙ sym (moves sh o k s (rw (m, t)) ∙ rw (q, ← e)))

abbrev none_row : OpRow
none_row = record { at = 0; kind = NonAllocatable; constraint = Class (record { 0 = 0 }); place = Reg (record { 0 = 0 }) }

-- a class that a row names is below the limit
pub class_small : {t : List ℕ} → Ready t → (n : ℕ) {c : RegClass} → (op_row (sheet_in t) n).constraint ≡ Class c → c.0 < class_limit
unfolding constraint_exists
class_small {t} g n {c} e =
    let sh : Sheet = sheet_in t in
    by_lt n (length sh.ops)
    (λ h.
    let o : OpRow = op_row sh n in
    let p = all_at (λ (o : OpRow). inst_exists sh o.at && subject_exists sh o.kind && constraint_exists sh o.constraint && place_exists sh o.place) none_row sh.ops (each_named sh (all_named_lem sh g.names)).ops n h in
    let q =
    and_right (inst_exists sh o.at && subject_exists sh o.kind) (constraint_exists sh o.constraint)
    (and_left (inst_exists sh o.at && subject_exists sh o.kind && constraint_exists sh o.constraint) (place_exists sh o.place) p) in
    omega (arith, ltb-true c.0 (length sh.classes) (rw e at q), (in_limits sh g.limits).few_classes))
    (λ h. let z : Class (record { 0 = 0 }) ≡ Class c = rw (get_or-eq_default sh.ops none_row h) at e in let y : record { 0 = 0 } ≡ c = cc in omega (arith, ap (λ (x : RegClass). x.0) y))

-- ---- what is found

chosen_small : (sh : Sheet) (c : Constraint) (v : ℕ) (s : Record) (r : ℕ) → chosen sh c v s ≡ some r → r < reg_count sh
unfolding lowest_holding
chosen_small sh (Class c) v s r e = omega (arith, (first_found (λ r. is_in r (class_row sh c.0).members && not (is_memory sh r) && holds s r v) 0 (reg_count sh) r e).below)
chosen_small sh (Fixed x) v s r e = let z : ◌≡◌ {A = ℕ} 0 1 = cc in absurd (omega arith)
chosen_small sh (Reuse x) v s r e = let z : ◌≡◌ {A = ℕ} 0 1 = cc in absurd (omega arith)

module _ (sh : Sheet) (o : OpRow) (k : ℕ) (s : Record) (r : ℕ) (e : fold_to sh o k s ≡ some r) where
  fold_small : r < reg_count sh
  fold_small =
      by_bool (goes sh o k s) (λ q. chosen_small sh o.constraint (subject_of o.kind) s r (sym (moves sh o k s q) ∙ e)) (λ q. some_ne_none e (stays sh o k s q))

  fold_use : is_use o.kind ≡ true
  fold_use = by_bool (is_use o.kind) (λ q. q) (λ q. some_ne_none e (stays sh o k s (rw q)))

-- a row past the end is no use
use_within : (sh : Sheet) (n : ℕ) → is_use (op_row sh n).kind ≡ true → n < length sh.ops
unfolding is_use
use_within sh n e = by_lt n (length sh.ops) (λ h. h) (λ h. never (rw (get_or-eq_default sh.ops none_row h) at e))

-- ---- what becomes of the places and the counts

reg_back : (r : PhysReg) → r.0 < number_limit → place_of (reg_mark + r.0) ≡ Reg r
unfolding place_of
reg_back r h =
    let e : reg_mark + r.0 - reg_mark ≡ r.0 = omega arith in
    let l : reg_mark + r.0 < slot_mark = omega arith in
    rw (lt-ltb (reg_mark + r.0) slot_mark l, e)

place_set : (places : List ℕ) (m n c : ℕ) (p : Place) → n < length places → place_of c ≡ p → places_in (set places n c) m ≡ set (places_in places m) n p
unfolding place_in
place_set places m n c p h e =
    let l : length (places_in (set places n c) m) ≡ m = places_length (set places n c) m in
    let k : length (places_in places m) ≡ m = places_length places m in
    ext_get_or p (places_in (set places n c) m) (set (places_in places m) n p) (l ∙ sym (length-set (places_in places m) n p ∙ k))
    (λ i u.
    let v : i < m = omega arith in
    by_eq i n
    (λ q.
    let w : n < m = omega arith in
    rw q (places_at (set places n c) m n p w ∙ ap place_of (get_or-set_same places n c 0 h) ∙ e ∙ sym (get_or-set_same (places_in places m) n p p (omega arith))))
    (λ q.
    places_at (set places n c) m i p v ∙ ap place_of (get_or-set_other places n i c 0 q) ∙ sym (get_or-set_other (places_in places m) n i p p q ∙ places_at places m i p v)))

cell_set : (places : List ℕ) (n c j : ℕ) → PlaceCell c → PlaceCell (get_or places j 0) → n < length places → PlaceCell (get_or (set places n c) j 0)
cell_set places n c j a b h = by_eq j n (λ q. rw (q, get_or-set_same places n c 0 h) a) (λ q. rw (get_or-set_other places n j c 0 q) b)

-- ---- and of the walk

pub fold_stays : (sh : Sheet) (w : Walk) (k n : ℕ) (o : OpRow) → fold_to sh o k w.rec ≡ none → fold sh w (k, n, o) ≡ w
unfolding fold Option-elim
fold_stays sh w k n o e = rw e

found_is : {f : Code.Option PhysReg} {x : Option ℕ} {r : PhysReg} → f ≡ reg_found x → f ≡ Some r → x ≡ some r.0
unfolding reg_found
found_is {x = none} e q = cc
found_is {x = some y} {r} e q = let z : record { 0 = y } ≡ r = cc in ap (λ (x : PhysReg). some x.0) z

not_found : {f : Code.Option PhysReg} {x : Option ℕ} → f ≡ reg_found x → f ≡ None → x ≡ none
unfolding reg_found
not_found {x = none} e q = refl
not_found {x = some y} e q = cc

module _ {t : List ℕ} {rec : WalkRecord} {edits places counts : List ℕ} {m : ℕ} (k n : ℕ) {w : Walk} {f : Code.Option PhysReg} (x : Walked t rec edits places counts (m + 1) w)
    (e : f ≡ reg_found (fold_to (sheet_in t) (op_row (sheet_in t) n) k (record_of rec))) where
  pub not_folded : f ≡ None → Walked t rec edits places counts m (fold (sheet_in t) w (k, n, op_row (sheet_in t) n))
  not_folded q =
      let o : OpRow = op_row (sheet_in t) n in
      rw (fold_stays (sheet_in t) w k n o (ap (fold_to (sheet_in t) o k) x.is_rec ∙ not_found e q)) (walked_fewer _ (omega arith) x)

  pub folded : {r : PhysReg} {p : Place} {c : ℕ} {places' counts' : List ℕ} → Ready t → f ≡ Some r → p ≡ Reg r → (SmallPlace p → c ≡ place_cell p) → places' ≡ set places n c
      → (get_or counts 6 0 < 4294967295 → counts' ≡ count 6 counts) → Walked t rec edits places' counts' m (fold (sheet_in t) w (k, n, op_row (sheet_in t) n))
  unfolding fold Option-elim place_cell
  folded {r} {p} {c} {places'} {counts'} g q pr cell store up =
      let sh : Sheet = sheet_in t in
      let o : OpRow = op_row sh n in
      let d = x.cells in
      let some-r : fold_to sh o k (record_of rec) ≡ some r.0 = found_is e q in
      let here : fold_to sh o k w.rec ≡ some r.0 = ap (fold_to sh o k) x.is_rec ∙ some-r in
      let small : r.0 < number_limit = omega (arith, fold_small sh o k (record_of rec) r.0 some-r, (in_limits sh g.limits).few_regs) in
      let in-ops : n < length sh.ops = use_within sh n (fold_use sh o k (record_of rec) r.0 some-r) in
      let in-places : n < length places = omega (arith, d.place_room) in
      let cell_is : c ≡ reg_mark + r.0 = (rw pr at cell) small in
      let back : place_of c ≡ Reg r = ap place_of cell_is ∙ reg_back r small in
      let counted : counts' ≡ count 6 counts = up (omega (arith, d.few 6)) in
      let long' : length places' ≡ length places = ap length store ∙ length-set places n c in
      rw here
      record {
        is_rec = x.is_rec;
        cells = record {
          edit_room = d.edit_room;
          place_room = omega (arith, d.place_room);
          in_cells = record {
            cells_of_edits = d.in_cells.cells_of_edits;
            is_edits = d.in_cells.is_edits;
            place_cells = λ j h. rw store (cell_set places n c j (omega arith, omega arith) (d.in_cells.place_cells j h) in-places);
            is_places =
                ap (λ (l : List Place). set l n (Reg r)) d.in_cells.is_places ∙ sym (ap (λ (l : List ℕ). places_in l (length sh.ops)) store ∙ place_set places (length sh.ops) n c (Reg r) in-places back);
          };
          few = λ j. rw counted (omega (arith, d.few j, count_more 6 j counts));
          is_counts = ap (count 6) d.is_counts ∙ sym counted;
        };
      }
