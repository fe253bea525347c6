-- For `AcceptedWithin` of specs/Theorem.antt: of an accepted sheet every slot that an operation reads is below the limit, after the forward rules at every level too: they put only registers
-- where they alter a place or a source.
--     WalkIn w       every slot of the walk's places, and every slot that one of its edits reads, is below the limit
--     optimise_in    the forward rules keep that
--     reads_within   the function of such a walk reads slots below the limit
--     walk_in        the walk of an accepted sheet is such
use mathlib.Core.Path.{◌≡◌, sym, ◌∙◌, ap}
use mathlib.Core.Logic.{⊎_elim}
use mathlib.Core.Bool.{Bool, true, false, cond, ◌&&◌, ◌||◌}
use mathlib.Core.List.{List, [], ◌∷◌, map, flat_map, zip, zip_with}
use mathlib.Core.Option.{Option, none, some, Option-elim}
use Prim.Native.Nat.{ℕ, zero, suc, ◌≤◌, ◌<◌}
use native.Mathlib.Omega.{arith}
use lib.Dec.{eqb}
use lib.ListN.{length, get_or, set, drop}
use lib.Seq.{drop-nil}
use borrow.Author.Tests.{ltb-true}
use Rattle.laws.specs.First.{first}
use Rattle.laws.specs.Fold.{run}
use Rattle.laws.specs.Lists.{all, keep, from, is_in}
use Rattle.laws.proofs.Cases.{by_bool, and_parts}
use Rattle.laws.proofs.Lists.{run_keeps}
use Rattle.entity.specs.Limits.{slot_limit}
use Rattle.entity.specs.declared.forms.Place.{Place}
use Rattle.entity.specs.declared.forms.Place.TheVariants.{Reg, Slot}
use Rattle.entity.specs.declared.forms.Edit.{Edit}
use Rattle.entity.specs.declared.forms.Edit.TheVariants.{Move, Remat, Espill, Ereload, Misplaced, Nothing}
use Rattle.entity.specs.declared.forms.Level.{Level}
use Rattle.entity.specs.declared.forms.Level.TheVariants.{Off, Local, Forward, Global}
use Rattle.rules.specs.Sheet.{Sheet, OpRow, EditRow, block_count, insts_of, succs_of, is_use}
use Rattle.rules.specs.Accept.{within_limits, inst_exists, reg_exists, value_exists, slot_exists, place_exists, subject_exists, constraint_exists, edit_names, names_hold}
use Rattle.rules.specs.Record.{Known, nothing, effect}
use Rattle.rules.specs.Forward.{Walk, Handed, with_rec, count, stack_use, reload_to_move, indexed, fold_to, fold, optimise_inst, already, spilled_above, note_spill, removal, new_source, becomes, optimise_move, optimise_edit, edits_at, optimise_block, begun, blocks, forward_start, forward_block, global_start, visit, visits, most_visits, optimise_all, global_walk, optimise, start}
use Rattle.rules.specs.Function.{Op, edit, slot_of, Item, row, ins, items, inst_of, look, func_of, In, reads}
use Rattle.rules.proofs.Refusals.{in_limits, all_named_lem, each_named}
use Rattle.run.specs.Swept.{ReadsWithin, optimised}
use Rattle.run.specs.Theorem.{AcceptedWithin}
use Rattle.run.proofs.Rows.{ops_look}
use Rattle.run.proofs.Lists.{either}

abbrev pub PlaceIn : Place → Type 0
PlaceIn p = (s : ℕ) → In s (slot_of p) → s < slot_limit

abbrev pub EditIn : Edit → Type 0
EditIn e = (s : ℕ) → In s (reads (edit e)) → s < slot_limit

abbrev pub WalkIn : Walk → Type 0
WalkIn w = ((k : ℕ) (p : Place) → PlaceIn p → PlaceIn (get_or w.places k p)) × ((j : ℕ) → EditIn (get_or w.edits j Nothing))

-- ---- what is kept by a store, by a loop, by a choice

set_keeps : {A : Type 0} (Q : A → Type 0) (l : List A) (k j : ℕ) (v d : A) → Q v → Q (get_or l j d) → Q (get_or (set l k v) j d)
set_keeps Q [] k j v d x y = y
set_keeps Q (a ∷ l) zero zero v d x y = x
set_keeps Q (a ∷ l) zero (suc j) v d x y = y
set_keeps Q (a ∷ l) (suc k) zero v d x y = y
set_keeps Q (a ∷ l) (suc k) (suc j) v d x y = set_keeps Q l k j v d x y

option_keeps : {S A : Type 0} (P : S → Type 0) (o : Option A) (a : S) (g : A → S) → P a → ((r : A) → P (g r)) → P (Option-elim o a g)
unfolding Option-elim
option_keeps P none a g p q = p
option_keeps P (some r) a g p q = q r

-- ---- the forward rules

module _ (sh : Sheet) where
  fold_in : (w : Walk) (x : ℕ × ℕ × OpRow) → WalkIn w → WalkIn (fold sh w x)
  unfolding fold slot_of
  fold_in w x v =
      option_keeps WalkIn (fold_to sh x.2 x.0 w.rec) w
      (λ r. record { rec = w.rec; edits = w.edits; places = set w.places x.1 (Reg (record { 0 = r })); counts = count stack_use w.counts })
      v (λ r. (λ k p h. set_keeps PlaceIn w.places x.1 k (Reg (record { 0 = r })) p (λ s y. absurd y) (v.0 k p h), v.1))

  inst_in : (b : ℕ) (w : Walk) (i : ℕ) → WalkIn w → WalkIn (optimise_inst sh b w i)
  unfolding optimise_inst
  inst_in b w i v = run_keeps WalkIn (fold sh) fold_in (indexed sh i) _ v

  become_in : (j : ℕ) (e : Edit) (w : Walk) → EditIn e → WalkIn w → (k : ℕ) → EditIn (get_or (set w.edits j e) k Nothing)
  become_in j e w x v k = set_keeps EditIn w.edits j k e Nothing x (v.1 k)

  move_in : (b j : ℕ) (to : Place) (p : Option Place) (v : ℕ) (e : Edit) (w : Walk) → EditIn e → WalkIn w → WalkIn (optimise_move sh b j to p v e w)
  unfolding optimise_move slot_of
  move_in b j to p v e w x y =
      go (already sh to v w.rec || spilled_above sh b to v w.rec) (Option-elim p none (λ q. new_source sh q v (note_spill sh b to v w.rec)))
    where
      go : (c : Bool) (o : Option ℕ) → WalkIn (elim c [
        | true ↦ becomes sh j Nothing (count (removal sh to p) w.counts) w.rec w
        | false ↦
            let s = note_spill sh b to v w.rec in
            Option-elim o (becomes sh j e w.counts s w) (λ r.
            becomes sh j (Move to (Reg (record { 0 = r })) (record { 0 = v })) (count reload_to_move w.counts) s w)
      ])
      go true o = (y.0, become_in j Nothing w (λ s z. absurd z) y)
      go false o =
          option_keeps WalkIn o (becomes sh j e w.counts (note_spill sh b to v w.rec) w)
          (λ r. becomes sh j (Move to (Reg (record { 0 = r })) (record { 0 = v })) (count reload_to_move w.counts) (note_spill sh b to v w.rec) w)
          (y.0, become_in j e w x y)
          (λ r. (y.0, become_in j (Move to (Reg (record { 0 = r })) (record { 0 = v })) w (λ s z. absurd z) y))

  edit_in_lem : (b : ℕ) (w : Walk) (j : ℕ) → WalkIn w → WalkIn (optimise_edit sh b w j)
  unfolding optimise_edit
  edit_in_lem b w j v = go (get_or w.edits j Nothing) (v.1 j)
    where
      go : (e : Edit) → EditIn e → WalkIn (elim e [
        | Move to p v ↦ optimise_move sh b j to (some p) v.0 (Move to p v) w
        | Remat to v ↦ optimise_move sh b j to none v.0 (Remat to v) w
        | Espill t r ↦ with_rec (effect sh (Espill t r)) w
        | Ereload r t ↦ with_rec (effect sh (Ereload r t)) w
        | Misplaced to p ↦ w
        | Nothing ↦ w
      ])
      go (Move to p u) x = move_in b j to (some p) u.0 (Move to p u) w x v
      go (Remat to u) x = move_in b j to none u.0 (Remat to u) w x v
      go (Espill t r) x = v
      go (Ereload r t) x = v
      go (Misplaced to p) x = v
      go Nothing x = v

  block_in : (b : ℕ) (k : Known) (w : Walk) → WalkIn w → WalkIn (optimise_block sh b k w)
  unfolding optimise_block
  block_in b k w v =
      run_keeps WalkIn (λ x i. optimise_inst sh b (run (optimise_edit sh b) x (edits_at sh i)) i)
      (λ x i y. inst_in b (run (optimise_edit sh b) x (edits_at sh i)) i (run_keeps WalkIn (optimise_edit sh b) (edit_in_lem b) (edits_at sh i) x y))
      (insts_of sh b) _ v

  all_in : (k : ℕ → Known) (w : Walk) → WalkIn w → WalkIn (optimise_all sh k w)
  unfolding optimise_all
  all_in k w v = run_keeps WalkIn (λ x b. optimise_block sh b (k b) x) (λ x b. block_in b (k b) x) (blocks sh) w v

  -- of a walk and what is handed on
  abbrev PairIn : Walk × Handed → Type 0
  PairIn wh = WalkIn wh.0

  forward_in : (wh : Walk × Handed) (b : ℕ) → PairIn wh → PairIn (forward_block sh wh b)
  unfolding forward_block
  forward_in wh b v = block_in b (begun sh wh.1 b) wh.0 v

  visit_in : (wh : Walk × Handed) (b : ℕ) → PairIn wh → PairIn (visit sh wh b)
  unfolding visit
  visit_in wh b v = by_bool (eqb (length (succs_of sh b)) 0) (λ e. rw (e, visit) v) (λ e. rw (e, visit) v)

  visits_in : (n : ℕ) (wh : Walk × Handed) → PairIn wh → PairIn (visits sh n wh)
  unfolding visits
  visits_in zero wh v = v
  visits_in (suc n) wh v =
      let ih = visits_in n in
      option_keeps PairIn (first some none (λ b. is_in b wh.1.waiting) 0 (block_count sh)) wh (λ b. visits sh n (visit sh wh b)) v
      (λ b. ih (visit sh wh b) (visit_in wh b v))

  optimise_in : (level : Level) (w : Walk) → WalkIn w → WalkIn (optimise sh level w)
  unfolding optimise global_walk
  optimise_in Off w v = v
  optimise_in Local w v = all_in (λ b. nothing) w v
  optimise_in Forward w v = run_keeps PairIn (forward_block sh) forward_in (blocks sh) (w, forward_start sh) v
  optimise_in Global w v =
      let wh = visits sh (most_visits sh) (w, global_start sh) in
      all_in (begun sh wh.1) wh.0 (visits_in (most_visits sh) (w, global_start sh) v)

-- ---- an accepted sheet

-- Q of each
abbrev Each : {A : Type 0} → (A → Type 0) → List A → Type 0
Each Q [] = Unit {0}
Each Q (x ∷ l) = Q x × Each Q l

module _ (sh : Sheet) (few : sh.slots ≤ slot_limit) where
  place_in : (p : Place) → place_exists sh p ≡ true → PlaceIn p
  unfolding place_exists slot_of
  place_in (Reg r) e s h = absurd h
  place_in (Slot q) e s h = ⊎_elim (λ y. omega (arith, ltb-true q.0 sh.slots e)) (λ y. absurd y) h

  names_in : (e : Edit) → edit_names sh e ≡ true → EditIn e
  unfolding edit_names place_exists slot_of
  names_in (Move to p v) e s h = place_in p (and_parts (place_exists sh to) (place_exists sh p) (and_parts (place_exists sh to && place_exists sh p) (value_exists sh v.0) e).0).1 s h
  names_in (Remat to v) e s h = absurd h
  names_in (Espill d r) e s h = absurd h
  names_in (Ereload r q) e s h = place_in (Slot q) (and_parts (reg_exists sh r.0) (slot_exists sh q.0) e).1 s h
  names_in (Misplaced to p) e s h = absurd h
  names_in Nothing e s h = absurd h

  edits_in_lem : (l : List EditRow) → all (λ e. inst_exists sh e.at && edit_names sh e.edit) l ≡ true → (j : ℕ) → EditIn (get_or (map (λ e. e.edit) l) j Nothing)
  edits_in_lem [] e j = λ s h. absurd h
  edits_in_lem (x ∷ l) e zero = names_in x.edit (and_parts (inst_exists sh x.at) (edit_names sh x.edit) (and_parts _ _ e).0).1
  edits_in_lem (x ∷ l) e (suc j) = edits_in_lem l (and_parts (inst_exists sh x.at && edit_names sh x.edit) _ e).1 j

  -- ---- its operands

  abbrev OpIn : OpRow → Type 0
  OpIn o = PlaceIn o.place

  rows_in : (l : List OpRow) → all (λ o. inst_exists sh o.at && subject_exists sh o.kind && constraint_exists sh o.constraint && place_exists sh o.place) l ≡ true → Each OpIn l
  rows_in [] e = tt
  rows_in (o ∷ l) e =
      let test = inst_exists sh o.at && subject_exists sh o.kind && constraint_exists sh o.constraint in
      let w = and_parts (test && place_exists sh o.place) _ e in
      (place_in o.place (and_parts test (place_exists sh o.place) w.0).1, rows_in l w.1)

  places_in_lem : (l : List OpRow) → Each OpIn l → (k : ℕ) (p : Place) → PlaceIn p → PlaceIn (get_or (map (λ o. o.place) l) k p)
  places_in_lem [] h k p x = x
  places_in_lem (o ∷ l) h zero p x = h.0
  places_in_lem (o ∷ l) h (suc k) p x = places_in_lem l h.1 k p x

  zip_in : (l : List OpRow) (ks : List ℕ) → Each OpIn l → Each (λ (jo : ℕ × OpRow). OpIn jo.1) (zip ks l)
  unfolding zip zip_with
  zip_in l [] h = tt
  zip_in [] (k ∷ ks) h = tt
  zip_in (o ∷ l) (k ∷ ks) h = (h.0, zip_in l ks h.1)

  keep_in : (f : ℕ × OpRow → Bool) (l : List (ℕ × OpRow)) → Each (λ (jo : ℕ × OpRow). OpIn jo.1) l → Each (λ (jo : ℕ × OpRow). OpIn jo.1) (keep f l)
  unfolding keep
  keep_in f [] h = tt
  keep_in f (x ∷ l) h = go (f x) (keep_in f l h.1)
    where
      go : (c : Bool) → Each (λ (jo : ℕ × OpRow). OpIn jo.1) (keep f l) → Each (λ (jo : ℕ × OpRow). OpIn jo.1) (cond c (x ∷ keep f l) (keep f l))
      go true y = (h.0, y)
      go false y = y

  number_in : (l : List (ℕ × OpRow)) (ks : List ℕ) → Each (λ (jo : ℕ × OpRow). OpIn jo.1) l → Each (λ (x : ℕ × ℕ × OpRow). OpIn x.2) (zip_with (λ k (jo : ℕ × OpRow). (k, jo.0, jo.1)) ks l)
  unfolding zip_with
  number_in l [] h = tt
  number_in [] (k ∷ ks) h = tt
  number_in (o ∷ l) (k ∷ ks) h = (h.0, number_in l ks h.1)

  indexed_in : Each OpIn sh.ops → (i : ℕ) → Each (λ (x : ℕ × ℕ × OpRow). OpIn x.2) (indexed sh i)
  unfolding indexed
  indexed_in h i = number_in _ _ (keep_in (λ (jo : ℕ × OpRow). eqb jo.1.at i) (zip (from 0 (length sh.ops)) sh.ops) (zip_in sh.ops (from 0 (length sh.ops)) h))

  -- ---- its function

  module _ (rows : Each OpIn sh.ops) (places : List Place) (es : List Edit) (places_are : (k : ℕ) (p : Place) → PlaceIn p → PlaceIn (get_or places k p)) (edits_are : (j : ℕ) → EditIn (get_or es j Nothing)) where
    uses_in : (l : List (ℕ × ℕ × OpRow)) → Each (λ (x : ℕ × ℕ × OpRow). OpIn x.2) l → (s : ℕ) → In s (flat_map (λ (x : ℕ × ℕ × OpRow). cond (is_use x.2.kind) (slot_of (get_or places x.1 x.2.place)) []) l) → s < slot_limit
    unfolding flat_map
    uses_in [] h s y = absurd y
    uses_in (x ∷ l) h s y =
        ⊎_elim (go (is_use x.2.kind)) (uses_in l h.1 s)
        (either s (cond (is_use x.2.kind) (slot_of (get_or places x.1 x.2.place)) []) _ y)
      where
        go : (c : Bool) → In s (cond c (slot_of (get_or places x.1 x.2.place)) []) → s < slot_limit
        go true y = places_are x.1 x.2.place h.0 s y
        go false y = absurd y

    item_in : (x : Item) (s : ℕ) → In s (reads (look sh places es x)) → s < slot_limit
    unfolding look inst_of
    item_in (row j) s h = edits_are j s h
    item_in (ins i) s h = uses_in (indexed sh i) (indexed_in rows i) s h

    left_in : (l : List Item) (i : ℕ) (o : Op) (os : List Op) → drop i (map (look sh places es) l) ≡ o ∷ os → (s : ℕ) → In s (reads o) → s < slot_limit
    left_in [] i o os q s h = let z : ◌≡◌ {A = ℕ} 0 1 = cc (drop-nil {A = Op} i) in absurd (omega arith)
    left_in (x ∷ l) zero o os q s h = let e : o ≡ look sh places es x = cc in item_in x s (rw e at h)
    left_in (x ∷ l) (suc i) o os q s h = left_in l i o os q s h

    reads_within : ReadsWithin (func_of sh places es)
    reads_within b i s o os l h = left_in (items sh b) i o os (ap (drop i) (sym (ops_look sh places es b)) ∙ l) s h

-- the operands of an accepted sheet, and its walk after the forward rules
both_in : (sh : Sheet) (level : Level) → within_limits sh ≡ true → names_hold sh ≡ true
    → (few : sh.slots ≤ slot_limit) × Each (OpIn sh few) sh.ops × WalkIn (optimised sh level)
unfolding start
both_in sh level limits names =
    let few = (in_limits sh limits).few_slots in
    let w = each_named sh (all_named_lem sh names) in
    let edits = edits_in_lem sh few sh.edits w.edits in
    let rows = rows_in sh few sh.ops w.ops in
    (few, rows, optimise_in sh level (start sh) (places_in_lem sh few sh.ops rows, edits))

pub walk_in : (sh : Sheet) (level : Level) → within_limits sh ≡ true → names_hold sh ≡ true → WalkIn (optimised sh level)
walk_in sh level limits names = (both_in sh level limits names).2

pub accepted_within : AcceptedWithin
accepted_within sh level limits names =
    let w = both_in sh level limits names in
    reads_within sh w.0 w.1 (optimised sh level).places (optimised sh level).edits w.2.0 w.2.1
