-- For `load_edits` and `load_places` of src/lib.rt, the sheet's edits and places in cells: the loops that load them, and the walk that then stands there. Assumes nothing.
--     edits_next                   one turn of the loop over edit rows
--     places_next                  of that over operand rows
--     storable                     an accepted sheet's edits can be loaded
--     started                      and the walk before the first block stands in the cells
use mathlib.Core.Path.{◌≡◌, refl, sym, ◌∙◌, ap}
use mathlib.Core.Bool.{true, ◌&&◌}
use mathlib.Core.List.{List, map}
use Prim.Native.Nat.{ℕ, ◌+◌, ◌*◌, ◌≤◌, ◌<◌}
use native.Mathlib.Omega.{arith}
use lib.ListN.{length, get_or, set, replicate, length-map, get_or-map}
use lib.Seq.{ext_get_or, get_or-set_same, get_or-set_other}
use borrow.Author.Tests.{ltb-true}
use Rattle.laws.proofs.Cases.{by_eq}
use Rattle.laws.proofs.Lists.{zeros}
use Rattle.entity.specs.Limits.{edit_limit, operand_limit}
use Rattle.entity.specs.declared.forms.Place.{Place}
use Rattle.entity.specs.declared.forms.Place.TheVariants.{Reg, Slot}
use Rattle.entity.specs.declared.forms.Constraint.TheVariants.{Class}
use Rattle.entity.specs.declared.forms.OperandKind.TheVariants.{NonAllocatable}
use Rattle.entity.specs.declared.forms.Edit.{Edit}
use Rattle.entity.specs.declared.forms.Edit.TheVariants.{Move, Remat, Espill, Ereload, Misplaced, Nothing}
use Rattle.rules.specs.Cells.{number_limit}
use Rattle.rules.specs.Sheet.{Sheet, EditRow, OpRow, field, place_of}
use Rattle.rules.specs.Accept.{reg_exists, slot_exists, value_exists, place_exists, inst_exists, edit_names, placed}
use Rattle.rules.specs.Forward.{start}
use Rattle.rules.proofs.Refusals.{all_named_lem, each_named}
use Rattle.table.specs.Layout.{edit_width}
use Rattle.table.specs.Rows.{count_in, kind_row}
use Rattle.table.specs.Sheet.{sheet_in}
use Rattle.table.specs.Index.{Ready}
use Rattle.table.specs.View.{edit_row}
use Rattle.table.specs.Edits.{edit_in, edits_in, with_edit, place_in, places_in, edit_at_row, SmallPlace, SmallEdit}
use Rattle.table.specs.Written.{SmallValue, EditCells}
use Rattle.table.proofs.Loops.{and_left, and_right, all_at}
use Rattle.table.proofs.Sheets.{edits_are, ops_are, long_of, part_of}
use Rattle.table.proofs.Stored.{edits_length, edits_at_lem, places_length, places_at, with_same, with_other, read_back, cells_same, cells_other, sheet_edit_is}
use Rattle.accepted.specs.Accepted.{Accepted}
use Rattle.answer.proofs.Ops.{op_place}
use Rattle.moves.specs.Walks.{Written}
use Rattle.drifthurdle.specs.Loading.{Storable, EditsLoaded, PlacesLoaded}

-- ---- the loops

module _ (cells : List ℕ) (n : ℕ) {e : Edit} (s : Storable e) (room : n * edit_width + 3 < length cells) where
  stored_exact : (j : ℕ) → j < n + 1 → ((j : ℕ) → j < n → EditCells cells j) → EditCells (with_edit cells n e) j
  stored_exact j h x = by_eq j n (λ q. rw q (cells_same cells n e room s.is_placed s.small s.value)) (λ q. cells_other cells n e j q (x j (omega arith)))

  stored_is : (t : List ℕ) → e ≡ edit_at_row t n → (j : ℕ) → j < n + 1 → ((j : ℕ) → j < n → edit_in cells j ≡ edit_at_row t j) → edit_in (with_edit cells n e) j ≡ edit_at_row t j
  stored_is t q j h x =
      by_eq j n
      (λ p. rw p (with_same cells n e room (read_back e s.is_placed s.small) ∙ q))
      (λ p. with_other cells n e j p ∙ x j (omega arith))

pub edits_next : {t cells cells' : List ℕ} {e : Edit} {n : ℕ} → n * edit_width + 3 < length cells → Storable (edit_at_row t n) → e ≡ edit_at_row t n
    → (SmallEdit e → cells' ≡ with_edit cells n e) → EditsLoaded t cells n → EditsLoaded t cells' (n + 1)
edits_next {t} {cells} {e = e} {n = n} room s q w x =
    let y : Storable e = rw q s in
    rw (w y.small)
    (record { exact = λ j k. stored_exact cells n y room j k x.exact; are = λ j k. stored_is cells n y room t q j k x.are })

pub places_next : (t cells : List ℕ) {cells' row : List ℕ} {v n : ℕ} → n < length cells → row ≡ kind_row t 10 n → v ≡ field 5 row → cells' ≡ set cells n v → PlacesLoaded t cells n → PlacesLoaded t cells' (n + 1)
places_next t cells {v = v} {n = n} h p q w x j k =
    rw w
    (by_eq j n
    (λ e. rw e (get_or-set_same cells n v 0 h ∙ q ∙ ap (field 5) p))
    (λ e. get_or-set_other cells n j v 0 e ∙ x j (omega arith)))

-- ---- an accepted sheet's edits

-- past the last operand
abbrev no_op : OpRow
no_op = record { at = 0; kind = NonAllocatable; constraint = Class (record { 0 = 0 }); place = Reg (record { 0 = 0 }) }

module _ (sh : Sheet) (a : Accepted sh) where
  place_small : (p : Place) → place_exists sh p ≡ true → SmallPlace p
  unfolding place_exists
  place_small (Reg r) e = omega (arith, ltb-true r.0 _ e, a.few_regs)
  place_small (Slot s) e = omega (arith, ltb-true s.0 _ e, a.few_slots)

  value_small : (v : ℕ) → value_exists sh v ≡ true → v < number_limit
  value_small v e = omega (arith, ltb-true v _ e, a.few_values)

  names_small : (e : Edit) → edit_names sh e ≡ true → SmallEdit e × SmallValue e
  unfolding edit_names place_exists
  names_small (Move to p v) e =
      let two = place_exists sh to && place_exists sh p in
      let w = and_left two (value_exists sh v.0) e in
      ((place_small to (and_left (place_exists sh to) (place_exists sh p) w), place_small p (and_right (place_exists sh to) (place_exists sh p) w)), value_small v.0 (and_right two (value_exists sh v.0) e))
  names_small (Remat to v) e = (place_small to (and_left (place_exists sh to) (value_exists sh v.0) e), value_small v.0 (and_right (place_exists sh to) (value_exists sh v.0) e))
  names_small (Espill s r) e =
      ((place_small (Slot s) (and_left (slot_exists sh s.0) (reg_exists sh r.0) e), place_small (Reg r) (and_right (slot_exists sh s.0) (reg_exists sh r.0) e)), tt)
  names_small (Ereload r s) e =
      ((place_small (Reg r) (and_left (reg_exists sh r.0) (slot_exists sh s.0) e), place_small (Slot s) (and_right (reg_exists sh r.0) (slot_exists sh s.0) e)), tt)
  names_small (Misplaced to p) e = (tt, tt)
  names_small Nothing e = (tt, tt)

module _ {t : List ℕ} (g : Ready t) (a : Accepted (sheet_in t)) where
  abbrev sh : Sheet
  sh = sheet_in t

  edit_is : (j : ℕ) → (edit_row sh j).edit ≡ edit_at_row t j
  edit_is j = sheet_edit_is t j (record { at = 0; edit = Nothing }) refl

  many_edits : length sh.edits ≡ count_in t 12
  many_edits = long_of (edits_are t)

  many_ops : length sh.ops ≡ count_in t 10
  many_ops = long_of (ops_are t)

  pub storable : (j : ℕ) → j < count_in t 12 → Storable (edit_at_row t j)
  storable j h =
      let l : j < length sh.edits = rw many_edits h in
      let d : EditRow = record { at = 0; edit = Nothing } in
      let n = and_right (inst_exists sh (edit_row sh j).at) (edit_names sh (edit_row sh j).edit) (all_at (λ e. inst_exists sh e.at && edit_names sh e.edit) d sh.edits (each_named sh (all_named_lem sh g.names)).edits j l) in
      let s = names_small sh a (edit_row sh j).edit n in
      let x : Storable (edit_row sh j).edit = record { is_placed = all_at (λ e. placed e.edit) d sh.edits a.all_placed j l; small = s.0; value = s.1 } in
      rw (edit_is j) at x

  pub edits_fit : count_in t 12 * edit_width ≤ edit_limit * edit_width
  edits_fit = omega (arith, many_edits, a.few_edits)

  pub places_fit : count_in t 10 ≤ operand_limit
  places_fit = omega (arith, many_ops, a.few_ops)

  module _ (edits places : List ℕ) (E : EditsLoaded t edits (count_in t 12)) (P : PlacesLoaded t places (count_in t 10)) where
    started_edits : map (λ (e : EditRow). e.edit) sh.edits ≡ edits_in edits (length sh.edits)
    started_edits =
        let N : ℕ = length sh.edits in
        let d : EditRow = record { at = 0; edit = Nothing } in
        ext_get_or Nothing (map (λ (e : EditRow). e.edit) sh.edits) (edits_in edits N) (length-map sh.edits (λ (e : EditRow). e.edit) ∙ sym (edits_length edits N))
        (λ j h.
        let l : j < N = rw (length-map sh.edits (λ (e : EditRow). e.edit)) at h in
        let k : j < count_in t 12 = rw many_edits at l in
        get_or-map (λ (e : EditRow). e.edit) sh.edits j d ∙ edit_is j ∙ sym (E.are j k) ∙ sym (edits_at_lem edits N j Nothing l))

    place_is : (j : ℕ) → j < count_in t 10 → (get_or sh.ops j no_op).place ≡ place_in places j
    unfolding place_in place_of
    place_is j h = part_of (ops_are t) (λ (o : OpRow). o.place) j no_op refl ∙ ap place_of (sym (P j h))

    started_places : map (λ (o : OpRow). o.place) sh.ops ≡ places_in places (length sh.ops)
    started_places =
        let N : ℕ = length sh.ops in
        ext_get_or no_op.place (map (λ (o : OpRow). o.place) sh.ops) (places_in places N) (length-map sh.ops (λ (o : OpRow). o.place) ∙ sym (places_length places N))
        (λ j h.
        let l : j < N = rw (length-map sh.ops (λ (o : OpRow). o.place)) at h in
        let k : j < count_in t 10 = rw many_ops at l in
        get_or-map (λ (o : OpRow). o.place) sh.ops j no_op ∙ place_is j k ∙ sym (places_at places N j no_op.place l))

    pub started : count_in t 12 * edit_width ≤ length edits → count_in t 10 ≤ length places → Written t edits places (replicate 9 0) 4200000000 (start sh)
    unfolding start
    started x y =
        record {
          edit_room = omega (arith, many_edits);
          place_room = omega (arith, many_ops);
          in_cells = record {
            cells_of_edits = λ j h. E.exact j (rw many_edits at h);
            is_edits = started_edits;
            place_cells = λ j h. let k : j < count_in t 10 = rw many_ops at h in rw (P j k) (op_place g j k);
            is_places = started_places;
          };
          few = λ k. omega (arith, zeros 9 k);
          is_counts = refl;
        }
