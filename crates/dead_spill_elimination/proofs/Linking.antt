-- For `Linked` of specs/Strikes.antt: what the code looks up is what the sheet says: the rows at an instruction, its operands, and what is wanted before it. Assumes nothing.
use mathlib.Core.Path.{◌≡◌, refl, sym, ◌∙◌, ap}
use mathlib.Core.Logic.{⊎_elim}
use mathlib.Core.Bool.{Bool, true, false, cond, not, ◌&&◌, ◌||◌}
use mathlib.Core.List.{List, [], ◌∷◌, ◌++◌, flat_map, zip_with, append_assoc}
use Prim.Native.Nat.{ℕ, suc, ◌+◌, ◌*◌, ◌≤◌, ◌<◌}
use native.Mathlib.Omega.{arith}
use lib.Dec.{eqb}
use lib.ListN.{length, get_or, replicate, get_or-eq_default}
use borrow.Author.Tests.{ltb-true}
use Rattle.laws.specs.Digits.{bit}
use Rattle.laws.specs.Lists.{is_in, from}
use Rattle.laws.proofs.Cases.{by_bool, by_lt}
use Rattle.laws.proofs.Lists.{get_d_any, flat_map_lem, is_append}
use Rattle.entity.specs.Limits.{slot_limit, inst_limit}
use Rattle.entity.specs.declared.forms.Place.{Place}
use Rattle.entity.specs.declared.forms.Place.TheVariants.{Reg, Slot}
use Rattle.entity.specs.declared.forms.Edit.{Edit}
use Rattle.entity.specs.declared.forms.Edit.TheVariants.{Nothing}
use Rattle.entity.specs.declared.forms.OperandKind.TheVariants.{NonAllocatable}
use Rattle.rules.specs.Sheet.{Sheet, OpRow, is_use, inst_count}
use Rattle.rules.specs.Words.{def_word, early_word}
use Rattle.rules.specs.Accept.{operands_at, inst_exists, subject_exists, constraint_exists, place_exists}
use Rattle.rules.specs.Forward.{indexed, all_defs, edits_at}
use Rattle.rules.specs.Function.{edit, inst, inst_of, slot_of, slots_of}
use Rattle.rules.specs.Sweep.{without_all, wanted_by, wanted_before}
use Rattle.rules.proofs.Refusals.{in_limits, all_named_lem, each_named}
use Rattle.run.proofs.Sets.{is_in_lem}
use Rattle.run.proofs.Lists.{either}
use Rattle.table.specs.Layout.{edit_index}
use Rattle.table.specs.Rows.{count_in, kind_row}
use Rattle.table.specs.Sheet.{sheet_in}
use Rattle.table.specs.View.{op_row}
use Rattle.table.specs.Edits.{place_in}
use Rattle.table.specs.Index.{range_in}
use Rattle.table.proofs.Loops.{all_at, and_left, and_right}
use Rattle.table.proofs.Sheets.{edit_row_of, edits_are, ops_are, long_of}
use Rattle.table.proofs.Lookups.{edits_below, edits_fall_in, insts_are}
use Rattle.table.proofs.Stored.{edits_length, edits_at_lem, places_at}
use Rattle.dead_spill_elimination.specs.Slots.{Low, LowReads, numbers, defs_at, uses_at, list_of, inst_back}
use Rattle.dead_spill_elimination.specs.Touched.{touched_to}
use Rattle.dead_spill_elimination.specs.Worklist.{Word}
use Rattle.dead_spill_elimination.specs.Strikes.{Linked}
use Rattle.dead_spill_elimination.specs.Held.{the_edits, the_places, Held}
use Rattle.dead_spill_elimination.proofs.Members.{is_with_all, is_without_all, at_is, place_is, defs_is}
use Rattle.dead_spill_elimination.proofs.Tell.{listed_word}
use Rattle.dead_spill_elimination.proofs.Touching.{Fine, defs_told, uses_told}
use Rattle.dead_spill_elimination.proofs.Numbers.{those, numbers_of, at_numbers, flat_pairs, flat_rows, any_rows}

-- ---- lists of slots below the limit

pub low_flat : (G : ℕ → List ℕ) → ((n : ℕ) → Low (G n)) → (ns : List ℕ) → Low (flat_map G ns)
unfolding flat_map
low_flat G l [] s y = absurd y
low_flat G l (n ∷ ns) s y = ⊎_elim (l n s) (low_flat G l ns s) (either s (G n) (flat_map G ns) y)

low_none : (L : List ℕ) → Low L → (k : ℕ) → slot_limit ≤ k → is_in k L ≡ false
low_none L l k h = by_bool (is_in k L) (λ e. absurd (omega (arith, l k ((is_in_lem k L).0 e)))) (λ e. e)

-- ---- an instruction's operands

flat_index : {A B : Type 0} (g : ℕ × ℕ × A → List B) (g' : ℕ × A → List B) → ((k : ℕ) (x : ℕ × A) → g (k, x.0, x.1) ≡ g' x) → (s : ℕ) (rows : List (ℕ × A))
    → flat_map g (zip_with (λ k (x : ℕ × A). (k, x.0, x.1)) (from s (length rows)) rows) ≡ flat_map g' rows
unfolding flat_map zip_with from
flat_index g g' h s [] = refl
flat_index g g' h s (x ∷ rows) = rw (h s x, flat_index g g' h (suc s) rows)

flat_flat : {A B C : Type 0} (f : B → List C) (g : A → List B) (l : List A) → flat_map f (flat_map g l) ≡ flat_map (λ x. flat_map f (g x)) l
unfolding flat_map
flat_flat f g [] = refl
flat_flat f g (x ∷ l) = apart f (g x) (flat_map g l) ∙ ap (λ (y : List _). flat_map f (g x) ++ y) (flat_flat f g l)
  where
    apart : {B C : Type 0} (f : B → List C) (a b : List B) → flat_map f (a ++ b) ≡ flat_map f a ++ flat_map f b
    apart f [] b = refl
    apart f (y ∷ a) b = ap (λ (z : List _). f y ++ z) (apart f a b) ∙ sym (append_assoc (f y) (flat_map f a) (flat_map f b))

module _ {t edits places counts : List ℕ} (h : Held t edits places counts) where
  abbrev sh : Sheet
  sh = sheet_in t

  abbrev ps : List Place
  ps = the_places t places

  abbrev es : List Edit
  es = the_edits t edits

  pub rows_are : (i : ℕ) → numbers (range_in t edit_index inst_limit i) ≡ edits_at sh i
  unfolding edits_at
  rows_are i =
      at_numbers edit_row_of (λ e. e.at) (λ r. refl) i t edit_index 12 inst_limit h.ready.built.edits (edits_below h.ready) (edits_fall_in h.ready h.order) sh.edits (edits_are t).is

  abbrev js : ℕ → List ℕ
  js i = numbers_of (λ (o : OpRow). eqb o.at i) 0 sh.ops

  uses_are : (i : ℕ) → (inst_of sh ps es i).uses ≡ flat_map (uses_at t places) (js i)
  unfolding inst_of indexed uses_at
  uses_are i =
      flat_index (λ (x : ℕ × ℕ × OpRow). cond (is_use x.2.kind) (slot_of (get_or ps x.1 x.2.place)) []) (λ (x : ℕ × OpRow). cond (is_use x.1.kind) (slot_of (get_or ps x.0 x.1.place)) [])
      (λ k x. refl) 0 (those (λ (o : OpRow). eqb o.at i) 0 sh.ops)
      ∙ flat_pairs (λ (o : OpRow). eqb o.at i) (uses_at t places) (op_row sh (length sh.ops))
      (λ (x : ℕ × OpRow). cond (is_use x.1.kind) (slot_of (get_or ps x.0 x.1.place)) []) sh.ops 0
      (λ m u.
      let z : 0 + m ≡ m = omega arith in
      rw (z, places_at places (length sh.ops) m (get_or sh.ops m (op_row sh (length sh.ops))).place u)
      (ap (λ (o : OpRow). cond (is_use o.kind) (slot_of (place_in places m)) []) (get_d_any sh.ops m _ _ u)))

  defs_are : (i : ℕ) → slots_of (inst_of sh ps es i).defs ≡ flat_map (defs_at t) (js i)
  unfolding inst_of operands_at defs_at
  defs_are i =
      flat_map_lem slot_of (λ (d : ℕ × Place). d.1) (flat_map (all_defs sh) (operands_at sh i)) ∙ flat_flat (λ (d : ℕ × Place). slot_of d.1) (all_defs sh) (operands_at sh i)
      ∙ flat_rows (λ (o : OpRow). eqb o.at i) (defs_at t) (op_row sh (length sh.ops)) (λ o. flat_map (λ (d : ℕ × Place). slot_of d.1) (all_defs sh o)) sh.ops 0
      (λ m u.
      let z : 0 + m ≡ m = omega arith in
      rw z (ap (λ (o : OpRow). flat_map (λ (d : ℕ × Place). slot_of d.1) (all_defs sh o)) (get_d_any sh.ops m _ _ u)))

  low_use : (n : ℕ) → Low (uses_at t places n)
  unfolding uses_at is_use
  low_use n =
      by_lt n (length sh.ops)
      (λ l. go (is_use (op_row sh n).kind) (h.low_places n l))
      (λ l. rw (get_or-eq_default sh.ops (record { at = 0; kind = NonAllocatable; constraint = _; place = Reg (record { 0 = 0 }) }) {n = n} l) (λ s m. absurd m))
    where
      go : (c : Bool) → Low (slot_of (place_in places n)) → Low (cond c (slot_of (place_in places n)) [])
      go true x = x
      go false x = λ s m. absurd m

  pub low_inst : (i : ℕ) → LowReads (inst (inst_of sh ps es i))
  low_inst i s m = low_flat (uses_at t places) low_use (js i) s (rw (uses_are i) at m)

  named : (n : ℕ) → n < length sh.ops → ((op_row sh n).at < inst_count sh) × (place_exists sh (op_row sh n).place ≡ true)
  named n l =
      let o : OpRow = op_row sh n in
      let e = all_at (λ (o : OpRow). inst_exists sh o.at && subject_exists sh o.kind && constraint_exists sh o.constraint && place_exists sh o.place) _ sh.ops
      (each_named sh (all_named_lem sh h.ready.names)).ops n l in
      let a : Bool = inst_exists sh o.at && subject_exists sh o.kind && constraint_exists sh o.constraint in (
        ltb-true o.at (inst_count sh) (and_left _ (subject_exists sh o.kind) (and_left _ (constraint_exists sh o.constraint) (and_left _ (place_exists sh o.place) e))),
        and_right a _ e,
      )

  low_place : (p : Place) → place_exists sh p ≡ true → Low (slot_of p)
  unfolding slot_of place_exists
  low_place (Reg r) e s m = absurd m
  low_place (Slot d) e s m = ⊎_elim (λ q. omega (arith, q, ltb-true d.0 sh.slots e, (in_limits sh h.ready.limits).few_slots)) (λ z. absurd z) m

  low_past : (n : ℕ) → length sh.ops ≤ n → Low (defs_at t n)
  unfolding defs_at all_defs flat_map
  low_past n l = rw (get_or-eq_default sh.ops (record { at = 0; kind = NonAllocatable; constraint = _; place = Reg (record { 0 = 0 }) }) {n = n} l) (λ s m. absurd m)

  low_def : (n : ℕ) → Low (defs_at t n)
  low_def n =
      by_lt n (length sh.ops)
      (λ l. rw (defs_is t places n, ← place_is t places n) (go (slot_of (op_row sh n).place) (eqb (get_or (kind_row t 10 n) 2 0) def_word || eqb (get_or (kind_row t 10 n) 2 0) early_word) (low_place (op_row sh n).place (named n l).1)))
      (low_past n)
    where
      go : (L : List ℕ) (c : Bool) → Low L → Low (cond c L [])
      go L true x = x
      go L false x = λ s m. absurd m

  fine : (n : ℕ) → n < length sh.ops → Fine t places n
  fine n l = record { near = omega (arith, at_is t places n, (named n l).0, (in_limits sh h.ready.limits).few_insts); low_def = low_def n; low_use = low_use n }

  pub low_row : (j : ℕ) → LowReads (edit (get_or es j Nothing))
  low_row j =
      by_lt j (length sh.edits)
      (λ l. rw (edits_at_lem edits (length sh.edits) j Nothing l) (h.low_edits j l))
      (λ l. rw (get_or-eq_default es Nothing {n = j} (rw (edits_length edits (length sh.edits)) l)) (λ s m. absurd m))

  -- what is wanted before an instruction, by its two words
  module _ {touched : List ℕ} (told : touched ≡ touched_to t places (replicate 1024 0) (count_in t 10)) where
    told_are : touched ≡ touched_to t places (replicate 1024 0) (length sh.ops)
    told_are = told ∙ ap (touched_to t places (replicate 1024 0)) (sym (long_of (ops_are t)))

    at_row : (i m : ℕ) → m < length sh.ops → eqb (get_or (kind_row t 10 m) 1 0) i ≡ eqb (get_or sh.ops m (op_row sh (length sh.ops))).at i
    at_row i m u = ap (λ (x : ℕ). eqb x i) (sym (at_is t places m) ∙ ap (λ (o : OpRow). o.at) (get_d_any sh.ops m _ _ u))

    defs_word : (i : ℕ) → Word (get_or touched (i * 2) 0) (flat_map (defs_at t) (js i))
    defs_word i k =
        ap (λ (l : List ℕ). bit (get_or l (i * 2) 0) k) told_are ∙ defs_told t places i k (length sh.ops) fine
        ∙ any_rows (λ (o : OpRow). eqb o.at i) (defs_at t) (op_row sh (length sh.ops)) k _ sh.ops 0 (λ m u. let z : 0 + m ≡ m = omega arith in rw (z, at_row i m u))

    uses_word : (i : ℕ) → Word (get_or touched (i * 2 + 1) 0) (flat_map (uses_at t places) (js i))
    uses_word i k =
        ap (λ (l : List ℕ). bit (get_or l (i * 2 + 1) 0) k) told_are ∙ uses_told t places i k (length sh.ops) fine
        ∙ any_rows (λ (o : OpRow). eqb o.at i) (uses_at t places) (op_row sh (length sh.ops)) k _ sh.ops 0 (λ m u. let z : 0 + m ≡ m = omega arith in rw (z, at_row i m u))

    inst_is : (i : ℕ) (A : List ℕ) (k : ℕ) → is_in k (inst_back touched i A) ≡ is_in k (wanted_before (inst (inst_of sh ps es i)) A)
    unfolding inst_back wanted_before wanted_by
    inst_is i A k =
        let D : List ℕ = flat_map (defs_at t) (js i) in
        let U : List ℕ = flat_map (uses_at t places) (js i) in
        let u : is_in k (list_of (get_or touched (i * 2 + 1) 0)) ≡ is_in k U = listed_word _ U (uses_word i) (low_none U (low_flat (uses_at t places) low_use (js i))) k in
        let d : is_in k (list_of (get_or touched (i * 2) 0)) ≡ is_in k D = listed_word _ D (defs_word i) (low_none D (low_flat (defs_at t) low_def (js i))) k in
        is_append k (list_of (get_or touched (i * 2 + 1) 0)) (without_all (list_of (get_or touched (i * 2) 0)) A)
        ∙ ap (λ (b : Bool). b || is_in k (without_all (list_of (get_or touched (i * 2) 0)) A)) u
        ∙ ap (λ (b : Bool). is_in k U || b) (is_without_all k (list_of (get_or touched (i * 2) 0)) A ∙ ap (λ (b : Bool). is_in k A && not b) d)
        ∙ sym (is_with_all k (inst_of sh ps es i).uses (without_all (slots_of (inst_of sh ps es i).defs) A)
        ∙ ap (λ (b : Bool). is_in k (inst_of sh ps es i).uses || b) (is_without_all k (slots_of (inst_of sh ps es i).defs) A ∙ ap (λ (l : List ℕ). is_in k A && not (is_in k l)) (defs_are i))
        ∙ ap (λ (l : List ℕ). is_in k l || (is_in k A && not (is_in k D))) (uses_are i))

    pub linked : Linked t touched sh ps es counts
    linked =
        record {
          insts = insts_are h.ready;
          rows = rows_are;
          at_inst = inst_is;
          low_rows = low_row;
          few = λ k. omega (arith, h.few k, (in_limits sh h.ready.limits).few_edits, edits_length edits (length sh.edits));
          many = edits_length edits (length sh.edits);
        }
