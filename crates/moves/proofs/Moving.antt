-- `optimise_move`, `optimise_edit`, `optimise_edits` and `prepare_edits` of src/lib.rt, with their parts: a move or remat, an edit, and the edits
-- of an instruction in the optimising walk and in the preparing one. Assumes nothing.
--     rewrite_kept, rewrite_removed, rewrite_sourced     the edits and the counts by what becomes of it
--     move_by         the three together
--     edit_move, edit_remat, edit_other     an edit
--     edits_none, edits_next, edits_end       the edits of an instruction, one after the other
--     effects_none, effects_next, effects_end the same in the preparing walk
use mathlib.Core.Path.{◌≡◌, refl, sym, ◌∙◌, ap}
use mathlib.Core.Bool.{Bool, true, false, ◌||◌}
use mathlib.Core.List.{List}
use mathlib.Core.Option.{Option, none, some, Option-elim}
use Prim.Native.Nat.{ℕ, suc, ◌+◌, ◌-◌, ◌*◌, ◌<◌, ◌≤◌}
use native.Mathlib.Omega.{arith}
use lib.ListN.{length, get_or, set}
use lib.Seq.{set-get_or}
use borrow.Author.Tests.{lt-ltb, le-ltb}
use Rattle.laws.specs.Fold.{run}
use Rattle.laws.specs.Lists.{from}
use Rattle.laws.proofs.Cases.{by_bool, by_lt}
use Rattle.laws.proofs.Lists.{run_more}
use Rattle.entity.specs.Limits.{inst_limit, edit_limit}
use Rattle.entity.specs.declared.numbers.PhysReg.{PhysReg}
use Rattle.entity.specs.declared.numbers.Value.{Value}
use Rattle.entity.specs.declared.forms.Place.{Place}
use Rattle.entity.specs.declared.forms.Place.TheVariants.{Reg}
use Rattle.entity.specs.declared.forms.Edit.{Edit}
use Rattle.entity.specs.declared.forms.Edit.TheVariants.{Move, Remat, Espill, Ereload, Misplaced, Nothing}
use Rattle.rules.specs.Cells.{number_limit}
use Rattle.rules.specs.Sheet.{Sheet}
use Rattle.rules.specs.Accept.{placed}
use Rattle.rules.specs.Record.{Record, holds, arrive, effect}
use Rattle.rules.specs.Forward.{Walk, with_rec, count, reload_to_move, lowest_holding, already, to_home, spilled_above, note_spill, removal, new_source, becomes, optimise_move, optimise_edit, edits_at}
use Rattle.rules.proofs.Refusals.{in_limits}
use Rattle.table.specs.Layout.{edit_index, edit_width}
use Rattle.table.specs.Rows.{count_in}
use Rattle.table.specs.Sheet.{rows_at, sheet_in}
use Rattle.table.specs.Index.{range_in, Ready}
use Rattle.table.specs.Edits.{edit_in, edits_in, with_edit, SmallPlace, SmallEdit}
use Rattle.table.specs.Written.{SmallValue, EditCells}
use Rattle.table.specs.declared.counts.Count.{Count}
use Rattle.table.specs.declared.index.Range.{Range}
use Rattle.table.proofs.Numbered as Numbered
use Rattle.table.proofs.Ranges.{before_within}
use Rattle.table.proofs.Sheets.{edit_row_of, read_long, edits_are, rows_long}
use Rattle.table.proofs.Stored.{with_length, edits_with, edits_at_lem, cells_with, read_back}
use Rattle.table.proofs.Counted.{count_more}
use Rattle.record.specs.Flat.{record_of}
use Rattle.record.specs.declared.flat.WalkRecord.{WalkRecord}
use Rattle.holders.specs.Holders.{Filled}
use Rattle.moves.specs.Walks.{Ordered, Written, Walked, Optimises}
use Rattle.moves.specs.Moves.{source_of, edit_by, as_edit, fate_by, source_for, fate_of, settled, fated_record, recounted, rewritten, SmallArrival, SmallFate}
use Rattle.std.specs.Prelude as Std
use Rattle.moves.specs.declared.Arrival.{Arrival}
use Rattle.moves.specs.declared.Fate.{Fate}
use Rattle.moves.specs.declared.Fate.TheVariants.{Kept, Removed, Sourced}
use Rattle.moves.proofs.Deciding.{fate_small}
use Rattle.moves.proofs.Walks.{written_fewer, written_rec, walked_fewer, walked_with}

-- ---- the edits and the counts

module _ {t edits places counts : List ℕ} where
  written_with : {edits' counts' : List ℕ} (j k n : ℕ) (e : Edit) (w : Walk) → placed e ≡ true → SmallEdit e → SmallValue e
      → (SmallEdit e → edits' ≡ with_edit edits j e) → (get_or counts k 0 < 4294967295 → counts' ≡ count k counts)
      → j < length (sheet_in t).edits → Written t edits places counts (n + 1) w → Written t edits' places counts' n (recounted j e k w)
  written_with j k n e w pl s v p q h g =
      let room : length (sheet_in t).edits * edit_width ≤ length edits = g.edit_room in
      rw (p s, q (omega (arith, g.few k)))
      (record {
        edit_room = rw (with_length edits j e) room;
        place_room = g.place_room;
        in_cells = record {
          cells_of_edits = λ i u. cells_with edits j e i (omega arith) pl s v (g.in_cells.cells_of_edits i u);
          is_edits = ap (λ (l : List Edit). set l j e) g.in_cells.is_edits ∙ sym (edits_with edits j e (length (sheet_in t).edits) (omega arith) (read_back e pl s));
          place_cells = g.in_cells.place_cells;
          is_places = g.in_cells.is_places;
        };
        few = λ i. omega (arith, g.few i, count_more k i counts);
        is_counts = ap (count k) g.is_counts;
      })

-- what `rewrite` promises
abbrev pub Rewrites : List ℕ → List ℕ → List ℕ → List ℕ → ℕ → Arrival → Fate → Type 0
Rewrites edits counts edits' counts' j a f =
    SmallArrival a → SmallFate f → (t places : List ℕ) (n : ℕ) (w : Walk) → j < length (sheet_in t).edits
    → Written t edits places counts (n + 1) w → Written t edits' places counts' n (rewritten j a f w)

module _ (edits counts : List ℕ) (j : ℕ) (a : Arrival) {f : Fate} where
  pub rewrite_kept : f ≡ Kept → Rewrites edits counts edits counts j a f
  unfolding rewritten
  rewrite_kept e sa sf t places n w h g = rw e (written_fewer n (omega arith) g)

  module _ {edits' counts' : List ℕ} where
    pub rewrite_removed : {k : Count} → f ≡ Removed k → (SmallEdit Nothing → edits' ≡ with_edit edits j Nothing) → (get_or counts k.0 0 < 4294967295 → counts' ≡ count k.0 counts) → Rewrites edits counts edits' counts' j a f
    unfolding rewritten placed
    rewrite_removed {k} e p q sa sf t places n w h g = rw e (written_with j k.0 n Nothing w refl tt tt p q h g)

    pub rewrite_sourced : {r : PhysReg} {q : Place} → f ≡ Sourced r → q ≡ Reg r
        → (SmallEdit (Move a.to q a.value) → edits' ≡ with_edit edits j (Move a.to q a.value)) → (get_or counts reload_to_move 0 < 4294967295 → counts' ≡ count reload_to_move counts)
        → Rewrites edits counts edits' counts' j a f
    unfolding rewritten placed
    rewrite_sourced {r} e o p q sa sf t places n w h g =
        let small : r.0 < number_limit = rw e at sf in
        let p' : SmallEdit (Move a.to (Reg r) a.value) → edits' ≡ with_edit edits j (Move a.to (Reg r) a.value) = rw o at p in
        rw e (written_with j reload_to_move n (Move a.to (Reg r) a.value) w refl (sa.0, small) sa.1 p' q h g)

-- ---- a move or remat

rewritten_rec : (j : ℕ) (a : Arrival) (f : Fate) (w : Walk) → (rewritten j a f w).rec ≡ w.rec
unfolding rewritten
rewritten_rec j a Kept w = refl
rewritten_rec j a (Removed k) w = refl
rewritten_rec j a (Sourced r) w = refl

-- the last spilled block does not matter to the source
source_noted : (sh : Sheet) (b : ℕ) (to : Place) (p : Option Place) (v x : ℕ) (s : Record) → source_for sh p v (note_spill sh b to x s) ≡ source_for sh p v s
unfolding Option-elim new_source lowest_holding note_spill holds
source_noted sh b to none v x s = refl
source_noted sh b to (some q) v x s = by_bool (to_home sh to x) (λ e. rw e) (λ e. rw e)

-- the record after the edit is that of an arrival
edit_arrives : (sh : Sheet) (to : Place) (p : Option Place) (v : ℕ) (s : Record) → effect sh (edit_by to p v) s ≡ arrive sh v to s
unfolding edit_by effect
edit_arrives sh to none v s = refl
edit_arrives sh to (some q) v s = refl

-- the definition's two cases
module _ (sh : Sheet) (b j : ℕ) (to : Place) (p : Option Place) (v : ℕ) (e : Edit) (w : Walk) where
  move_gone : (already sh to v w.rec || spilled_above sh b to v w.rec) ≡ true → optimise_move sh b j to p v e w ≡ becomes sh j Nothing (count (removal sh to p) w.counts) w.rec w
  unfolding optimise_move
  move_gone h = rw (h, optimise_move)

  move_stays : (already sh to v w.rec || spilled_above sh b to v w.rec) ≡ false
      → optimise_move sh b j to p v e w
      ≡ Option-elim (source_for sh p v w.rec) (becomes sh j e w.counts (note_spill sh b to v w.rec) w) (λ r.
      becomes sh j (Move to (Reg (record { 0 = r })) (record { 0 = v })) (count reload_to_move w.counts) (note_spill sh b to v w.rec) w)
  unfolding optimise_move
  move_stays h = rw (h, optimise_move, ← source_noted sh b to p v v w.rec)

module _ (sh : Sheet) (b j : ℕ) (a : Arrival) (w : Walk) where
  abbrev gone : Bool
  gone = already sh a.to a.value.0 w.rec || spilled_above sh b a.to a.value.0 w.rec

  abbrev parts : Fate → Walk
  parts f = with_rec (fated_record sh b a f) (rewritten j a f w)

  abbrev whole : Walk
  whole = optimise_move sh b j a.to (source_of a.from) a.value.0 (as_edit a) w

  fate_gone : gone ≡ true → fate_of sh b a w.rec ≡ Removed (record { 0 = removal sh a.to (source_of a.from) })
  unfolding fate_of
  fate_gone h = rw h

  fate_stays : gone ≡ false → (o : Option ℕ) → source_for sh (source_of a.from) a.value.0 w.rec ≡ o → fate_of sh b a w.rec ≡ fate_by o
  unfolding fate_of
  fate_stays h o e = rw (h, e)

  parts_gone : gone ≡ true → parts (fate_of sh b a w.rec) ≡ whole
  unfolding fated_record rewritten effect
  parts_gone h = ap parts (fate_gone h) ∙ sym (move_gone sh b j a.to (source_of a.from) a.value.0 (as_edit a) w h)

  parts_stay : gone ≡ false → (o : Option ℕ) → source_for sh (source_of a.from) a.value.0 w.rec ≡ o → get_or w.edits j Nothing ≡ as_edit a → parts (fate_of sh b a w.rec) ≡ whole
  unfolding fate_by fated_record settled rewritten effect Option-elim
  parts_stay h none e g =
      ap parts (fate_stays h none e)
      ∙ sym (move_stays sh b j a.to (source_of a.from) a.value.0 (as_edit a) w h
      ∙ rw (e, edit_arrives sh a.to (source_of a.from) a.value.0 (note_spill sh b a.to a.value.0 w.rec), ← g, set-get_or w.edits j Nothing))
  parts_stay h (some r) e g =
      ap parts (fate_stays h (some r) e)
      ∙ sym (move_stays sh b j a.to (source_of a.from) a.value.0 (as_edit a) w h ∙ rw e)

  move_is : get_or w.edits j Nothing ≡ as_edit a → parts (fate_of sh b a w.rec) ≡ whole
  move_is g = by_bool gone parts_gone (λ h. parts_stay h (source_for sh (source_of a.from) a.value.0 w.rec) refl g)

small_edit : (to : Place) (p : Option Place) (v : ℕ) → SmallEdit (edit_by to p v) → SmallValue (edit_by to p v) → SmallPlace to × (v < number_limit)
unfolding edit_by
small_edit to none v s x = (s, x)
small_edit to (some q) v s x = (s.0, x)

-- row j of the edits
module _ {t : List ℕ} {rec : WalkRecord} {edits places counts : List ℕ} {w : Walk} where
  row_is : (n j : ℕ) → j < length (sheet_in t).edits → Walked t rec edits places counts n w → get_or w.edits j Nothing ≡ edit_in edits j
  row_is n j h k = rw k.cells.in_cells.is_edits (edits_at_lem edits (length (sheet_in t).edits) j Nothing h)

  small_arrival : (n j : ℕ) (a : Arrival) → j < length (sheet_in t).edits → get_or w.edits j Nothing ≡ as_edit a → Walked t rec edits places counts n w → SmallArrival a
  small_arrival n j a h e k =
      let c : EditCells edits j = k.cells.in_cells.cells_of_edits j h in
      let r : edit_in edits j ≡ as_edit a = sym (row_is n j h k) ∙ e in
      small_edit a.to (source_of a.from) a.value.0 (rw r at c.small) (rw r at c.value)

-- what `optimise_move` promises
abbrev pub Moves : List ℕ → List ℕ → WalkRecord → List ℕ → List ℕ → WalkRecord → List ℕ → List ℕ → ℕ → ℕ → Arrival → Type 0
Moves t classes rec edits counts rec' edits' counts' b j a =
    Ready t → Filled (sheet_in t) classes → (places : List ℕ) (n : ℕ) (w : Walk) → j < length (sheet_in t).edits
    → get_or w.edits j Nothing ≡ as_edit a → Walked t rec edits places counts (n + 1) w
    → Walked t rec' edits' places counts' n (optimise_move (sheet_in t) b j a.to (source_of a.from) a.value.0 (as_edit a) w)

pub move_by : {t classes : List ℕ} {rec rec' : WalkRecord} {edits counts edits' counts' : List ℕ} (b j : ℕ) (a : Arrival) {f : Fate}
    → (Ready t → Filled (sheet_in t) classes → f ≡ fate_of (sheet_in t) b a (record_of rec)) → Rewrites edits counts edits' counts' j a f
    → record_of rec' ≡ fated_record (sheet_in t) b a f (record_of rec) → Moves t classes rec edits counts rec' edits' counts' b j a
move_by {t} {rec = rec} {rec' = rec'} {edits' = edits'} {counts' = counts'} b j a {f} p q r g fl places n w h e k =
    let sh : Sheet = sheet_in t in
    let fate : f ≡ fate_of sh b a w.rec = p g fl ∙ ap (fate_of sh b a) (sym k.is_rec) in
    let small : SmallFate f = rw fate (fate_small sh b a w.rec g.limits) in
    let y : Walked t rec' edits' places counts' n (parts sh b j a w f) =
    record {
      is_rec = ap (fated_record sh b a f) (rewritten_rec j a f w ∙ k.is_rec) ∙ sym r;
      cells = written_rec (fated_record sh b a f) (q (small_arrival (n + 1) j a h e k) small t places n w h k.cells);
    } in
    let is : parts sh b j a w f ≡ whole sh b j a w = ap (parts sh b j a w) fate ∙ move_is sh b j a w e in
    rw is at y

-- ---- an edit

-- the record alone changes
walked_rec : {t : List ℕ} {rec rec' : WalkRecord} {edits places counts : List ℕ} {w : Walk} (n : ℕ) (f : Record → Record) → record_of rec' ≡ f (record_of rec)
    → Walked t rec edits places counts (n + 1) w → Walked t rec' edits places counts n (with_rec f w)
walked_rec n f p k = walked_with f p (walked_fewer n (omega arith) k)

-- an edit that is neither a move nor a remat changes the record alone
other_is : (sh : Sheet) (b j : ℕ) (w : Walk) (e : Edit) → ((to p : Place) (v : Value) → e ≡ Move to p v → ⊥) → ((to : Place) (v : Value) → e ≡ Remat to v → ⊥)
    → get_or w.edits j Nothing ≡ e → optimise_edit sh b w j ≡ with_rec (effect sh e) w
unfolding optimise_edit effect
other_is sh b j w (Move to p v) x y q = absurd (x to p v refl)
other_is sh b j w (Remat to v) x y q = absurd (y to v refl)
other_is sh b j w (Espill s r) x y q = rw (q, optimise_edit) refl
other_is sh b j w (Ereload r s) x y q = rw (q, optimise_edit) refl
other_is sh b j w (Misplaced to p) x y q = rw (q, optimise_edit) refl
other_is sh b j w Nothing x y q = rw (q, optimise_edit) refl

module _ {t classes : List ℕ} {rec : WalkRecord} {edits counts : List ℕ} (b j : ℕ) {e : Edit} (r : e ≡ edit_in edits j) where
  module _ {rec' : WalkRecord} {edits' counts' : List ℕ} where
    pub edit_move : {to p : Place} {v : Value} → e ≡ Move to p v → Moves t classes rec edits counts rec' edits' counts' b j (record { to = to; from = Std.Some p; value = v })
        → Optimises t classes rec edits counts rec' edits' counts' b j
    unfolding optimise_edit source_of edit_by
    edit_move q m = record {
      goes = λ g fl places n w h k.
          let row : get_or w.edits j Nothing ≡ e = row_is (n + 1) j h k ∙ sym r in
          rw (row ∙ q, optimise_edit) (m g fl places n w h (row ∙ q) k);
    }

    pub edit_remat : {to : Place} {v : Value} → e ≡ Remat to v → Moves t classes rec edits counts rec' edits' counts' b j (record { to = to; from = Std.None; value = v })
        → Optimises t classes rec edits counts rec' edits' counts' b j
    unfolding optimise_edit source_of edit_by
    edit_remat q m = record {
      goes = λ g fl places n w h k.
          let row : get_or w.edits j Nothing ≡ e = row_is (n + 1) j h k ∙ sym r in
          rw (row ∙ q, optimise_edit) (m g fl places n w h (row ∙ q) k);
    }

  pub edit_other : {rec' : WalkRecord} → ((to p : Place) (v : Value) → e ≡ Move to p v → ⊥) → ((to : Place) (v : Value) → e ≡ Remat to v → ⊥)
      → record_of rec' ≡ effect (sheet_in t) e (record_of rec) → Optimises t classes rec edits counts rec' edits counts b j
  edit_other x y p = record {
    goes = λ g fl places n w h k. rw (other_is (sheet_in t) b j w e x y (row_is (n + 1) j h k ∙ sym r)) (walked_rec n (effect (sheet_in t) e) p k);
  }

-- ---- the rows of an instruction

rows_within : {t : List ℕ} → Ready t → (i : ℕ) → (range_in t edit_index inst_limit i).to ≤ length (sheet_in t).edits
unfolding range_in
rows_within {t} g i =
    let m : length (sheet_in t).edits ≡ count_in t 12 = ap length (edits_are t).is ∙ read_long t 12 edit_row_of in
    by_lt i inst_limit
    (λ h.
    let e : edit_index + i + 1 ≡ edit_index + (i + 1) = omega arith in
    rw (lt-ltb i inst_limit h, e, g.built.edits (i + 1) (omega arith)) (omega (arith, before_within (i + 1) (rows_at t 12), rows_long t 12)))
    (λ h. rw (le-ltb i inst_limit h) (omega arith))

run_next : {S : Type 0} (f : S → ℕ → S) (s : S) (a j : ℕ) → a ≤ j → run f s (from a (j + 1 - a)) ≡ f (run f s (from a (j - a))) j
run_next f s a j h =
    let m : j + 1 - a ≡ suc (j - a) = omega arith in
    let e : a + (j - a) ≡ j = omega arith in
    rw m (run_more f s a (j - a) ∙ ap (f (run f s (from a (j - a)))) e)

-- the rows of instruction i are passed up to j
module _ {t : List ℕ} {r : Range} (i : ℕ) (e : r ≡ range_in t edit_index inst_limit i) where
  row_in : {j : ℕ} → Ready t → j < r.to → j < length (sheet_in t).edits
  row_in g h = let m : r.to ≤ length (sheet_in t).edits = rw e (rows_within g i) in omega arith

  rows_all : {j : ℕ} → Ordered t → r.from ≤ j → j - r.from ≤ r.to - r.from → r.to ≤ j → edits_at (sheet_in t) i ≡ from r.from (j - r.from)
  rows_all {j} o h k l =
      let m : r.to - r.from ≡ j - r.from = omega arith in
      Numbered.edits_at_lem o.ready o.order i ∙ rw (← e, m)

-- the walk so far: the counts went up no more often than edits were passed
abbrev pub Passed : List ℕ → List ℕ → WalkRecord → List ℕ → List ℕ → WalkRecord → List ℕ → List ℕ → ℕ → ℕ → ℕ → Type 0
Passed t classes rec edits counts rec' edits' counts' b a j =
    Ordered t → Filled (sheet_in t) classes → (places : List ℕ) (m n : ℕ) (w : Walk) → m + (j - a) ≡ n
    → Walked t rec edits places counts n w → Walked t rec' edits' places counts' m (run (optimise_edit (sheet_in t) b) w (from a (j - a)))

module _ (t classes : List ℕ) (rec : WalkRecord) (edits counts : List ℕ) (b a : ℕ) where
  pub edits_none : Passed t classes rec edits counts rec edits counts b a a
  unfolding run from
  edits_none o fl places m n w h k =
      let z : a - a ≡ 0 = omega arith in
      let q : n ≡ m = omega arith in
      rw (z, ← q) k

module _ {t classes : List ℕ} {rec : WalkRecord} {edits counts : List ℕ} {rec₁ : WalkRecord} {edits₁ counts₁ : List ℕ} {r : Range} (b i : ℕ) {j : ℕ} (e : r ≡ range_in t edit_index inst_limit i) (p : Passed t classes rec edits counts rec₁ edits₁ counts₁ b r.from j) where
  pub edits_next : {rec₂ : WalkRecord} {edits₂ counts₂ : List ℕ} → Optimises t classes rec₁ edits₁ counts₁ rec₂ edits₂ counts₂ b j → r.from ≤ j → j < r.to → Passed t classes rec edits counts rec₂ edits₂ counts₂ b r.from (j + 1)
  edits_next q h l o fl places m n w s k =
      rw (run_next (optimise_edit (sheet_in t) b) w r.from j h)
      (q.goes o.ready fl places m (run (optimise_edit (sheet_in t) b) w (from r.from (j - r.from))) (row_in i e o.ready l) (p o fl places (m + 1) n w (omega arith) k))

  pub edits_end : r.from ≤ j → j - r.from ≤ r.to - r.from → r.to ≤ j → Ordered t → Filled (sheet_in t) classes → (places : List ℕ) (n : ℕ) (w : Walk) → Walked t rec edits places counts (n + edit_limit) w
      → Walked t rec₁ edits₁ places counts₁ n (run (optimise_edit (sheet_in t) b) w (edits_at (sheet_in t) i))
  edits_end h u l o fl places n w k =
      let f = (in_limits (sheet_in t) o.ready.limits).few_edits in
      let c : r.to ≤ length (sheet_in t).edits = rw e (rows_within o.ready i) in
      rw (rows_all i e o h u l)
      (walked_fewer n (omega arith) (p o fl places (n + edit_limit - (j - r.from)) (n + edit_limit) w (omega arith) k))

-- ---- the preparing walk

abbrev pub step : List ℕ → List ℕ → Record → ℕ → Record
step t edits u j = effect (sheet_in t) (get_or (edits_in edits (length (sheet_in t).edits)) j Nothing) u

-- the record so far
abbrev pub Prepared : List ℕ → List ℕ → Record → Record → ℕ → ℕ → Type 0
Prepared t edits s s' a j = Ordered t → s' ≡ run (step t edits) s (from a (j - a))

pub effects_none : (t edits : List ℕ) (s : Record) (a : ℕ) → Prepared t edits s s a a
unfolding run from
effects_none t edits s a o = let z : a - a ≡ 0 = omega arith in rw z

module _ {t : List ℕ} (edits : List ℕ) (s : Record) {s₁ : Record} {r : Range} (i : ℕ) {j : ℕ} (e : r ≡ range_in t edit_index inst_limit i) (p : Prepared t edits s s₁ r.from j) where
  pub effects_next : {s₂ : Record} {x : Edit} → x ≡ edit_in edits j → s₂ ≡ effect (sheet_in t) x s₁ → r.from ≤ j → j < r.to → Prepared t edits s s₂ r.from (j + 1)
  effects_next {x = x} f q h l o =
      let row : get_or (edits_in edits (length (sheet_in t).edits)) j Nothing ≡ x = edits_at_lem edits (length (sheet_in t).edits) j Nothing (row_in i e o.ready l) ∙ sym f in
      rw (run_next (step t edits) s r.from j h, row) (q ∙ ap (effect (sheet_in t) x) (p o))

  pub effects_end : r.from ≤ j → j - r.from ≤ r.to - r.from → r.to ≤ j → Ordered t → s₁ ≡ run (step t edits) s (edits_at (sheet_in t) i)
  effects_end h u l o = rw (rows_all i e o h u l) (p o)
