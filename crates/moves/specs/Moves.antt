-- A move or remat in the optimising walk by its parts: what becomes of it, what that makes of the edits and the counts, and of the record.
-- Together they are `optimise_move` of the rules.
use Rattle.std.specs.Prelude.{cond, ◌||◌, ℕ, ◌<◌, set}
use Rattle.std.specs.Prelude as Std
use Rattle.std.proofs.Math.Option.{Option, none, some, Option-elim}
use Rattle.entity.specs.declared.forms.Place.{Place, TheVariants.Reg}
use Rattle.entity.specs.declared.forms.Edit.{Edit, TheVariants.Move, TheVariants.Remat, TheVariants.Nothing}
use Rattle.rules.specs.{Cells.number_limit, Sheet.Sheet, Record.Record, Record.arrive}
use Rattle.rules.specs.Forward.{Walk, reload_to_move, count, already, spilled_above, note_spill, removal, new_source}
use Rattle.table.specs.Edits.{SmallPlace}
use Rattle.moves.specs.declared.Arrival.{Arrival}
use Rattle.moves.specs.declared.Fate.{Fate, TheVariants.Kept, TheVariants.Removed, TheVariants.Sourced}

-- where a move comes from
unfoldable pub source_of : Std.Option Place → Option Place
source_of (Std.Some p) = some p
source_of Std.None = none

-- the move or remat as an edit
unfoldable pub edit_by : Place → Option Place → ℕ → Edit
edit_by to none v = Remat to (record { 0 = v })
edit_by to (some p) v = Move to p (record { 0 = v })

abbrev pub as_edit : Arrival → Edit
as_edit a = edit_by a.to (source_of a.from) a.value.0

-- ---- what becomes of it

-- kept, unless a source is found
unfoldable pub fate_by : Option ℕ → Fate
fate_by none = Kept
fate_by (some r) = Sourced (record { 0 = r })

module _ (sh : Sheet) where
  -- the register that takes the place of a source in memory
  abbrev pub source_for : Option Place → ℕ → Record → Option ℕ
  source_for p v s = Option-elim p none (λ q. new_source sh q v s)

  -- the record after a move or remat that stays
  unfoldable pub settled : ℕ → Arrival → Record → Record
  settled b a s = arrive sh a.value.0 a.to (note_spill sh b a.to a.value.0 s)

  unfoldable pub fate_of : ℕ → Arrival → Record → Fate
  fate_of b a s =
      cond (already sh a.to a.value.0 s || spilled_above sh b a.to a.value.0 s)
      (Removed (record { 0 = removal sh a.to (source_of a.from) }))
      (fate_by (source_for (source_of a.from) a.value.0 s))

  -- and by what becomes of it
  unfoldable pub fated_record : ℕ → Arrival → Fate → Record → Record
  fated_record b a (Removed k) s = s
  fated_record b a Kept s = settled b a s
  fated_record b a (Sourced r) s = settled b a s

-- ---- the edits and the counts

-- row j of the edits is e, and count k goes up
abbrev pub recounted : ℕ → Edit → ℕ → Walk → Walk
recounted j e k w = record { rec = w.rec; edits = set w.edits j e; places = w.places; counts = count k w.counts }

unfoldable pub rewritten : ℕ → Arrival → Fate → Walk → Walk
rewritten j a Kept w = w
rewritten j a (Removed k) w = recounted j Nothing k.0 w
rewritten j a (Sourced r) w = recounted j (Move a.to (Reg r) a.value) reload_to_move w

-- "at most five digits"
abbrev pub SmallArrival : Arrival → Type 0
SmallArrival a = SmallPlace a.to × (a.value.0 < number_limit)

abbrev pub SmallFate : Fate → Type 0
SmallFate Kept = Unit {0}
SmallFate (Removed k) = Unit {0}
SmallFate (Sourced r) = r.0 < number_limit
