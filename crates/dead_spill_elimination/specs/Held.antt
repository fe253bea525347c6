-- What the sweep asks of a table, its edits, operand places and counts, and what it promises.
use Rattle.std.specs.Prelude.{◌≡◌, true, ℕ, ◌+◌, ◌*◌, ◌≤◌, ◌<◌, length, get_or}
use mathlib.Core.List.{List, zip}
use Rattle.laws.specs.Fold.{run}
use Rattle.entity.specs.Limits.{edit_limit}
use Rattle.entity.specs.declared.forms.Place.{Place}
use Rattle.entity.specs.declared.forms.Edit.{Edit}
use Rattle.rules.specs.{Accept.named_back, Accept.each_block, Accept.in_order, Function.edit, Function.slot_of, Function.func_of}
use Rattle.rules.specs.Sweep.{ends, struck, strike_blocks}
use Rattle.table.specs.{Layout.edit_width, Sheet.sheet_in, Index.Ready, Written.EditCells}
use Rattle.table.specs.Edits.{edit_in, edits_in, place_in, places_in}
use Rattle.dead_spill_elimination.specs.Slots.{Low, LowReads}

-- the rows of the edits, and the places of the operands
abbrev pub the_edits : List ℕ → List ℕ → List Edit
the_edits t edits = edits_in edits (length (sheet_in t).edits)

abbrev pub the_places : List ℕ → List ℕ → List Place
the_places t places = places_in places (length (sheet_in t).ops)

-- refusals 1 to 3 are past and the index is built; of 9 and 6, that predecessors and successors agree, and that edits stand in order; the slots that
-- edits read and operands have are below the limit; there is room for the edits, and the counts can be counted up
pub record Held (t edits places counts : List ℕ) : Type 0 where
  pub ready : Ready t
  pub agree : each_block (sheet_in t) (named_back (sheet_in t)) ≡ true
  pub order : in_order (sheet_in t).edits ≡ true
  pub low_edits : (j : ℕ) → j < length (sheet_in t).edits → LowReads (edit (edit_in edits j))
  pub low_places : (n : ℕ) → n < length (sheet_in t).ops → Low (slot_of (place_in places n))
  pub room : length (sheet_in t).edits * edit_width ≤ length edits
  pub few : (k : ℕ) → get_or counts k 0 + edit_limit < 4294967295

-- the edits and the counts afterwards are those of `sweep`; cells that were an edit row's still are
abbrev pub swept_edits : List ℕ → List ℕ → List ℕ → List Edit
swept_edits t edits places =
    let sh = sheet_in t in
    let ps = the_places t places in
    let es = the_edits t edits in
    strike_blocks sh ps es (ends (func_of sh ps es))

pub record Swept (t edits places counts edits' counts' : List ℕ) : Type 0 where
  pub edits_are : the_edits t edits' ≡ swept_edits t edits places
  pub counts_are : counts' ≡ run struck counts (zip (the_edits t edits) (swept_edits t edits places))
  pub cells_kept : (j : ℕ) → j < length (sheet_in t).edits → EditCells edits j → EditCells edits' j
