-- What the sweep does to an answer: document 01's "Safe" and "Exact" between the call without it and the call with it.
use Rattle.std.specs.Prelude.{◌≡◌, List, ℕ, Some}
use Rattle.std.proofs.Math.Option.{some}
use Rattle.entity.specs.Forms.{level_of}
use Rattle.entity.specs.declared.forms.Place.{Place}
use Rattle.entity.specs.declared.forms.Edit.{Edit}
use Rattle.entity.specs.declared.forms.Level.{Level}
use Rattle.rules.specs.{Rows.rows_of, Sheet.Sheet, Sheet.sheet_of, Function.func_of, Answer.written, Answer.output, Answer.answer}
use Rattle.run.specs.Swept.{optimised, final, folded_places, edits_before, edits_after}
use Rattle.run.specs.Theorem.{RunsAgree, ExactEdits}

-- Between the edits of a sheet before the sweep and after it, with these operand places: on every machine and along every walk over the blocks, the
-- two agree at each step; and every edit row stands at one position, where it was removed exactly when nothing brings its content on, and otherwise stayed.
pub record SafeAndExact (sh : Sheet) (places : List Place) (before after : List Edit) : Type 0 where
  pub safe : RunsAgree (func_of sh places before) (func_of sh places after)
  pub exact : ExactEdits sh places before after

-- The two texts are those of a walk of the sheet's rows, and of that walk swept.
pub record TextsSwept (sheet : List ℕ) (level : ℕ) (plain swept : List ℕ) : Type 0 where
  pub rows : List (List ℕ)
  pub named : Level
  pub rows_are : rows_of sheet ≡ some rows
  pub level_is : level_of level ≡ Some named
  pub before : plain ≡ output (sheet_of rows) (optimised (sheet_of rows) named)
  pub after : swept ≡ output (sheet_of rows) (final (sheet_of rows) named)
  pub holds : SafeAndExact (sheet_of rows) (folded_places (sheet_of rows) named) (edits_before (sheet_of rows) named) (edits_after (sheet_of rows) named)

-- for every sheet, level and buffers for which the call without the sweep and the call with it write an answer
abbrev pub SweepIsSafeAndExact : Type 0
SweepIsSafeAndExact =
    (sheet : List ℕ) (level capacity capacity' : ℕ) (plain swept : List ℕ) → answer sheet level 0 capacity ≡ written plain → answer sheet level 1 capacity' ≡ written swept →
    TextsSwept sheet level plain swept
