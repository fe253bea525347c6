-- The slots that each instruction's operands define and those that they read, two words to an instruction.
use Rattle.std.specs.Prelude.{cond, ◌||◌, List, ℕ, ◌+◌, ◌*◌, ◌%◌, ◌^◌, eqb, get_or, set}
use Rattle.std.specs.Int.Bits.{bit_or}
use Rattle.laws.specs.Fold.{run}
use Rattle.laws.specs.Lists.{from}
use Rattle.entity.specs.declared.forms.Place.{Place}
use Rattle.entity.specs.declared.forms.Place.TheVariants.{Reg, Slot}
use Rattle.rules.specs.Words.{def_word, early_word, use_word}
use Rattle.rules.specs.Sheet.{place_of}
use Rattle.table.specs.Rows.{kind_row}

-- the word of a place's slot
abbrev pub place_word : Place → ℕ
place_word (Slot s) = (1 * 2 ^ (s.0 % 64)) % 2 ^ 64
place_word (Reg r) = 0

-- a word with the slot of a place
unfoldable pub added : List ℕ → ℕ → Place → List ℕ
added l at p = set l at (bit_or (get_or l at 0) (place_word p))

-- the words with what operand row n defines or reads; and the first n rows
unfoldable pub touch_by : List ℕ → List ℕ → List ℕ → ℕ → List ℕ
touch_by t places l n =
    let row = kind_row t 10 n in
    let at = get_or row 1 0 * 2 in
    let k = get_or row 2 0 in
    cond (eqb k use_word) (added l (at + 1) (place_of (get_or places n 0))) (cond (eqb k def_word || eqb k early_word) (added l at (place_of (get_or row 5 0))) l)

abbrev pub touched_to : List ℕ → List ℕ → List ℕ → ℕ → List ℕ
touched_to t places l n = run (touch_by t places) l (from 0 n)
