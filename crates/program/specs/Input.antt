-- What the small program takes of reading: `read_full` promises it of a reader that tells its bytes; of standard input no contract can say it.
use Rattle.std.specs.Prelude.{◌≡◌, List, ℕ, length, take}

-- the first n bytes that the buffer holds are those of standard input, as many as there are or as the buffer has room for
abbrev pub FirstBytes : List ℕ → List ℕ → ℕ → Type 0
FirstBytes standard buffer n = take n buffer ≡ take (length buffer) standard
