-- What the call promises: the answer, and the output buffer afterwards.
use Rattle.std.specs.Prelude.{◌≡◌, Bool, List, ℕ, length, Result, Ok, Err}
use Rattle.std.proofs.Math.Option.{Option, some, Option-elim}
use Rattle.entity.specs.declared.forms.Level.{Level}
use Rattle.entity.specs.declared.forms.Refusal.{Refusal, TheVariants.Rows}
use Rattle.rules.specs.{Rows.rows_of, Sheet.sheet_of}
use Rattle.rules.specs.Answer.{Answer, refused, written, first_refusal, checks, checked, buffer}
use Rattle.table.specs.{Sheet.sheet_in, Index.Ready}

-- 1 to 6 and 9 to 12: "Checks go in the table's order, each over the whole sheet; no number is given otherwise."
unfoldable pub sheet_refusal : List ℕ → Option Refusal
sheet_refusal sheet = Option-elim (rows_of sheet) (some Rows) (λ rows. first_refusal (checks (sheet_of rows)))

-- the table holds these rows, and its index is built
pub record TableOf (rs : List (List ℕ)) (t : List ℕ) : Type 0 where
  pub ready : Ready t
  pub is : sheet_in t ≡ sheet_of rs

-- the answer, where 7 is not given
unfoldable pub sheet_answer : List ℕ → Level → Bool → ℕ → Answer
sheet_answer sheet level swept capacity = Option-elim (rows_of sheet) (refused Rows) (λ rows. checked level swept capacity (sheet_of rows))

-- the answer as the code's result
unfoldable pub as_outcome : Answer → Result ℕ Refusal
as_outcome (refused r) = Err r
as_outcome (written text) = Ok (length text)

-- the outcome is that of answer a, and the buffer that was `old` is as a leaves it
abbrev pub Gives : Answer → Result ℕ Refusal → List ℕ → List ℕ → Type 0
Gives a o old new = (o ≡ as_outcome a) × (new ≡ buffer a old)
