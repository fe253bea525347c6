-- What the functions answer, by the definitions of rules.
use Rattle.std.specs.Prelude.{ℕ, ◌+◌, zero, suc, Bool, true, false, cond, ◌&&◌, ◌||◌, not, List, [], ◌∷◌, length, drop, get_or, eqb, leb, Option, Some, None}
use Prim.Native.Char.{code}
use Rattle.std.proofs.Math.Option as maybe
use Rattle.std.proofs.Math.Option.{none, some, map}
use Rattle.rules.specs.Cells.{cell_of, number_of}
use Rattle.sheet.specs.declared.lexing.Piece.{Piece, TheVariants.More, TheVariants.Last}

-- the code's option for one of the definitions
abbrev pub option_of : {A : Type 0} → maybe.Option A → Option A
option_of none = None
option_of (some x) = Some x

-- the bytes before the first comma or CR
unfoldable pub up_to : List ℕ → List ℕ
up_to [] = []
up_to (b ∷ bs) = cond (eqb b (code ",") || eqb b (code "\r")) [] (b ∷ up_to bs)

-- does t begin with a comma; with CR LF
unfoldable pub comma : List ℕ → Bool
comma [] = false
comma (b ∷ bs) = eqb b (code ",")

unfoldable pub crlf : List ℕ → Bool
crlf [] = false
crlf (a ∷ []) = false
crlf (a ∷ b ∷ bs) = eqb a (code "\r") && eqb b (code "\n")

unfoldable pub ended : maybe.Option ℕ → Bool → Bool → ℕ → Option Piece
ended none isComma isEnd e = None
ended (some c) true isEnd e = Some (More c e)
ended (some c) false true e = Some (Last c e)
ended (some c) false false e = None

-- the field that t begins with, where t stands at `at`, and its cell by one of the readings of rules
abbrev pub field_by : (List ℕ → maybe.Option ℕ) → List ℕ → ℕ → Option Piece
field_by cell t at =
    let f = up_to t in
    let u = drop (length f) t in
    ended (cell f) (comma u) (crlf u) (at + length f)

unfoldable pub field_at : List ℕ → ℕ → Option Piece
field_at t at = field_by cell_of t at

-- a number after a mark of cell `base`
unfoldable pub number_from : ℕ → List ℕ → maybe.Option ℕ
number_from base f = map (λ n. base + n) (number_of f)

-- the bytes at the head of a list that pass a test, k at most
unfoldable pub lead : (ℕ → Bool) → ℕ → List ℕ → List ℕ
lead p zero t = []
lead p (suc k) [] = []
lead p (suc k) (b ∷ bs) = cond (p b) (b ∷ lead p k bs) []

-- n digits at the head of t, n at most five, are a number
unfoldable pub plain_head : List ℕ → ℕ → Bool
plain_head t n = leb 1 n && (eqb n 1 || not (eqb (get_or t 0 0) (code "0")))
