-- Binary digits of a number, and sets of numbers as the digits of a list of 64-bit words.
use Rattle.std.specs.Prelude.{Bool, true, false, List, [], ◌∷◌, ℕ, zero, suc, ◌+◌, ◌*◌, ◌/◌, ◌%◌, ◌^◌, eqb, get_or}

-- digit k of n is set
unfoldable pub bit : ℕ → ℕ → Bool
bit n k = eqb (n / 2 ^ k % 2) 1

unfoldable pub digit_of : Bool → ℕ
digit_of true = 1
digit_of false = 0

-- the number with the n digits f b, f (b + 1), .., lowest first
unfoldable pub word : (ℕ → Bool) → ℕ → ℕ → ℕ
word f b zero = 0
word f b (suc n) = word f (suc b) n * 2 + digit_of (f b)

-- k is a member of the words ws
unfoldable pub has_in : List ℕ → ℕ → Bool
has_in ws k = bit (get_or ws (k / 64) 0) (k % 64)

-- the n words with the digits f b, f (b + 1), ..
unfoldable pub words_of : (ℕ → Bool) → ℕ → ℕ → List ℕ
words_of f b zero = []
words_of f b (suc n) = word f b 64 ∷ words_of f (b + 64) n
