-- A set by its members: numbers below `set_limit`, as the digits of 64-bit words.
use Rattle.std.specs.Prelude.{◌≡◌, Bool, List, ℕ, ◌/◌, ◌^◌, ◌<◌, length, get_or}
use Rattle.laws.specs.Digits.{has_in, words_of}
use Rattle.bits.specs.declared.sets.NumberSet.{NumberSet}

-- registers, units, slots and blocks are all below it
abbrev pub set_limit : ℕ
set_limit = 256

abbrev pub made : List ℕ → NumberSet
made ws = record { words = ws }

-- k is a member of s
abbrev pub has : NumberSet → ℕ → Bool
has s k = has_in s.words k

-- the set of the k for which f k is true
abbrev pub set_of : (ℕ → Bool) → NumberSet
set_of f = made (words_of f 0 (set_limit / 64))

-- what every set in the code is: four words, each below 2 ^ 64
abbrev pub IsSet : NumberSet → Type 0
IsSet s = (length s.words ≡ set_limit / 64) × ((i : ℕ) → i < set_limit / 64 → get_or s.words i 0 < 2 ^ 64)

-- the members of `set_of f` are the numbers of which f is true
abbrev pub Members : Type 0
Members = (f : ℕ → Bool) (k : ℕ) → k < set_limit → has (set_of f) k ≡ f k

-- and it is a set, and the only one with these members
abbrev pub OnlySet : Type 0
OnlySet = (f : ℕ → Bool) → IsSet (set_of f) × ((s : NumberSet) → IsSet s → ((k : ℕ) → k < set_limit → has s k ≡ f k) → s ≡ set_of f)
