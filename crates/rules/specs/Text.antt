-- An ASCII text as the list of its bytes, so that a definition can write "slots".
use Rattle.std.specs.Prelude.{ℕ, List, [] as []ᴸ, ◌∷◌ as ◌∷ᴸ◌, Bool, true, false, ◌&&◌, eqb}
use Prim.Native.Char.{code}
use Prim.Native.String.{String, [], ◌∷◌}

unfoldable pub bytes : String → List ℕ
bytes [] = []ᴸ
bytes (c ∷ s) = code c ∷ᴸ bytes s

-- are they the same bytes?
unfoldable pub same : List ℕ → List ℕ → Bool
same []ᴸ []ᴸ = true
same []ᴸ (b ∷ᴸ bs) = false
same (a ∷ᴸ xs) []ᴸ = false
same (a ∷ᴸ xs) (b ∷ᴸ bs) = eqb a b && same xs bs
