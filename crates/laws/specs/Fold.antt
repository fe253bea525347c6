-- A state run through the elements of a list, from the front.
use Rattle.std.specs.Prelude.{List, [], ◌∷◌}

unfoldable pub run : {S A : Type 0} → (S → A → S) → S → List A → S
run f s [] = s
run f s (x ∷ xs) = run f (f s x) xs
