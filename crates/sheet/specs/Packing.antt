-- A word's bytes as one number, and the words so packed: how a word is found. That this is `word_of` is proved.
use Rattle.std.specs.Prelude.{ℕ, ◌+◌, ◌*◌, cond, List, [], ◌∷◌, map, eqb}
use Rattle.std.proofs.Math.Option.{Option, none, some}
use Rattle.rules.specs.{Text.bytes, Cells.words}

unfoldable pub pack : List ℕ → ℕ
pack [] = 1
pack (b ∷ bs) = pack bs * 256 + b

unfoldable pub packed : List ℕ
packed = map (λ w. pack (bytes w)) words

unfoldable pub find_num : ℕ → ℕ → List ℕ → Option ℕ
find_num w k [] = none
find_num w k (x ∷ xs) = cond (eqb w x) (some k) (find_num w (k + 1) xs)
