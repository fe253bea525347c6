-- Laws of sets by their members (specs/Sets.antt). Assumes nothing.
use mathlib.Core.Path.{◌≡◌, ap, ◌∙◌}
use mathlib.Core.Bool.{Bool, false}
use Prim.Native.Nat.{ℕ, ◌<◌, ◌≤◌}
use native.Mathlib.Omega.{arith}
use Rattle.laws.proofs.Words.{has_words_of, has_out, is_words_of, of_words}
use Rattle.bits.specs.declared.sets.NumberSet.{NumberSet}
use Rattle.bits.specs.Sets.{made, has, set_of, set_limit, IsSet, Members, OnlySet}

pub has_set_of : Members
has_set_of f k h = has_words_of 4 f k h

pub has_past : (f : ℕ → Bool) (k : ℕ) → set_limit ≤ k → has (set_of f) k ≡ false
has_past f k h = has_out 4 _ (of_words 4 f) k (omega arith)

pub is_set_lem : (f : ℕ → Bool) → IsSet (set_of f)
is_set_lem f = ((of_words 4 f).long, (of_words 4 f).each)

pub is_set_of : (f : ℕ → Bool) (s : NumberSet) → IsSet s → ((k : ℕ) → k < set_limit → has s k ≡ f k) → s ≡ set_of f
is_set_of f s p h = ap made (is_words_of 4 f s.words (record { long = p.0; each = p.1 }) h)

pub only_set : OnlySet
only_set f = (is_set_lem f, is_set_of f)

-- two tests that agree make one set
pub set_of_same : (f g : ℕ → Bool) → ((k : ℕ) → k < set_limit → f k ≡ g k) → set_of f ≡ set_of g
set_of_same f g h = is_set_of g (set_of f) (is_set_lem f) (λ k l. has_set_of f k l ∙ h k l)
