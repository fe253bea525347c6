-- For `read_full` of src/reading.rt: a buffer that is filled read by read. Assumes nothing.
use mathlib.Core.Path.{◌≡◌, sym, ap, subst, ◌∙◌}
use Prim.Native.Nat.{ℕ, ◌+◌}
use lib.ListN.{take, drop}
use lib.Seq.{take-add}
use Rattle.std.specs.Prelude.{Option, List, ◌++◌}
use Rattle.std.specs.Io.KnownBytes.{Consumes}
use Rattle.std.proofs.KnownBytes.{Consumes-trans}

-- the first `at` bytes of `old`, and the n that follow them in `new`, were read in turn
pub read_on : (a b c : Option (List ℕ)) (old new : List ℕ) (at n : ℕ) → take at new ≡ take at old → Consumes a b (take at old) → Consumes b c (take n (drop at new))
    → Consumes a c (take (at + n) new)
read_on a b c old new at n front before read =
    subst (Consumes a c) (ap (λ bytes. bytes ++ take n (drop at new)) (sym front) ∙ sym (take-add at n new)) (Consumes-trans a b c _ _ before read)
