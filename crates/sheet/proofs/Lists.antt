-- Lists at a cursor, for the loops of src/ that read bytes or cells one by one: what stands from i on. Passes on what laws says of it. Assumes nothing.
use mathlib.Core.Path.{◌≡◌}
use mathlib.Core.List.{List}
use Prim.Native.Nat.{ℕ, ◌-◌}
use lib.ListN.{length, take, drop, length-drop}
use native.Mathlib.Nat.{le_of_eq}
use lib.Seq.{take_all}
pub use Rattle.laws.proofs.Lists.{drop_step, drop_end}

-- `&s[i..]` is what stands from i on
pub part_rest : (s : List ℕ) (i : ℕ) → take (length s - i) (drop i s) ≡ drop i s
part_rest s i = take_all _ _ (le_of_eq (length-drop i s))
