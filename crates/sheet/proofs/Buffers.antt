-- For the loops of src/lexing.rt and src/kinds.rt: a table that is filled from the front of each of its sections, and the sections' lists, a row more at a time. Assumes nothing.
use mathlib.Core.Path.{◌≡◌, refl}
use mathlib.Core.List.{List, [], ◌∷◌, ◌++◌, append_assoc, append-nil}
use Prim.Native.Nat.{ℕ, zero, suc, ◌+◌, ◌<◌, ◌≤◌}
use native.Mathlib.Numerals.{add-one}
use native.Mathlib.Omega.{arith}
use lib.ListN.{length, get_or, take, drop, set, length-drop}
use lib.Seq.{take-suc-set, drop-set-add}
use Rattle.table.specs.Table.{flatten, offsets}

-- ---- filling

-- one store more, just past what is written
pub take_store : (t : List ℕ) (n a : ℕ) → n < length t → take (n + 1) (set t n a) ≡ take n t ++ (a ∷ [])
take_store t n a h = rw add-one (take-suc-set t n a h)

-- the same in the section that starts at b
pub section_store : (t : List ℕ) (b j a : ℕ) → b + j < length t → take (j + 1) (drop b (set t (b + j) a)) ≡ take j (drop b t) ++ (a ∷ [])
section_store t b j a h = rw drop-set-add (take_store (drop b t) j a (rw length-drop (omega arith)))

-- ---- the cells, and the starts

pub flatten_more : (rs : List (List ℕ)) (r : List ℕ) → flatten (rs ++ (r ∷ [])) ≡ flatten rs ++ r
unfolding flatten
flatten_more [] r = append-nil r
flatten_more (x ∷ rs) r = rw (flatten_more rs r, append_assoc)

pub offsets_kept : (rs : List (List ℕ)) (a : ℕ) (r : List ℕ) (i : ℕ) → i ≤ length rs → get_or (offsets a (rs ++ (r ∷ []))) i 0 ≡ get_or (offsets a rs) i 0
unfolding offsets
offsets_kept [] a r zero h = refl
offsets_kept [] a r (suc i) h = absurd (omega arith)
offsets_kept (x ∷ rs) a r zero h = refl
offsets_kept (x ∷ rs) a r (suc i) h = offsets_kept rs (a + length x) r i (omega arith)
