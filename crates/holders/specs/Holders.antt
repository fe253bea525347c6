-- The non-memory registers of each class, and after the last class all of them, as sets in words at rest; and a register that is found.
use Rattle.std.specs.Prelude.{◌≡◌, Bool, true, cond, not, ◌&&◌, List, [], ◌∷◌, ℕ, ◌+◌, ◌*◌, ◌≤◌, ◌<◌, eqb, length, get_or}
use Rattle.std.proofs.Math.Option.{Option, none, some}
use Rattle.laws.specs.Lists.{is_in}
use Rattle.bits.specs.Sets.{made, has}
use Rattle.bits.specs.declared.sets.NumberSet.{NumberSet}
use Rattle.entity.specs.Limits.{class_limit}
use Rattle.std.specs.Prelude.{Some, None}
use Rattle.std.specs.Prelude as Code
use Rattle.entity.specs.declared.numbers.PhysReg.{PhysReg}
use Rattle.rules.specs.Sheet.{Sheet, reg_count, class_row, is_memory}

-- register r is one of class c; after the last class stand all registers
unfoldable pub allows : Sheet → ℕ → ℕ → Bool
allows sh c r = cond (eqb c class_limit) true (is_in r (class_row sh c).members)

-- the set at place c of the words: four words each
abbrev pub set_at : List ℕ → ℕ → NumberSet
set_at classes c = made (get_or classes (c * 4) 0 ∷ get_or classes (c * 4 + 1) 0 ∷ get_or classes (c * 4 + 2) 0 ∷ get_or classes (c * 4 + 3) 0 ∷ [])

-- set s is put at place c, and the other places keep theirs
pub record Puts (a b : List ℕ) (c : ℕ) (s : NumberSet) : Type 0 where
  pub long : length b ≡ length a
  pub are : (d : ℕ) → set_at b d ≡ cond (eqb d c) s (set_at a d)

-- the words have the non-memory registers of each class, and of all
pub record Filled (sh : Sheet) (classes : List ℕ) : Type 0 where
  pub are : (c r : ℕ) → c ≤ class_limit → r < reg_count sh → has (set_at classes c) r ≡ (allows sh c r && not (is_memory sh r))

-- the words of no set
pub record Blank (classes : List ℕ) : Type 0 where
  pub long : 68 ≤ length classes
  pub zeros : (k : ℕ) → get_or classes k 0 ≡ 0

-- a number that may be absent, as the register that it names
unfoldable pub reg_found : Option ℕ → Code.Option PhysReg
reg_found none = None
reg_found (some r) = Some (record { 0 = r })
