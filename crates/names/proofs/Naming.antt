-- For `home_named` and `idom_named` of `src/names.rt`: what one row names, by what the code reads off it. Assumes nothing.
use mathlib.Core.Path.{◌≡◌, refl, sym, ◌∙◌}
use mathlib.Core.Bool.{Bool, true}
use mathlib.Core.Option.{Option, none, some, Option-elim}
use Prim.Native.Nat.{ℕ}
use Rattle.entity.specs.declared.numbers.SpillSlot.{SpillSlot}
use Rattle.entity.specs.declared.numbers.Block.{Block}
use Rattle.std.specs.Prelude.{Some, None}
use Rattle.std.specs.Prelude as Code
use Rattle.table.specs.View.{slot_found, block_found}

-- a home slot or an idom that is there, and one that is not
module _ (f : ℕ → Bool) where
  pub slot_there : (o : Option ℕ) {r : Code.Option SpillSlot} {s : SpillSlot} → r ≡ slot_found o → r ≡ Some s → f s.0 ≡ Option-elim o true f
  unfolding slot_found Option-elim
  slot_there none p q = let z : None ≡ Some _ = sym p ∙ q in cc
  slot_there (some x) p q = cc

  pub slot_absent : (o : Option ℕ) {r : Code.Option SpillSlot} → r ≡ slot_found o → r ≡ None → true ≡ Option-elim o true f
  unfolding slot_found Option-elim
  slot_absent none p q = refl
  slot_absent (some x) p q = cc

  pub block_there : (o : Option ℕ) {r : Code.Option Block} {b : Block} → r ≡ block_found o → r ≡ Some b → f b.0 ≡ Option-elim o true f
  unfolding block_found Option-elim
  block_there none p q = cc
  block_there (some x) p q = cc

  pub block_absent : (o : Option ℕ) {r : Code.Option Block} → r ≡ block_found o → r ≡ None → true ≡ Option-elim o true f
  unfolding block_found Option-elim
  block_absent none p q = refl
  block_absent (some x) p q = cc
