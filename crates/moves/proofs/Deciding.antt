-- What `decide` of src/lib.rt and its parts tell is what the rules of an edit in rules/specs/Forward.antt say. Assumes nothing.
--     no_source, memory_source, kept_source   the register that takes the place of a source
--     found_reg, found_none                   what becomes of a move or remat, by the register that is found
--     fate_small                              a register that is found is small
use mathlib.Core.Path.{◌≡◌, refl, sym, ◌∙◌}
use mathlib.Core.Bool.{Bool, true, false, not, ◌&&◌, ◌||◌}
use mathlib.Core.Option.{Option, none, some, Option-elim}
use Prim.Native.Nat.{ℕ, ◌<◌}
use native.Mathlib.Omega.{arith}
use Rattle.laws.proofs.Cases.{by_bool}
use Rattle.laws.proofs.First.{first_found}
use Rattle.entity.specs.Limits.{class_limit}
use Rattle.entity.specs.declared.numbers.PhysReg.{PhysReg}
use Rattle.entity.specs.declared.forms.Place.{Place}
use Rattle.std.specs.Prelude.{Some, None}
use Rattle.std.specs.Prelude as Code
use Rattle.rules.specs.Sheet.{Sheet, reg_count, is_memory}
use Rattle.rules.specs.Accept.{within_limits}
use Rattle.rules.specs.Record.{Record, holds}
use Rattle.rules.specs.Forward.{in_memory, lowest_holding, already, spilled_above, new_source}
use Rattle.rules.proofs.Refusals.{in_limits}
use Rattle.holders.specs.Holders.{allows, reg_found}
use Rattle.moves.specs.Moves.{source_of, fate_by, source_for, fate_of, SmallFate}
use Rattle.moves.specs.declared.Arrival.{Arrival}
use Rattle.moves.specs.declared.Fate.TheVariants.{Kept, Sourced}

-- ---- the register that takes the place of a source

module _ (sh : Sheet) (v : ℕ) (s : Record) {p : Code.Option Place} where
  pub no_source : p ≡ Code.None → None ≡ reg_found (source_for sh (source_of p) v s)
  unfolding reg_found source_of Option-elim
  no_source f = rw f

  module _ {q : Place} (f : p ≡ Code.Some q) {x : Bool} (m : x ≡ in_memory sh q) where
    pub memory_source : {r : Code.Option PhysReg} → x ≡ true → r ≡ reg_found (lowest_holding sh (allows sh class_limit) v s) → r ≡ reg_found (source_for sh (source_of p) v s)
    unfolding source_of Option-elim new_source allows
    memory_source h e = rw (f, sym m ∙ h) e

    pub kept_source : x ≡ false → None ≡ reg_found (source_for sh (source_of p) v s)
    unfolding reg_found source_of Option-elim new_source
    kept_source h = rw (f, sym m ∙ h)

-- ---- what becomes of a move or remat

pub found_reg : (o : Option ℕ) {f : Code.Option PhysReg} {r : PhysReg} → f ≡ reg_found o → f ≡ Some r → Sourced r ≡ fate_by o
unfolding reg_found fate_by
found_reg none e q = cc
found_reg (some n) e q = cc

pub found_none : (o : Option ℕ) {f : Code.Option PhysReg} → f ≡ reg_found o → f ≡ None → Kept ≡ fate_by o
unfolding reg_found fate_by
found_none none e q = refl
found_none (some n) e q = cc

-- ---- a register that is found is small

lowest_below : (sh : Sheet) (f : ℕ → Bool) (v r : ℕ) (s : Record) → lowest_holding sh f v s ≡ some r → r < reg_count sh
unfolding lowest_holding
lowest_below sh f v r s e = omega (arith, (first_found (λ k. f k && not (is_memory sh k) && holds s k v) 0 (reg_count sh) r e).below)

source_below : (sh : Sheet) (p : Option Place) (v r : ℕ) (s : Record) → source_for sh p v s ≡ some r → r < reg_count sh
unfolding Option-elim new_source
source_below sh none v r s e = let z : ◌≡◌ {A = ℕ} 0 1 = cc in absurd (omega arith)
source_below sh (some q) v r s e =
    by_bool (in_memory sh q) (λ m. lowest_below sh (λ k. true) v r s (rw m at e))
    (λ m. let n : none ≡ some r = rw m at e in let z : ◌≡◌ {A = ℕ} 0 1 = cc in absurd (omega arith))

by_source : (sh : Sheet) → within_limits sh ≡ true → (o : Option ℕ) → ((r : ℕ) → o ≡ some r → r < reg_count sh) → SmallFate (fate_by o)
unfolding fate_by
by_source sh w none h = tt
by_source sh w (some r) h = omega (arith, h r refl, (in_limits sh w).few_regs)

pub fate_small : (sh : Sheet) (b : ℕ) (a : Arrival) (s : Record) → within_limits sh ≡ true → SmallFate (fate_of sh b a s)
unfolding fate_of
fate_small sh b a s w =
    by_bool (already sh a.to a.value.0 s || spilled_above sh b a.to a.value.0 s)
    (λ p. rw p tt)
    (λ p. rw p (by_source sh w (source_for sh (source_of a.from) a.value.0 s) (λ r. source_below sh (source_of a.from) a.value.0 r s)))
