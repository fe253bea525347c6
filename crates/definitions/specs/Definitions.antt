-- What a pass over the operands of an instruction takes: "In the optimising walk, early definitions come first, then folding, then the others; the
-- preparing walk of `Global` .. takes operands in row order." And the units that an instruction itself defines, as a set.
use Rattle.std.specs.Prelude.{◌≡◌, Bool, true, false, ◌||◌, ℕ, ◌<◌}
use mathlib.Core.List.{List, flat_map}
use Rattle.laws.specs.Lists.{is_in}
use Rattle.bits.specs.Sets.{has, set_limit}
use Rattle.bits.specs.declared.sets.NumberSet.{NumberSet}
use Rattle.entity.specs.declared.forms.Place.{Place, TheVariants.Reg}
use Rattle.rules.specs.{Sheet.Sheet, Sheet.OpRow, Accept.operands_at}
use Rattle.rules.specs.Forward.{early_defs, other_defs, all_defs, place_units}
use Rattle.definitions.specs.declared.Pass.{Pass, TheVariants.Early, TheVariants.Other, TheVariants.All}

unfoldable pub taken : Sheet → Pass → OpRow → List (ℕ × Place)
taken sh Early o = early_defs sh o
taken sh Other o = other_defs sh o
taken sh All o = all_defs sh o

-- a pass takes early definitions, and the others
unfoldable pub takes_early : Pass → Bool
takes_early Early = true
takes_early Other = false
takes_early All = true

unfoldable pub takes_other : Pass → Bool
takes_other Early = false
takes_other Other = true
takes_other All = true

-- value v at register q
abbrev pub at_reg : ℕ → ℕ → ℕ × Place
at_reg v q = (v, Reg (record { 0 = q }))

module _ (sh : Sheet) where
  -- the units of the places at which values are defined
  abbrev pub units_at : List (ℕ × Place) → List ℕ
  units_at ds = flat_map (λ d. place_units sh d.1) ds

  -- those that instruction i itself defines
  abbrev pub own_units : ℕ → List ℕ
  own_units i = flat_map (λ o. units_at (all_defs sh o)) (operands_at sh i)

-- s' has the members of s, and these; s has just these
pub record With (s : NumberSet) (us : List ℕ) (s' : NumberSet) : Type 0 where
  pub each : (k : ℕ) → k < set_limit → has s' k ≡ (has s k || is_in k us)

pub record Only (s : NumberSet) (us : List ℕ) : Type 0 where
  pub each : (k : ℕ) → k < set_limit → has s k ≡ is_in k us
