-- The states of the blocks in their flat table: a flag for each block, and then `known_size` numbers for each that there is room for.
use Rattle.std.specs.Prelude.{◌≡◌, Bool, false, cond, not, ◌&&◌, List, [], ◌∷◌, map, ℕ, ◌+◌, ◌≤◌, ◌<◌, eqb, ltb, leb, length, get_or, set}
use Rattle.std.proofs.Math.Option.{Option, none, some}
use Rattle.laws.specs.Lists.{is_in, from}
use Rattle.entity.specs.Limits.{block_limit, reg_limit, slot_limit}
use Rattle.bits.specs.Sets.{has, set_limit}
use Rattle.bits.specs.declared.sets.NumberSet.{NumberSet}
use Rattle.rules.specs.Sheet.{Sheet}
use Rattle.rules.specs.Record.{Record, Known, nothing, absent}
use Rattle.rules.specs.Forward.{Handed, meet, same_known}
use Rattle.record.specs.Flat.{section}
use Rattle.states.specs.Layout.{state_at}

-- the table has room for the states of the first n blocks
pub record Roomy (n : ℕ) (states : List ℕ) : Type 0 where
  pub few : n ≤ block_limit
  pub long : state_at n ≤ length states

-- it has room for block b's state
unfoldable pub fits : List ℕ → ℕ → Bool
fits states b = ltb b block_limit && leb (state_at (b + 1)) (length states)

-- the numbers at `at`: what is known of each register, then of each slot
abbrev pub known_at : List ℕ → ℕ → Known
known_at l at = record { held = section l at reg_limit; stored = section l (at + reg_limit) slot_limit }

-- block b's state is set
unfoldable pub is_set : List ℕ → ℕ → Bool
is_set states b = fits states b && eqb (get_or states b 0) 1

-- the state of block b, and the states of the first n blocks
unfoldable pub state_in : List ℕ → ℕ → Option Known
state_in states b = cond (is_set states b) (some (known_at states (state_at b))) none

unfoldable pub states_in : List ℕ → ℕ → List (Option Known)
states_in states n = map (state_in states) (from 0 n)

-- block b's state becomes k, and no other changes
pub record Sets (states states' : List ℕ) (b : ℕ) (k : Known) : Type 0 where
  pub long : length states' ≡ length states
  pub are : (n : ℕ) → Roomy n states → states_in states' n ≡ set (states_in states n) b (some k)

-- v as it is handed to block b, the sole successor or one of several
abbrev pub handed_in : Record → Bool → ℕ → ℕ → ℕ
handed_in s sole b v = cond (sole && leb b (get_or s.blocks.defined v absent)) absent v

-- the sole successor, as a list
abbrev pub sole_in : Bool → ℕ → List ℕ
sole_in sole b = cond sole (b ∷ []) []

-- what is handed to the first n blocks lies in the table, and the blocks that wait are the set's
pub record Lies (n : ℕ) (states : List ℕ) (waiting : NumberSet) (h : Handed) : Type 0 where
  pub room : Roomy n states
  pub are : states_in states n ≡ h.states
  pub wait : (b : ℕ) → b < set_limit → has waiting b ≡ is_in b h.waiting
  pub below : (b : ℕ) → n ≤ b → is_in b h.waiting ≡ false

-- there is room for n blocks, and no state is set
pub record Unset (n : ℕ) (states : List ℕ) : Type 0 where
  pub room : Roomy n states
  pub none : (b : ℕ) → is_set states b ≡ false

-- of the first n blocks those below i are set, to nothing known, at which f is true
pub record Started (f : ℕ → Bool) (n : ℕ) (states : List ℕ) (i : ℕ) : Type 0 where
  pub room : Roomy n states
  pub are : (b : ℕ) → b < n → state_in states b ≡ cond (ltb b i && f b) (some nothing) none

-- the members of the set are the numbers below i at which f is true
abbrev pub Waits : (ℕ → Bool) → NumberSet → ℕ → Type 0
Waits f w i = (b : ℕ) → b < set_limit → has w b ≡ (ltb b i && f b)

-- what is left of block b's state: what the record knows too
abbrev pub met_in : Sheet → Record → List ℕ → ℕ → Known
met_in sh s states b = meet sh (known_at states (state_at b)) s.known

-- block b's state loses what the record does not know; r tells if something went
pub record Meets (sh : Sheet) (s : Record) (states states' : List ℕ) (b : ℕ) (r : Bool) : Type 0 where
  pub sets : Sets states states' b (met_in sh s states b)
  pub went : r ≡ not (same_known sh (known_at states (state_at b)) (met_in sh s states b))
