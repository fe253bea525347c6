-- Refusals 4, 9, 10, 11 and 12 in the steps in which the code goes: sole predecessors, the lowest block that breaks a rule, and the blocks reached
-- as a set.
use Rattle.std.specs.Prelude.{◌≡◌, Bool, true, not, cond, ◌||◌, List, ℕ, ◌<◌, zero, suc, ◌↔◌, leb, length, Some, None, Ok, Err}
use Rattle.std.proofs.Math.Option.{Option, none, some}
use Rattle.laws.specs.{First.first, Lists.all, Lists.is_in}
use Rattle.bits.specs.Sets.{set_of, has}
use Rattle.bits.specs.declared.sets.NumberSet.{NumberSet}
use Rattle.entity.specs.declared.forms.Refusal.{Refusal}
use Rattle.std.specs.Prelude as Code
use Rattle.entity.specs.declared.numbers.Block.{Block}
use Rattle.rules.specs.Sheet.{Sheet, block_count, preds_of, succs_of}
use Rattle.rules.specs.Accept.{reached_in, is_reached, each_block, Reached}

-- what checks say
unfoldable pub as_checked : Option Refusal → Code.Result (Unit {0}) Refusal
as_checked none = Ok tt
as_checked (some r) = Err r

module _ (sh : Sheet) where
  unfoldable pub sole_preds : List ℕ → Bool
  sole_preds list = all (λ t. leb (length (preds_of sh t)) 1) list

  -- the lowest block that does not keep a rule
  unfoldable pub lowest_of : (ℕ → Bool) → Code.Option Block
  lowest_of f = first (λ b. Some (record { 0 = b })) None (λ b. not (f b)) 0 (block_count sh)

  -- the set with the successors of its blocks below b, of a block that joined it on the way too
  unfoldable pub grown : NumberSet → ℕ → NumberSet
  grown s zero = s
  grown s (suc b) = cond (has (grown s b) b) (set_of (λ k. has (grown s b) k || is_in k (succs_of sh b))) (grown s b)

  -- the entries, and n times the successors
  unfoldable pub reach_set : ℕ → NumberSet
  reach_set zero = set_of (λ k. is_in k (reached_in sh 0))
  reach_set (suc n) = grown (reach_set n) (block_count sh)

-- each block is reached exactly if as many steps as there are blocks reach each
abbrev pub ReachedBySteps : Type 0
ReachedBySteps = (sh : Sheet) → (each_block sh (is_reached sh) ≡ true) ↔ ((b : ℕ) → b < block_count sh → Reached sh b)
