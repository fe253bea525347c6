-- For `before_edits`, `before_inst` and `before_block` of src/wanted.rt: what is wanted before an edit, an instruction and a block, where the code has looked up its rows.
-- Assumes nothing.
use mathlib.Core.Path.{◌≡◌, subst}
use mathlib.Core.List.{List, ◌++◌}
use Prim.Native.Nat.{ℕ, ◌+◌, ◌-◌, ◌*◌, ◌^◌, ◌≤◌, ◌<◌}
use lib.Bits.{bit_and, bit_or}
use lib.ListN.{get_or}
use Rattle.bits.specs.declared.sets.NumberSet.{NumberSet}
use Rattle.entity.specs.Limits.{block_limit, inst_limit}
use Rattle.entity.specs.declared.forms.Edit.{Edit}
use Rattle.rules.specs.Function.{edit, In}
use Rattle.rules.specs.Sweep.{without_all, wanted_before}
use Rattle.table.specs.Layout.{edit_index, inst_index}
use Rattle.table.specs.Edits.{edit_in}
use Rattle.table.specs.Index.{range_in}
use Rattle.table.specs.declared.index.Range.{Range}
use Rattle.dead_spill_elimination.specs.Slots.{Same, LowReads, numbers, back, list_of, edits_back, inst_back, step_back, block_back, Lows}
use Rattle.dead_spill_elimination.specs.Worklist.{Word}
use Rattle.dead_spill_elimination.proofs.Down.{Going, going_done}
use Rattle.dead_spill_elimination.proofs.Tell.{inst_word}

pub edit_step : (S S' : NumberSet) (A : List ℕ) {e e' : Edit} → e ≡ e' → (LowReads (edit e) → Same S A → Same S' (wanted_before (edit e) A)) → LowReads (edit e') → Same S A → Same S' (wanted_before (edit e') A)
edit_step S S' A q f = subst (λ (x : Edit). LowReads (edit x) → Same S A → Same S' (wanted_before (edit x) A)) q f

pub inst_step : (S T : NumberSet) (touched : List ℕ) (i : ℕ) (A : List ℕ) {d u w : ℕ} → d ≡ get_or touched (i * 2) 0 → u ≡ get_or touched (i * 2 + 1) 0
    → ((A : List ℕ) → Same S A → Word w A) → ((A : List ℕ) → Word (bit_or (bit_and w ((2 ^ 64 - 1) - d)) u) A → Same T A) → w < 2 ^ 64 → d < 2 ^ 64 → u < 2 ^ 64 → Same S A → Same T (inst_back touched i A)
unfolding inst_back
inst_step S T touched i A {d} {u} {w} qd qu f g hw hd hu h =
    subst (λ (x : ℕ). Same T (list_of (get_or touched (i * 2 + 1) 0) ++ without_all (list_of x) A)) qd
    (subst (λ (x : ℕ). Same T (list_of x ++ without_all (list_of d) A)) qu (g (list_of u ++ without_all (list_of d) A) (inst_word w d u A hw hd hu (f A h))))

module _ (t edits touched : List ℕ) where
  -- one instruction with its edits
  pub block_step : (S T U : NumberSet) (i : ℕ) (A : List ℕ) {r : Range} → r ≡ range_in t edit_index inst_limit i
      → (Same S A → Same T (inst_back touched i A))
      → ((B : List ℕ) → ((j : ℕ) → In j (numbers r) → LowReads (edit (edit_in edits j))) → Same T B → Same U (edits_back edits (numbers r) B))
      → Lows t edits → Same S A → Same U (step_back t edits touched i A)
  unfolding step_back
  block_step S T U i A q f g l h =
      subst (λ (r : Range). ((j : ℕ) → In j (numbers r) → LowReads (edit (edit_in edits j))) → Same U (edits_back edits (numbers r) (inst_back touched i A))) q
      (λ low. g (inst_back touched i A) low (f h)) (l i)

  pub block_done : (S₀ S : NumberSet) (b n : ℕ) {r : Range} → r ≡ range_in t inst_index block_limit b → Going (Lows t edits) (step_back t edits touched) r S₀ S n → n ≤ r.from
      → (A : List ℕ) → Lows t edits → Same S₀ A → Same S (block_back t edits touched b A)
  unfolding block_back
  block_done S₀ S b n {r} q g h A l x =
      subst (λ (r : Range). Same S (back (step_back t edits touched) (numbers r) A)) q (going_done (Lows t edits) (step_back t edits touched) r S₀ S n g h A l x)
