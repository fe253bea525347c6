-- The worklist: a word of slots for the end of each block, and a flag for each block that waits.
use Rattle.std.specs.Prelude.{◌≡◌, cond, List, ℕ, ◌-◌, ◌^◌, ◌≤◌, ◌<◌, eqb, length, get_or, set}
use Rattle.std.specs.Int.Bits.{bit_or}
use Rattle.laws.specs.{Digits.bit, Fold.run, Lists.is_in}
use Rattle.rules.specs.{Sheet.preds_of, Sweep.wanted_at}
use Rattle.rules.specs.Function.{Func, ops_of, next_of, In}
use Rattle.table.specs.{Sheet.sheet_in, Index.Ready}
use Rattle.dead_spill_elimination.specs.Slots.{block_back, Lows}

pub record State : Type 0 where
  pub live : List ℕ
  pub wait : List ℕ

-- v is joined to what is wanted at the end of block p; if that is more than before, the block waits
unfoldable pub give : ℕ → State → ℕ → State
give v st p =
    let x = get_or st.live p 0 in
    cond (eqb (bit_or x v) x) st (record { live = set st.live p (bit_or x v); wait = set st.wait p 1 })

unfoldable pub spread : List ℕ → ℕ → State → State
spread ps v st = run (give v) st ps

-- r is one more than the highest index that waits, or 0
pub record Highest (w : List ℕ) (r : ℕ) : Type 0 where
  pub within : r ≤ length w
  pub above : (k : ℕ) → r ≤ k → k < length w → get_or w k 0 ≡ 0
  pub waits : 0 < r → get_or w (r - 1) 0 ≡ 0 → ⊥

-- the word x has the members of A
abbrev pub Word : ℕ → List ℕ → Type 0
Word x A = (k : ℕ) → bit x k ≡ is_in k A

-- a turn at block b: it waits no more, and what is wanted at its start is handed to its predecessors
pub record Turned (t edits touched : List ℕ) (b : ℕ) (st st' : State) : Type 0 where
  pub start : ℕ
  pub preds : List ℕ
  pub word : start < 2 ^ 64
  pub same : Lows t edits → (A : List ℕ) → Word (get_or st.live b 0) A → Word start (block_back t edits touched b A)
  pub preds_are : Ready t → preds ≡ preds_of (sheet_in t) b
  pub gave : st' ≡ spread preds start (record { live = st.live; wait = set st.wait b 0 })

-- the table, the edits and the words of the instructions are those of a function f of n blocks
pub record Facts (t edits touched : List ℕ) (f : Func) (n : ℕ) : Type 0 where
  pub ready : Ready t
  pub lows : Lows t edits
  pub back : (b : ℕ) → b < n → (A : List ℕ) (k : ℕ) → is_in k (block_back t edits touched b A) ≡ is_in k (wanted_at (ops_of f b) A)
  pub preds_in : (b p : ℕ) → b < n → In p (preds_of (sheet_in t) b) → (p < n) × In b (next_of f p)
  pub succs_in : (p b : ℕ) → In b (next_of f p) → (b < n) × In p (preds_of (sheet_in t) b)
