-- For `inst_total` of `src/limits.rt`: the instructions of all blocks, summed block by block up to the limit. For `heads_apart` of `src/names.rt`: groups
-- whose heads stand apart, group by group. Assumes nothing.
use mathlib.Core.Path.{◌≡◌, ◌∙◌}
use mathlib.Core.Bool.{Bool, true, not, cond}
use mathlib.Core.List.{List}
use Prim.Native.Nat.{ℕ, zero, suc, ◌+◌, ◌≤◌, ◌<◌}
use native.Mathlib.Numerals.{add-one}
use native.Mathlib.Omega.{arith}
use lib.Dec.{leb}
use lib.ListN.{length, get_or, drop, drop_of_length-le}
use lib.Seq.{drop-cons}
use borrow.Author.Tests.{le-leb, lt-leb}
use Rattle.laws.specs.Lists.{all, any, from}
use Rattle.laws.proofs.Cases.{by_bool}
use Rattle.entity.specs.Limits.{inst_limit}
use Rattle.rules.specs.Sheet.{BlockRow, GroupRow, total_of}
use Rattle.rules.specs.Accept.{headed_by, heads_apart}

module _ (l : List BlockRow) (i : ℕ) where
  pub total_step : (d : BlockRow) → i < length l → total_of (drop i l) ≡ (get_or l i d).instructions + total_of (drop (i + 1) l)
  unfolding total_of
  total_step d h = rw (drop-cons l i d h, add-one)

  pub total_end : length l ≤ i → total_of (drop i l) ≡ 0
  unfolding total_of
  total_end h = rw (drop_of_length-le l h)

-- a sum, or one more than the limit where it passes it
abbrev pub capped : ℕ → ℕ
capped n = cond (leb n inst_limit) n (inst_limit + 1)

pub is_capped : (n : ℕ) {r : ℕ} → r ≡ n → r ≤ inst_limit → r ≡ capped n
is_capped n e h = rw (le-leb n inst_limit (omega arith)) e

pub over_capped : (n : ℕ) → inst_limit < n → inst_limit + 1 ≡ capped n
over_capped n h = rw (lt-leb n inst_limit h)

pub capped_test : (n : ℕ) → leb (capped n) inst_limit ≡ leb n inst_limit
capped_test n = by_bool (leb n inst_limit) (λ p. rw (p, p)) (λ p. rw p (lt-leb (inst_limit + 1) inst_limit (omega arith)))

pub capped_is : (n : ℕ) {r : ℕ} → r ≡ capped n → leb n inst_limit ≡ true → r ≡ n
capped_is n e p = e ∙ rw p

-- ---- heads

-- heads stand apart, group by group
module _ (d : GroupRow) (l : List GroupRow) where
  abbrev pub apart : ℕ → Bool
  apart i = not (any (headed_by (get_or l i d).class (get_or (get_or l i d).regs 0 0)) (drop (i + 1) l))

  heads_on : (n i : ℕ) → n + i ≡ length l → all apart (from i n) ≡ heads_apart (drop i l)
  unfolding from heads_apart
  heads_on zero i h = rw (drop_of_length-le l {i = i} (omega arith))
  heads_on (suc n) i h = rw (drop-cons l i d (omega arith), heads_on n (suc i) (omega arith), add-one)

  pub heads_by : all apart (from 0 (length l)) ≡ heads_apart l
  heads_by = heads_on (length l) 0 (omega arith)
