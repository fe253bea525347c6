-- For `src/blocks.rt`: the lowest block that breaks a rule, and what the checks then say. Assumes nothing.
use mathlib.Core.Path.{◌≡◌, refl, sym, ap, ◌∙◌}
use mathlib.Core.Bool.{Bool, true, false, cond, not}
use mathlib.Core.List.{List, [], ◌∷◌, map}
use mathlib.Core.Option.{some}
use Prim.Native.Nat.{ℕ, zero, suc, ◌+◌, ◌≤◌, ◌<◌}
use native.Mathlib.Numerals.{add-one}
use native.Mathlib.Omega.{arith}
use borrow.Author.Tests.{not-true, not-false}
use Rattle.std.specs.List.{find, range_with_len}
use Rattle.std.specs.Option.{option_map}
use Rattle.std.proofs.Common.{Option, None, Some}
use Rattle.laws.specs.First.{first}
use Rattle.laws.specs.Lists.{all, from}
use Rattle.laws.proofs.Cases.{by_bool}
use Rattle.entity.specs.Limits.{block_limit}
use Rattle.entity.specs.declared.numbers.Block.{Block}
use Rattle.entity.specs.declared.forms.Refusal.{Refusal}
use Rattle.entity.specs.declared.forms.Refusal.TheVariants.{NoEntry, Empty, Disagree, Edges, NotSmaller, NotReached}
use Rattle.std.specs.Prelude.{Some, None, Ok, Err}
use Rattle.std.specs.Prelude as Code
use Rattle.rules.specs.Sheet.{Sheet, block_count}
use Rattle.rules.specs.Accept.{some_entry, filled, named_back, edges_hold, smaller_hold, is_reached, each_block, lowest_not, row_of}
use Rattle.rules.specs.Answer.{first_refusal, block_check, block_checks}
use Rattle.table.specs.Layout.{row_limit}
use Rattle.table.specs.Rows.{first_in, count_in}
use Rattle.table.specs.Sheet.{sheet_in}
use Rattle.table.specs.Index.{Ready}
use Rattle.table.proofs.Kindred.{begin_within}
use Rattle.rules.proofs.Refusals.{in_limits}
use Rattle.table.proofs.Sheets.{blocks_counted}
use Rattle.table.proofs.Sheets.{above_is}
use Rattle.accept.specs.Blocks.{as_checked, lowest_of}

-- ---- the walk

-- the first of i, i + 1, .., n of them, that breaks f
abbrev broken : (ℕ → Bool) → ℕ → ℕ → Code.Option Block
broken f i n = first (λ b. Some (record { 0 = b })) None (λ b. not (f b)) i n

-- what `find` gives over the blocks i, i + 1, .., n of them
module _ (f : ℕ → Bool) where
  abbrev pub breaks : Block → Bool
  breaks b = not (f b.0)

  find_broken : (i n : ℕ) → find breaks (map (λ n. record { 0 = n }) (range_with_len i n)) ≡ broken f i n
  unfolding first
  find_broken i zero = refl
  find_broken i (suc n) = by_bool (f i) (λ p. rw p (find_broken (i + 1) n ∙ ap (λ (j : ℕ). broken f j n) (add-one i))) (λ p. rw p)

same_option : {A : Type 0} (r : Option A) → option_map (λ x. x) r ≡ r
same_option None = refl
same_option (Some x) = refl

module _ (t : List ℕ) (f : ℕ → Bool) {n : ℕ} (q : n ≡ count_in t 6) (r : Option Block) (e : option_map (λ x. x) r ≡ find (breaks f) (map (λ n. record { 0 = n }) (range_with_len 0 n))) where
  pub low_is : r ≡ lowest_of (sheet_in t) f
  unfolding lowest_of
  low_is = sym (same_option r) ∙ e ∙ find_broken f 0 n ∙ ap (broken f 0) (blocks_counted t q)

-- ---- what was found

-- the number of a block that is found
abbrev number_in : Code.Option Block → ℕ
number_in (Some b) = b.0
number_in None = 0

at_not : {C : Type 0} {b : Block} {f : Code.Option Block} → f ≡ Some b → f ≡ None → C
at_not e f = let z : ◌≡◌ {A = ℕ} 0 1 = cc in absurd (omega arith)

module _ (f : ℕ → Bool) where
  -- none breaks the rule
  none_broken : (i n : ℕ) → broken f i n ≡ None → all f (from i n) ≡ true
  unfolding first from
  none_broken i zero e = refl
  none_broken i (suc n) e =
      by_bool (f i) (λ p. rw p (none_broken (suc i) n (rw p at e))) (λ p. let z : Some (record { 0 = i }) ≡ None = rw p at e in at_not refl z)

  all_kept : (i n : ℕ) → all f (from i n) ≡ true → broken f i n ≡ None
  unfolding first from
  all_kept i zero e = refl
  all_kept i (suc n) e =
      by_bool (f i) (λ p. rw p (all_kept (suc i) n (rw p at e))) (λ p. let z : false ≡ true = rw p at e in let q : ◌≡◌ {A = ℕ} 0 1 = cc in absurd (omega arith))

  -- one does: the first
  one_broken : (i n : ℕ) (b : ℕ) → broken f i n ≡ Some (record { 0 = b }) → (all f (from i n) ≡ false) × (first (λ b. b) 0 (λ b. not (f b)) i n ≡ b) × (b < i + n)
  unfolding first from
  one_broken i zero b e = at_not e refl
  one_broken i (suc n) b e =
      by_bool (f i)
      (λ p. let w = one_broken (suc i) n b (rw p at e) in rw p (w.0, w.1, omega (arith, w.2)))
      (λ p. let z : Some (record { 0 = i }) ≡ Some (record { 0 = b }) = rw p at e in let q : i ≡ b = ap number_in z in rw p (refl, q, omega arith))

first_same : (f g : ℕ → Bool) (i n : ℕ) → ((b : ℕ) → b < i + n → f b ≡ g b) → broken f i n ≡ broken g i n
unfolding first
first_same f g i zero h = refl
first_same f g i (suc n) h = rw (h i (omega arith), first_same f g (suc i) n (λ b l. h b (omega arith)))

pub lowest_same : (sh : Sheet) (f g : ℕ → Bool) → ((b : ℕ) → b < block_count sh → f b ≡ g b) → lowest_of sh f ≡ lowest_of sh g
unfolding lowest_of
lowest_same sh f g h = first_same f g 0 (block_count sh) (λ b l. h b (omega arith))

module _ (sh : Sheet) (f : ℕ → Bool) where
  pub lowest_none : lowest_of sh f ≡ None → each_block sh f ≡ true
  unfolding lowest_of each_block
  lowest_none e = none_broken f 0 (block_count sh) e

  pub lowest_all : each_block sh f ≡ true → lowest_of sh f ≡ None
  unfolding lowest_of each_block
  lowest_all e = all_kept f 0 (block_count sh) e

  lowest_some : (b : ℕ) → lowest_of sh f ≡ Some (record { 0 = b }) → (each_block sh f ≡ false) × (lowest_not sh f ≡ b) × (b < block_count sh)
  unfolding lowest_of each_block lowest_not
  lowest_some b e = let w = one_broken f 0 (block_count sh) b e in (w.0, w.1, omega (arith, w.2))

-- ---- what the checks say

module _ (t : List ℕ) where
  abbrev sh : Sheet
  sh = sheet_in t

  -- the checks before these are kept
  pub record Left (cs : List (Bool × Refusal)) : Type 0 where
    pub first_of : Ready t → first_refusal (block_checks sh) ≡ first_refusal cs

  abbrev pub after_entry : List (Bool × Refusal)
  after_entry =
      block_check sh (filled sh) Empty
      ∷ block_check sh (named_back sh) Disagree
      ∷ block_check sh (edges_hold sh) Edges
      ∷ block_check sh (smaller_hold sh) NotSmaller
      ∷ block_check sh (is_reached sh) NotReached
      ∷ []

  module _ {x : Bool} (e : Ready t → x ≡ some_entry sh) where
    pub entry_stop : not x ≡ true → Ready t → Err NoEntry ≡ as_checked (first_refusal (block_checks sh))
    unfolding block_checks first_refusal as_checked
    entry_stop n g = rw (sym (e g) ∙ not-true x n)

    pub entry_go : not x ≡ false → Left after_entry
    unfolding block_checks first_refusal
    entry_go n = record { first_of = λ g. rw (sym (e g) ∙ not-false x n) }

  module _ (k : ℕ → Bool) (r : ℕ → Refusal) {cs : List (Bool × Refusal)} (left : Left (block_check sh k r ∷ cs)) {f : Code.Option Block} (e : Ready t → f ≡ lowest_of sh k) where
    pub rule_go : f ≡ None → Left cs
    unfolding first_refusal block_check
    rule_go n = record { first_of = λ g. left.first_of g ∙ ap (λ (x : Bool). cond x (first_refusal cs) (some (r (row_of sh (lowest_not sh k))))) (lowest_none sh k (sym (e g) ∙ n)) }

    pub rule_stop : (b : ℕ) → f ≡ Some (record { 0 = b }) → {row : ℕ} → (Ready t → b < block_limit → row ≡ row_of sh b) → Ready t → Err (r row) ≡ as_checked (first_refusal (block_checks sh))
    unfolding first_refusal block_check as_checked
    rule_stop b n w g =
        let q = lowest_some sh k b (sym (e g) ∙ n) in
        rw (left.first_of g, q.0, q.1, w g (omega (arith, (in_limits sh g.limits).few_blocks, q.2)))

  pub all_held : Left [] → Ready t → Ok tt ≡ as_checked (first_refusal (block_checks sh))
  unfolding first_refusal as_checked
  all_held left g = rw (left.first_of g)

  -- the row of a block
  pub row_is : (n b : ℕ) → n ≡ first_in t 6 → n + b + 1 ≡ row_of sh b
  unfolding row_of
  row_is n b e = ap (λ (a : ℕ). a + b + 1) (e ∙ sym (above_is t))

  pub row_few : Ready t → first_in t 6 ≤ row_limit
  row_few g = omega (arith, begin_within g.held 6 (omega arith), g.held.held.few_rows)
