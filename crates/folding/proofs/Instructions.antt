-- `fold_all`, `define_early` and `optimise_inst` of src/lib.rt: the folds of an instruction's rows, one after the other, and the instruction as a
-- whole (the rule `optimise_inst`). Assumes nothing.
use mathlib.Core.Path.{◌≡◌, refl, sym, ap, ◌∙◌}
use mathlib.Core.Bool.{Bool, true, false, not, ◌||◌}
use mathlib.Core.List.{List, [], ◌∷◌, ◌++◌, map, flat_map}
use Prim.Native.Nat.{ℕ, suc, ◌+◌, ◌-◌, ◌≤◌, ◌<◌}
use native.Mathlib.Omega.{arith}
use lib.Dec.{eqb}
use borrow.Author.Tests.{ltb-true, ne_eqb, not-true}
use Rattle.laws.specs.Fold.{run}
use Rattle.laws.specs.Lists.{all, any, keep, from}
use Rattle.laws.proofs.Cases.{by_bool, by_lt}
use Rattle.bits.specs.Sets.{has, set_limit}
use Rattle.bits.specs.declared.sets.NumberSet.{NumberSet}
use Rattle.bits.proofs.Members.{has_set_of, has_past}
use Rattle.entity.specs.Limits.{inst_limit, operand_limit, reuse_limit}
use Rattle.entity.specs.declared.forms.Constraint.{Constraint}
use Rattle.entity.specs.declared.forms.Constraint.TheVariants.{Class, Fixed, Reuse}
use Rattle.rules.specs.Sheet.{Sheet, OpRow, is_early}
use Rattle.rules.specs.Accept.{reuse_within, operands_at}
use Rattle.rules.specs.Record.{Record}
use Rattle.rules.specs.Forward.{Walk, early_defs, define_all, reused, indexed, fold}
use Rattle.rules.proofs.Refusals.{in_limits}
use Rattle.table.specs.Layout.{op_index}
use Rattle.table.specs.Sheet.{sheet_in}
use Rattle.table.specs.Index.{Ready, range_in}
use Rattle.table.specs.View.{op_row}
use Rattle.table.specs.declared.index.Range.{Range}
use Rattle.table.proofs.Loops.{and_left, and_right}
use Rattle.record.specs.declared.flat.WalkRecord.{WalkRecord}
use Rattle.holders.specs.Holders.{Filled}
use Rattle.moves.specs.Walks.{Walked}
use Rattle.moves.proofs.Walks.{walked_fewer}
use Rattle.folding.specs.declared.Told.{Told}
use Rattle.folding.specs.Folds.{reuses, may_fold, told, ops_in}
use Rattle.folding.proofs.Rows.{operands_are, indexed_are, row_at, few_rows}
use Rattle.folding.proofs.Telling.{map_more}
use Rattle.folding.proofs.Folding.{other_stays, fold_stays}

or_left_false : (a b : Bool) → (a || b) ≡ false → a ≡ false
or_left_false false b e = refl
or_left_false true b e = cc

or_right_false : (a b : Bool) → (a || b) ≡ false → b ≡ false
or_right_false false b e = e
or_right_false true b e = cc

-- ---- the operands that are reused

all_keep : {A : Type 0} (p q : A → Bool) (l : List A) → all p l ≡ true → all p (keep q l) ≡ true
unfolding keep
all_keep p q [] e = refl
all_keep p q (x ∷ l) e =
    let a = and_left (p x) (all p l) e in
    let b = all_keep p q l (and_right (p x) (all p l) e) in
    by_bool (q x) (λ h. rw (h, a, b)) (λ h. rw (h, b))

any_not : {A : Type 0} (p f : A → Bool) (l : List A) → ((x : A) → p x ≡ true → f x ≡ false) → all p l ≡ true → any f l ≡ false
any_not p f [] h e = refl
any_not p f (x ∷ l) h e = rw (h x (and_left (p x) (all p l) e), any_not p f l h (and_right (p x) (all p l) e))

reuse_small : (c : Constraint) (k : ℕ) → set_limit ≤ k → reuse_within c ≡ true → reuses k c ≡ false
unfolding reuse_within
reuse_small (Class x) k h e = refl
reuse_small (Fixed x) k h e = refl
reuse_small (Reuse x) k h e = ne_eqb x.0 k (λ q. omega (arith, ltb-true x.0 reuse_limit e))

module _ {t : List ℕ} (g : Ready t) (i : ℕ) {r : Range} (e : r ≡ range_in t op_index inst_limit i) where
  ops_here : operands_at (sheet_in t) i ≡ ops_in (sheet_in t) r
  ops_here = operands_are g i ∙ sym (ap (ops_in (sheet_in t)) e)

  indexed_here : indexed (sheet_in t) i ≡ map (λ n. (n - r.from, n, op_row (sheet_in t) n)) (from r.from (r.to - r.from))
  indexed_here = indexed_are g i ∙ sym (ap (λ (r : Range). map (λ n. (n - r.from, n, op_row (sheet_in t) n)) (from r.from (r.to - r.from))) e)

  none_past : (k : ℕ) → set_limit ≤ k → any (λ o. reuses k o.constraint) (operands_at (sheet_in t) i) ≡ false
  unfolding operands_at
  none_past k h =
      any_not (λ (o : OpRow). reuse_within o.constraint) (λ (o : OpRow). reuses k o.constraint) (keep (λ o. eqb o.at i) (sheet_in t).ops) (λ o q. reuse_small o.constraint k h q)
      (all_keep (λ (o : OpRow). reuse_within o.constraint) (λ o. eqb o.at i) (sheet_in t).ops (in_limits (sheet_in t) g.limits).small_reuses)

  -- what is told of reuses holds of every index
  tied_is : (n : ℕ) → r.from ≤ n → n < r.to → (k : ℕ) → has (told (sheet_in t) (ops_in (sheet_in t) r)).reused k ≡ reused (sheet_in t) (op_row (sheet_in t) n).at k
  unfolding told reused
  tied_is n a b k =
      let sh : Sheet = sheet_in t in
      let z : (op_row sh n).at ≡ i = row_at g i n (rw e at a) (rw e at b) in
      rw (z, ops_here)
      (by_lt k set_limit
      (λ h. has_set_of (λ k. any (λ o. reuses k o.constraint) (ops_in sh r)) k h)
      (λ h.
      has_past (λ k. any (λ o. reuses k o.constraint) (ops_in sh r)) k h
      ∙ sym (ap (any (λ o. reuses k o.constraint)) (sym ops_here) ∙ none_past k h)))

  rows_few : r.to - r.from ≤ operand_limit
  rows_few = rw e (few_rows g i)

-- ---- row after row

run_end : {S A : Type 0} (f : S → A → S) (s : S) (l : List A) (x : A) → run f s (l ++ (x ∷ [])) ≡ f (run f s l) x
unfolding run
run_end f s [] x = refl
run_end f s (y ∷ l) x = run_end f (f s y) l x

-- row n with its index from a on
abbrev row : List ℕ → ℕ → ℕ → ℕ × ℕ × OpRow
row t a n = (n - a, n, op_row (sheet_in t) n)

-- the walk once the rows before n are folded
abbrev after_rows : List ℕ → Walk → ℕ → ℕ → Walk
after_rows t w a n = run (fold (sheet_in t)) w (map (row t a) (from a (n - a)))

rows_next : (t : List ℕ) (w : Walk) (a n : ℕ) → a ≤ n → after_rows t w a (n + 1) ≡ fold (sheet_in t) (after_rows t w a n) (row t a n)
rows_next t w a n h =
    let m : n + 1 - a ≡ suc (n - a) = omega arith in
    let e : a + (n - a) ≡ n = omega arith in
    rw m (ap (run (fold (sheet_in t)) w) (map_more (row t a) a (n - a) ∙ rw e) ∙ run_end (fold (sheet_in t)) w (map (row t a) (from a (n - a))) (row t a n))

abbrev pub Passed : List ℕ → WalkRecord → List ℕ → List ℕ → List ℕ → List ℕ → List ℕ → NumberSet → Range → ℕ → Type 0
Passed t rec classes places counts places' counts' ties r n =
    Ready t → Filled (sheet_in t) classes → (i : ℕ) → r ≡ range_in t op_index inst_limit i → ties ≡ (told (sheet_in t) (ops_in (sheet_in t) r)).reused → (edits : List ℕ) (m b : ℕ) (w : Walk)
    → m + (n - r.from) ≡ b → Walked t rec edits places counts b w → Walked t rec edits places' counts' m (after_rows t w r.from n)

pub rows_none : (t : List ℕ) (rec : WalkRecord) (classes places counts : List ℕ) (ties : NumberSet) (r : Range) → Passed t rec classes places counts places counts ties r r.from
unfolding run from
rows_none t rec classes places counts ties r g f i e q edits m b w h x =
    let z : r.from - r.from ≡ 0 = omega arith in
    let y : b ≡ m = omega arith in
    rw (z, ← y) x

module _ {t : List ℕ} {rec : WalkRecord} {classes places counts places₁ counts₁ : List ℕ} {ties : NumberSet} {r : Range} {n : ℕ} (p : Passed t rec classes places counts places₁ counts₁ ties r n) where
  pub rows_on : {places₂ counts₂ : List ℕ} {k : ℕ} {tied : Bool} → k ≡ n - r.from → tied ≡ has ties k
      → (Ready t → Filled (sheet_in t) classes → (edits : List ℕ) (m k : ℕ) (w : Walk) → tied ≡ reused (sheet_in t) (op_row (sheet_in t) n).at k → Walked t rec edits places₁ counts₁ (m + 1) w
      → Walked t rec edits places₂ counts₂ m (fold (sheet_in t) w (k, n, op_row (sheet_in t) n)))
      → r.from ≤ n → n < r.to → Passed t rec classes places counts places₂ counts₂ ties r (n + 1)
  rows_on a b q h l g f i e s edits m c w z x =
      rw (rows_next t w r.from n h)
      (q g f edits m (n - r.from) (after_rows t w r.from n) (b ∙ rw (s, a) (tied_is g i e n h l (n - r.from))) (p g f i e s edits (m + 1) c w (omega arith) x))

  pub rows_end : r.from ≤ n → n - r.from ≤ r.to - r.from → r.to ≤ n → Ready t → Filled (sheet_in t) classes → (i : ℕ) → r ≡ range_in t op_index inst_limit i
      → (x : Told) → ties ≡ x.reused → x ≡ told (sheet_in t) (ops_in (sheet_in t) r) → (edits : List ℕ) (m : ℕ) (w : Walk) → Walked t rec edits places counts (m + operand_limit) w
      → Walked t rec edits places₁ counts₁ m (run (fold (sheet_in t)) w (indexed (sheet_in t) i))
  rows_end h u l g f i e x s q edits m w y =
      let z : n - r.from ≡ r.to - r.from = omega arith in
      let few = rows_few g i e in
      rw (indexed_here g i e, ← z)
      (walked_fewer m (omega arith) (p g f i e (s ∙ ap (λ (x : Told). x.reused) q) edits (m + operand_limit - (n - r.from)) (m + operand_limit) w (omega arith) y))

-- no row may be folded
stays_on : (t : List ℕ) (a : ℕ) (w : Walk) (ns : List ℕ) → any (may_fold (sheet_in t)) (map (op_row (sheet_in t)) ns) ≡ false → run (fold (sheet_in t)) w (map (row t a) ns) ≡ w
unfolding run
stays_on t a w [] e = refl
stays_on t a w (n ∷ ns) e =
    let sh : Sheet = sheet_in t in
    let o : OpRow = op_row sh n in
    ap (λ (u : Walk). run (fold sh) u (map (row t a) ns))
    (fold_stays sh w (n - a) n o (other_stays sh o (n - a) w.rec (or_left_false (may_fold sh o) (any (may_fold sh) (map (op_row sh) ns)) e)))
    ∙ stays_on t a w ns (or_right_false (may_fold sh o) (any (may_fold sh) (map (op_row sh) ns)) e)

pub rows_stay : {t : List ℕ} {rec : WalkRecord} {places counts : List ℕ} (classes : List ℕ) {r : Range} {x : Told} → not x.folds ≡ true → Ready t → Filled (sheet_in t) classes → (i : ℕ) → r ≡ range_in t op_index inst_limit i
    → x ≡ told (sheet_in t) (ops_in (sheet_in t) r) → (edits : List ℕ) (m : ℕ) (w : Walk) → Walked t rec edits places counts (m + operand_limit) w
    → Walked t rec edits places counts m (run (fold (sheet_in t)) w (indexed (sheet_in t) i))
unfolding told
rows_stay {t} classes {r} {x} h g f i e q edits m w y =
    let z : any (may_fold (sheet_in t)) (ops_in (sheet_in t) r) ≡ false = sym (ap (λ (x : Told). x.folds) q) ∙ not-true _ h in
    rw (indexed_here g i e, stays_on t r.from w (from r.from (r.to - r.from)) z) (walked_fewer m (omega arith) y)

-- ---- definitions before and after

-- no operand is an early definition
none_early : (sh : Sheet) (os : List OpRow) → any (λ o. is_early o.kind) os ≡ false → flat_map (early_defs sh) os ≡ []
unfolding flat_map
none_early sh [] e = refl
none_early sh (o ∷ os) e =
    let rest : Bool = any (λ o. is_early o.kind) os in
    rw (or_left_false (is_early o.kind) rest e, none_early sh os (or_right_false (is_early o.kind) rest e))

pub early_none : (sh : Sheet) (b : ℕ) (os : List OpRow) (s : Record) {x : Bool} → x ≡ false → x ≡ any (λ o. is_early o.kind) os → s ≡ define_all sh b (flat_map (early_defs sh) os) s
unfolding define_all run
early_none sh b os s h e = rw (none_early sh os (sym e ∙ h))

-- what is told of early definitions
pub early_told : {t : List ℕ} → Ready t → (i : ℕ) {r : Range} {x : Told} → r ≡ range_in t op_index inst_limit i → x ≡ told (sheet_in t) (ops_in (sheet_in t) r)
    → x.early ≡ any (λ (o : OpRow). is_early o.kind) (operands_at (sheet_in t) i)
unfolding told
early_told {t} g i {r} e q = ap (λ (x : Told). x.early) q ∙ ap (any (λ (o : OpRow). is_early o.kind)) (sym (ops_here g i e))
