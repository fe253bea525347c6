-- For `src/blocks.rt`: what the code's answers say of the blocks: entries, predecessor and successor lists that agree, idoms.
-- What an entry reaches is left to `Reaching`. Assumes nothing.
use mathlib.Core.Path.{◌≡◌, refl, sym, ap, ◌∙◌}
use mathlib.Core.Bool.{Bool, true, false, ◌&&◌}
use mathlib.Core.List.{List, [], ◌∷◌}
use mathlib.Core.Option.{none, Option-elim}
use Prim.Native.Nat.{ℕ}
use lib.Dec.{ltb}
use Rattle.laws.specs.Lists.{all, any, is_in, from}
use Rattle.rules.specs.Sheet.{Sheet, BlockRow, block_row, succs_of, preds_of}
use Rattle.rules.specs.Accept.{is_entry, blocks_from0, some_entry, named_back, idom_smaller}
use Rattle.table.specs.Rows.{count_in}
use Rattle.table.specs.Sheet.{sheet_in}
use Rattle.std.specs.List.{range_with_len}
use Rattle.table.proofs.Loops.{any_numbers}
use Rattle.accept.proofs.Ranges.{range_from}
use Rattle.table.proofs.Sheets.{blocks_counted}
use Rattle.std.specs.Prelude.{Some, None}
use Rattle.std.specs.Prelude as Code
use Rattle.entity.specs.declared.numbers.Block.{Block}
use Rattle.table.specs.View.{block_found}
use Rattle.graph.specs.Graph.{chosen}
use Rattle.graph.specs.declared.Direction.TheVariants.{Successors, Predecessors}
use Rattle.graph.proofs.Dominance.{found, lost}

pub all_and : {A : Type 0} (f g : A → Bool) (l : List A) → all (λ x. f x && g x) l ≡ (all f l && all g l)
all_and f g [] = refl
all_and f g (x ∷ l) = rw (all_and f g l) (four (f x) (g x) (all f l) (all g l))
  where
    four : (a b c d : Bool) → (a && b && (c && d)) ≡ (a && c && (b && d))
    four true true c d = refl
    four true false true d = refl
    four true false false d = refl
    four false b c d = refl

-- ---- by block

pub blocks_all : (t : List ℕ) (f : ℕ → Bool) {n : ℕ} → n ≡ count_in t 6 → all f (range_with_len 0 n) ≡ all f (blocks_from0 (sheet_in t))
blocks_all t f {n} e = ap (all f) (range_from 0 n ∙ ap (from 0) (blocks_counted t e))

pub some_blocks : (t : List ℕ) {n : ℕ} → n ≡ count_in t 6 → any (is_entry (sheet_in t)) (range_with_len 0 n) ≡ some_entry (sheet_in t)
unfolding some_entry
some_blocks t {n} e =
    ap (any (is_entry (sheet_in t))) (range_from 0 n ∙ ap (from 0) (blocks_counted t e))
    ∙ sym (any_numbers (λ (b : BlockRow). b.entry) (record { instructions = 0; idom = none; entry = false }) (sheet_in t).blocks)

-- ---- one block, by the code's answers

module _ {H : Type 0} (sh : Sheet) (b : ℕ) where
  module _ {s : List ℕ} {x : Bool} (e : H → x ≡ all (λ y. is_in b (chosen Predecessors (succs_of sh y) (preds_of sh y))) s) (l : H → s ≡ succs_of sh b) where
    pub named_stop : x ≡ false → H → x ≡ named_back sh b
    unfolding named_back chosen
    named_stop n g = let z = sym (ap (all (λ y. is_in b (preds_of sh y))) (l g)) ∙ sym (e g) ∙ n in rw z n

    pub named_go : x ≡ true → {p : List ℕ} {y : Bool} → (H → y ≡ all (λ y. is_in b (chosen Successors (succs_of sh y) (preds_of sh y))) p) → (H → p ≡ preds_of sh b) → H → y ≡ named_back sh b
    unfolding named_back chosen
    named_go n f m g = let z = sym (ap (all (λ y. is_in b (preds_of sh y))) (l g)) ∙ sym (e g) ∙ n in rw z (f g ∙ ap (all (λ y. is_in b (succs_of sh y))) (m g))

  module _ {f : Code.Option Block} (e : f ≡ block_found (block_row sh b).idom) where
    pub idom_none : f ≡ None → H → true ≡ idom_smaller sh b
    unfolding idom_smaller Option-elim
    idom_none q g = rw (lost (block_row sh b).idom (sym q ∙ e))

    pub idom_some : (i : ℕ) → f ≡ Some (record { 0 = i }) → H → ltb i b ≡ idom_smaller sh b
    unfolding idom_smaller Option-elim
    idom_some i q g = rw (found (block_row sh b).idom i (sym q ∙ e))
