-- For `func_of` of rules/specs/Function.antt, on rows: the function of the swept rows is the swept function.
use mathlib.Core.Path.{◌≡◌, refl, sym, ◌∙◌, ap}
use mathlib.Core.List.{List, [], ◌∷◌, map, flat_map}
use Prim.Native.Nat.{ℕ, suc, ◌+◌, ◌≤◌}
use native.Mathlib.Omega.{arith}
use lib.ListN.{length, drop, length-map, get_or-eq_default}
use Rattle.laws.specs.Lists.{from}
use Rattle.laws.proofs.Cases.{by_lt}
use Rattle.laws.proofs.Lists.{from_long}
use Rattle.entity.specs.declared.forms.Place.{Place}
use Rattle.entity.specs.declared.forms.Edit.{Edit}
use Rattle.rules.specs.Sheet.{Sheet, BlockRow, block_count, insts_from}
use Rattle.rules.specs.Function.{ops_of, Item, row, ins, items, inst_of, look, func_of}
use Rattle.rules.specs.Sweep.{kept}
use Rattle.run.specs.Swept.{SweptOps, end, then, Swept, stands, SweptRows}
use Rattle.run.proofs.Lists.{drop_next, map_from}

length_insts : (sh : Sheet) (i : ℕ) (bs : List BlockRow) → length (insts_from sh i bs) ≡ length bs
unfolding insts_from
length_insts sh i [] = refl
length_insts sh i (b ∷ bs) = ap (λ x. suc x) (length_insts sh (i + b.instructions) bs)

-- a block that is not there has nothing in it
pub items_none : (sh : Sheet) (b : ℕ) → block_count sh ≤ b → items sh b ≡ []
unfolding items flat_map
items_none sh b h =
    let n : length (insts_from sh 0 sh.blocks) ≤ b = omega (arith, length_insts sh 0 sh.blocks) in
    rw (get_or-eq_default (insts_from sh 0 sh.blocks) [] n)

pub ops_look : (sh : Sheet) (places : List Place) (es : List Edit) (b : ℕ) → ops_of (func_of sh places es) b ≡ map (look sh places es) (items sh b)
unfolding func_of
ops_look sh places es b =
    by_lt b (block_count sh)
    (λ h. let e : 0 + b ≡ b = omega arith in rw e at (map_from (λ c. map (look sh places es) (items sh c)) [] 0 (block_count sh) b h))
    (λ h.
    let n : length (map (λ c. map (look sh places es) (items sh c)) (from 0 (block_count sh))) ≤ b = simp (length-map, from_long) h in
    get_or-eq_default (map (λ c. map (look sh places es) (items sh c)) (from 0 (block_count sh))) [] n ∙ sym (ap (map (look sh places es)) (items_none sh b h)))

module _ (sh : Sheet) (places : List Place) (es es' : List Edit) (z : SweptRows sh places es es') where
  items_swept : (b : ℕ) (l : List Item) (i : ℕ) → drop i (items sh b) ≡ l → SweptOps (func_of sh places es) b i (map (look sh places es) l) (map (look sh places es') l)
  unfolding look inst_of
  items_swept b [] i q = end
  items_swept b (row j ∷ l) i q = then (z b i j (stands q)) (items_swept b l (suc i) (drop_next (items sh b) i (row j) l q))
  items_swept b (ins k ∷ l) i q = then (kept (λ s x. absurd x) refl) (items_swept b l (suc i) (drop_next (items sh b) i (ins k) l q))

  same_many : length (func_of sh places es').blocks ≡ length (func_of sh places es).blocks
  unfolding func_of
  same_many = simp length-map

  same_succs : (func_of sh places es').succs ≡ (func_of sh places es).succs
  unfolding func_of
  same_succs = refl

  pub rows_swept : Swept (func_of sh places es) (func_of sh places es')
  rows_swept =
      record {
        many = same_many;
        blocks = λ b. rw (ops_look sh places es b, ops_look sh places es' b) (items_swept b (items sh b) 0 refl);
        succs = same_succs;
      }
