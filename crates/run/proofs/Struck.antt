-- For `strike_blocks` of rules/specs/Sweep.antt: what is computed on rows is the sweep of the rows: each row is struck once, and by what is wanted after it.
use mathlib.Core.Path.{◌≡◌, refl, sym, ◌∙◌, ap}
use mathlib.Core.Logic.{◌↔◌, inl, inr}
use mathlib.Core.Bool.{Bool, true, false, cond}
use mathlib.Core.List.{List, [], ◌∷◌, map}
use Prim.Native.Nat.{ℕ, zero, suc, ◌+◌, ◌≤◌, ◌<◌}
use native.Mathlib.Omega.{arith}
use lib.ListN.{length, get_or, drop, length-set, length-map, get_or-eq_default}
use lib.Seq.{drop-nil, get_or-set_same, get_or-set_other}
use Rattle.laws.specs.Fold.{run}
use Rattle.laws.specs.Lists.{from, is_in}
use Rattle.laws.proofs.Cases.{by_lt, by_eq}
use Rattle.laws.proofs.Lists.{from_long}
use Rattle.entity.specs.declared.forms.Place.{Place}
use Rattle.entity.specs.declared.forms.Edit.{Edit}
use Rattle.entity.specs.declared.forms.Edit.TheVariants.{Nothing}
use Rattle.rules.specs.Sheet.{Sheet, block_count}
use Rattle.rules.specs.Function.{edit, Func, Item, row, ins, items, look, func_of, Left, Target, into, over, target}
use Rattle.rules.specs.Sweep.{Into, Wanted, SweptOp, removed, kept, wanted_at, strike_by, strike, strike_items, strike_blocks, sweep}
use Rattle.run.specs.Swept.{Stands, stands}
use Rattle.run.specs.Theorem.{WantedComputed, ComputedRows, OthersStay, SweepIs}
use Rattle.run.proofs.Lists.{drop_next}
use Rattle.run.proofs.Sets.{is_in_lem}
use Rattle.run.proofs.Back.{wanted_at_lem}
use Rattle.run.proofs.Settle.{agreement}
use Rattle.run.proofs.Rows.{items_none, ops_look}
use Rattle.run.proofs.Stand.{RowIn, Fresh, no_cons, drop_in, in_drop, same_block, block_fresh}

-- ---- one edit

-- an edit into slot d is kept where the test holds
struck : (f : Func) (b i : ℕ) (e : Edit) (d : ℕ) (c : Bool) → ((s : ℕ) → Into (target (edit e)) s ↔ (s ≡ d)) → (c ≡ true) ↔ Wanted f b (suc i) d → SweptOp f b i (edit e) (edit (cond c e Nothing))
struck f b i e d true t h = kept (λ s x. rw ((t s).0 x) (h.0 refl)) refl
struck f b i e d false t h = removed d ((t d).1 refl) (λ w. let y = h.1 w in let z : ◌≡◌ {A = ℕ} 0 1 = cc in absurd (omega arith)) refl

edit_swept : (f : Func) (b i : ℕ) (e : Edit) (B : List ℕ) → ((s : ℕ) → (is_in s B ≡ true) ↔ Wanted f b (suc i) s) → SweptOp f b i (edit e) (edit (strike e B))
unfolding strike strike_by
edit_swept f b i e B h = go (target (edit e)) (λ s. (λ x. x, λ x. x))
  where
    go : (t : Target) → ((s : ℕ) → Into (target (edit e)) s ↔ Into t s) → SweptOp f b i (edit e) (edit (strike_by t e B))
    go (into d) q = struck f b i e d (is_in d B) q (h d)
    go (over ds) q = kept (λ s x. absurd ((q s).0 x)) refl

pub wanted_computed : WantedComputed
wanted_computed f A ends b i os l s =
    let e = is_in_lem s (wanted_at os (get_or A b [])) in
    let w =
    wanted_at_lem f (get_or A b []) b
    (λ x. let y = is_in_lem x (get_or A b []) in (λ h. (ends b x).0 (y.1 h), λ h. y.0 ((ends b x).1 h)))
    os i l s in
    (λ h. w.0 (e.0 h), λ h. e.1 (w.1 h))

-- ---- rows struck in turn

drop_map : {A B : Type 0} (g : A → B) (n : ℕ) (l : List A) → drop n (map g l) ≡ map g (drop n l)
drop_map g zero l = refl
drop_map g (suc n) [] = refl
drop_map g (suc n) (x ∷ l) = drop_map g n l

module _ (sh : Sheet) (places : List Place) (es : List Edit) where
  pub items_length : (l : List Item) (A : List ℕ) (c : List Edit) → length (strike_items sh places es l A c) ≡ length c
  unfolding strike_items
  items_length [] A c = refl
  items_length (row j ∷ l) A c = length-set (strike_items sh places es l A c) j _ ∙ items_length l A c
  items_length (ins k ∷ l) A c = items_length l A c

  module _ (A : List (List ℕ)) where
    -- block b is struck
    abbrev turn : List Edit → ℕ → List Edit
    turn now b = strike_items sh places es (items sh b) (get_or A b []) now

    blocks_length : (n k : ℕ) (c : List Edit) → length (run turn c (from k n)) ≡ length c
    unfolding run from
    blocks_length zero k c = refl
    blocks_length (suc n) k c = blocks_length n (suc k) (turn c k) ∙ items_length (items sh k) (get_or A k []) c

  module _ (j : ℕ) where
    -- a row that is not in the block is as it was
    pub items_other : (l : List Item) (A : List ℕ) (c : List Edit) → (RowIn j l → ⊥) → get_or (strike_items sh places es l A c) j Nothing ≡ get_or c j Nothing
    unfolding strike_items
    items_other [] A c n = refl
    items_other (row k ∷ l) A c n =
        get_or-set_other (strike_items sh places es l A c) k j _ Nothing (λ q. n (inl (ap row (sym q)))) ∙ items_other l A c (λ y. n (inr y))
    items_other (ins k ∷ l) A c n = items_other l A c (λ y. n (inr y))

    -- and one that is there is struck by what is wanted after it
    items_here : (l : List Item) (i : ℕ) (r : List Item) (A : List ℕ) (c : List Edit) → drop i l ≡ row j ∷ r → Fresh l → j < length c → get_or (strike_items sh places es l A c) j Nothing ≡ strike (get_or es j Nothing) (wanted_at (map (look sh places es) r) A)
    unfolding strike_items
    items_here [] i r A c q n h = no_cons (row j) r (sym (drop-nil i) ∙ q)
    items_here (row k ∷ l) zero r A c q n h =
        let e : k ≡ j = cc in
        let e' : l ≡ r = cc in
        rw (e, e') (get_or-set_same (strike_items sh places es r A c) j _ Nothing (rw (items_length r A c) h))
    items_here (ins k ∷ l) zero r A c q n h = let z : ◌≡◌ {A = ℕ} 0 1 = cc in absurd (omega arith)
    items_here (row k ∷ l) (suc i) r A c q n h =
        get_or-set_other (strike_items sh places es l A c) k j _ Nothing (λ e. n.0 j (ap row (sym e)) (drop_in j l i r q)) ∙ items_here l i r A c q n.1 h
    items_here (ins k ∷ l) (suc i) r A c q n h = items_here l i r A c q n.1 h

    module _ (A : List (List ℕ)) where
      blocks_other : (n k : ℕ) (c : List Edit) → ((b : ℕ) → k ≤ b → RowIn j (items sh b) → ⊥) → get_or (run (turn A) c (from k n)) j Nothing ≡ get_or c j Nothing
      unfolding run from
      blocks_other zero k c h = refl
      blocks_other (suc n) k c h =
          blocks_other n (suc k) (turn A c k) (λ b l. h b (omega arith)) ∙ items_other (items sh k) (get_or A k []) c (h k (omega arith))

      blocks_here : (n k b i : ℕ) (r : List Item) (c : List Edit) → k ≤ b → b < k + n → drop i (items sh b) ≡ row j ∷ r → j < length c → get_or (run (turn A) c (from k n)) j Nothing ≡ strike (get_or es j Nothing) (wanted_at (map (look sh places es) r) (get_or A b []))
      unfolding run from
      blocks_here zero k b i r c l h q u = absurd (omega arith)
      blocks_here (suc n) k b i r c l h q u =
          by_eq b k
          (λ e.
          let q' : drop i (items sh k) ≡ row j ∷ r = rw e at q in
          rw e (
          blocks_other n (suc k) (turn A c k) (λ b' m y. omega (arith, same_block sh b' k j y (drop_in j (items sh k) i r q')))
          ∙ items_here (items sh k) i r (get_or A k []) c q' (block_fresh sh k) u
          ))
          (λ e. blocks_here n (suc k) b i r (turn A c k) (omega arith) (omega arith) q (rw (items_length (items sh k) (get_or A k []) c) u))

  pub strike_length : (A : List (List ℕ)) → length (strike_blocks sh places es A) ≡ length es
  unfolding strike_blocks
  strike_length A = blocks_length A (block_count sh) 0 es

  strike_other : (A : List (List ℕ)) (j : ℕ) → ((b i : ℕ) → Stands sh b i j → ⊥) → get_or (strike_blocks sh places es A) j Nothing ≡ get_or es j Nothing
  unfolding strike_blocks
  strike_other A j n = blocks_other j A (block_count sh) 0 es (λ b l y. let w = in_drop j (items sh b) y in n b w.0 (stands w.2))

  strike_here : (A : List (List ℕ)) (b i j : ℕ) (r : List Item) → drop i (items sh b) ≡ row j ∷ r → j < length es → get_or (strike_blocks sh places es A) j Nothing ≡ strike (get_or es j Nothing) (wanted_at (map (look sh places es) r) (get_or A b []))
  unfolding strike_blocks
  strike_here A b i j r q u =
      by_lt b (block_count sh) (λ l. blocks_here j A (block_count sh) 0 b i r es (omega arith) (omega arith) q u)
      (λ l. no_cons (row j) r (sym (drop-nil i) ∙ ap (drop i) (sym (items_none sh b l)) ∙ q))

pub others_stay : OthersStay
others_stay sh places es A = (strike_length sh places es A, strike_other sh places es A)

pub computed_rows : ComputedRows
computed_rows sh places es A ends b i j (stands {l = r} q) =
    let f = func_of sh places es in
    let g = look sh places es in
    let l : Left f b (suc i) (map g r) = ap (drop (suc i)) (ops_look sh places es b) ∙ drop_map g (suc i) (items sh b) ∙ ap (map g) (drop_next (items sh b) i (row j) r q) in
    by_lt j (length es)
    (λ u.
    rw (strike_here sh places es A b i j r q u)
    (edit_swept f b i (get_or es j Nothing) (wanted_at (map g r) (get_or A b [])) (wanted_computed f A ends b (suc i) (map g r) l)))
    (λ u.
    let n = get_or-eq_default es Nothing u in
    let u' : length (strike_blocks sh places es A) ≤ j = omega (arith, strike_length sh places es A) in
    let n' = get_or-eq_default (strike_blocks sh places es A) Nothing u' in
    rw (n, n') (kept (λ s x. absurd x) refl))

pub func_many : (sh : Sheet) (places : List Place) (es : List Edit) → length (func_of sh places es).succs ≤ length (func_of sh places es).blocks
unfolding func_of
func_many sh places es = simp (length-map, from_long) (omega arith)

pub sweep_is : SweepIs
unfolding sweep
sweep_is sh w within =
    computed_rows sh w.places w.edits _ (agreement (func_of sh w.places w.edits) (func_many sh w.places w.edits) within)
