-- For `items` of rules/specs/Function.antt: each edit row stands at one position of one block.
--     RowIn j l        row j is in l
--     Fresh l          no row is twice in l
--     rows_in, items_in, blocks_in          where a row is, by its instruction
--     in_rows, in_items, in_blocks          and it is there
use mathlib.Core.Path.{◌≡◌, refl, sym, ◌∙◌, ap}
use mathlib.Core.Logic.{◌⊎◌, inl, inr, ⊎_elim, ◌↔◌}
use mathlib.Core.Bool.{Bool, true, false, cond, ◌&&◌}
use mathlib.Core.List.{List, [], ◌∷◌, ◌++◌, map, flat_map, zip, zip_with}
use Prim.Native.Nat.{ℕ, zero, suc, ◌+◌, ◌≤◌, ◌<◌}
use native.Mathlib.Omega.{arith}
use lib.Dec.{eqb}
use lib.ListN.{length, get_or, drop}
use lib.Seq.{drop-nil}
use borrow.Author.Tests.{eqb-true, eq-eqb, ltb-true}
use Rattle.laws.specs.Lists.{all, keep, from}
use Rattle.laws.proofs.Cases.{by_lt, and_parts}
use Rattle.rules.specs.Sheet.{Sheet, BlockRow, EditRow, total_of, insts_from, inst_count}
use Rattle.rules.specs.Accept.{inst_exists, edit_names}
use Rattle.rules.specs.Forward.{edits_at}
use Rattle.rules.specs.Function.{Item, row, ins, items, In}
use Rattle.rules.proofs.Refusals.{all_named_lem, each_named}
use Rattle.run.specs.Swept.{Stands, stands}
use Rattle.run.specs.Theorem.{StandOnce}

-- ---- rows in a list of items

-- the instruction that row j of the edits is at
abbrev pub instruction_of : Sheet → ℕ → ℕ
instruction_of sh j = get_or (map (λ e. e.at) sh.edits) j 0

abbrev pub RowIn : ℕ → List Item → Type 0
RowIn j [] = ⊥
RowIn j (x ∷ l) = (x ≡ row j) ⊎ RowIn j l

abbrev pub Fresh : List Item → Type 0
Fresh [] = Unit {0}
Fresh (x ∷ l) = ((j : ℕ) → x ≡ row j → RowIn j l → ⊥) × Fresh l

pub no_cons : {A : Type 0} (x : Item) (r : List Item) → [] ≡ x ∷ r → A
no_cons x r q = let z : ◌≡◌ {A = ℕ} 0 1 = cc in absurd (omega arith)

pub drop_in : (j : ℕ) (l : List Item) (i : ℕ) (r : List Item) → drop i l ≡ row j ∷ r → RowIn j l
drop_in j [] i r q = no_cons (row j) r (sym (drop-nil i) ∙ q)
drop_in j (x ∷ l) zero r q = inl (cc)
drop_in j (x ∷ l) (suc i) r q = inr (drop_in j l i r q)

pub in_drop : (j : ℕ) (l : List Item) → RowIn j l → (i : ℕ) × (r : List Item) × (drop i l ≡ row j ∷ r)
in_drop j [] h = absurd h
in_drop j (x ∷ l) h = ⊎_elim (λ e. (0, l, ap (λ y. y ∷ l) e)) (λ y. let w = in_drop j l y in (suc w.0, w.1, w.2)) h

pub in_append : (j : ℕ) (l m : List Item) → RowIn j (l ++ m) → RowIn j l ⊎ RowIn j m
in_append j [] m h = inr h
in_append j (x ∷ l) m h = ⊎_elim (λ e. inl (inl e)) (λ y. ⊎_elim (λ a. inl (inr a)) inr (in_append j l m y)) h

pub in_left : (j : ℕ) (l m : List Item) → RowIn j l → RowIn j (l ++ m)
in_left j [] m h = absurd h
in_left j (x ∷ l) m h = ⊎_elim inl (λ y. inr (in_left j l m y)) h

pub in_right : (j : ℕ) (l m : List Item) → RowIn j m → RowIn j (l ++ m)
in_right j [] m h = h
in_right j (x ∷ l) m h = inr (in_right j l m h)

fresh_append : (l m : List Item) → Fresh l → Fresh m → ((j : ℕ) → RowIn j l → RowIn j m → ⊥) → Fresh (l ++ m)
fresh_append [] m a b n = b
fresh_append (x ∷ l) m a b n =
    (λ j e h. ⊎_elim (λ y. a.0 j e y) (λ y. n j (inl e) y) (in_append j l m h), fresh_append l m a.1 b (λ j h. n j (inr h)))

same_place_lem : (j : ℕ) (l : List Item) → Fresh l → (i i' : ℕ) (r r' : List Item) → drop i l ≡ row j ∷ r → drop i' l ≡ row j ∷ r' → i ≡ i'
same_place_lem j [] a i i' r r' q q' = no_cons (row j) r (sym (drop-nil i) ∙ q)
same_place_lem j (x ∷ l) a zero zero r r' q q' = refl
same_place_lem j (x ∷ l) a zero (suc i') r r' q q' = absurd (a.0 j (cc) (drop_in j l i' r' q'))
same_place_lem j (x ∷ l) a (suc i) zero r r' q q' = absurd (a.0 j (cc) (drop_in j l i r q))
same_place_lem j (x ∷ l) a (suc i) (suc i') r r' q q' = ap (λ n. suc n) (same_place_lem j l a.1 i i' r r' q q')

pub in_map : (j : ℕ) (js : List ℕ) → RowIn j (map row js) ↔ In j js
in_map j [] = (λ h. h, λ h. h)
in_map j (x ∷ js) = let ih = in_map j js in (⊎_elim (λ e. inl (cc)) (λ y. inr (ih.0 y)), ⊎_elim (λ e. inl (cc)) (λ y. inr (ih.1 y)))

-- ---- the rows at an instruction

-- the numbers of the rows at instruction k, of those from row j₀ on
abbrev rows_at : ℕ → ℕ → List EditRow → List ℕ
rows_at k j₀ l = map (λ (je : ℕ × EditRow). je.0) (keep (λ (je : ℕ × EditRow). eqb je.1.at k) (zip (from j₀ (length l)) l))

-- row j is the one of number m from here on, and is at instruction k
abbrev Found : ℕ → List EditRow → ℕ → ℕ → Type 0
Found k l j₀ j = (m : ℕ) × (j ≡ j₀ + m) × (get_or (map (λ e. e.at) l) m 0 ≡ k) × (m < length l)

-- the first of the rows, and the others, as the test of the first says
abbrev first_or : ℕ → ℕ → EditRow → List EditRow → Bool → List ℕ
first_or k j₀ a l c =
    let others : List (ℕ × EditRow) = keep (λ (je : ℕ × EditRow). eqb je.1.at k) (zip (from (suc j₀) (length l)) l) in
    map (λ (je : ℕ × EditRow). je.0) (cond c ((j₀, a) ∷ others) others)

rows_in : (k : ℕ) (l : List EditRow) (j₀ j : ℕ) → In j (rows_at k j₀ l) → Found k l j₀ j
unfolding zip zip_with from keep
rows_in k [] j₀ j h = absurd h
rows_in k (a ∷ l) j₀ j h = go (eqb a.at k) (eqb-true a.at k) (λ y. further (rows_in k l (suc j₀) j y)) h
  where
    further : Found k l (suc j₀) j → Found k (a ∷ l) j₀ j
    further w = (suc w.0, omega arith, w.2, omega arith)

    go : (c : Bool) → (c ≡ true → a.at ≡ k) → (In j (rows_at k (suc j₀) l) → Found k (a ∷ l) j₀ j) → In j (first_or k j₀ a l c) → Found k (a ∷ l) j₀ j
    go true e f h = ⊎_elim (λ q. (0, omega arith, e refl, omega arith)) f h
    go false e f h = f h

in_rows : (k : ℕ) (l : List EditRow) (j₀ j m : ℕ) → j ≡ j₀ + m → get_or (map (λ e. e.at) l) m 0 ≡ k → m < length l → In j (rows_at k j₀ l)
unfolding zip zip_with from keep
in_rows k [] j₀ j m q e h = absurd (omega arith)
in_rows k (a ∷ l) j₀ j zero q e h = let t = eq-eqb a.at k e in rw t (inl (omega arith))
in_rows k (a ∷ l) j₀ j (suc m) q e h = go (eqb a.at k) (in_rows k l (suc j₀) j m (omega arith) e (omega arith))
  where
    go : (c : Bool) → In j (rows_at k (suc j₀) l) → In j (first_or k j₀ a l c)
    go true y = inr y
    go false y = y

rows_fresh : (k : ℕ) (l : List EditRow) (j₀ : ℕ) → Fresh (map row (rows_at k j₀ l))
unfolding zip zip_with from keep
rows_fresh k [] j₀ = tt
rows_fresh k (a ∷ l) j₀ = go (eqb a.at k) (rows_fresh k l (suc j₀))
  where
    go : (c : Bool) → Fresh (map row (rows_at k (suc j₀) l)) → Fresh (map row (first_or k j₀ a l c))
    go true f = (λ j e h. let p : j₀ ≡ j = cc in omega (arith, (rows_in k l (suc j₀) j ((in_map j (rows_at k (suc j₀) l)).0 h)).1), f)
    go false f = f

module _ (sh : Sheet) where
  at_rows : (k : ℕ) → Fresh (map row (edits_at sh k))
  unfolding edits_at
  at_rows k = rows_fresh k sh.edits 0

  pub here : (k j : ℕ) → RowIn j (map row (edits_at sh k)) → (instruction_of sh j ≡ k) × (j < length sh.edits)
  unfolding edits_at
  here k j h =
      let w = rows_in k sh.edits 0 j ((in_map j (rows_at k 0 sh.edits)).0 h) in
      let p : j ≡ w.0 = omega arith in
      rw p (w.2, w.3)

  in_here : (j : ℕ) → j < length sh.edits → RowIn j (map row (edits_at sh (instruction_of sh j)))
  unfolding edits_at
  in_here j l = (in_map j (rows_at (instruction_of sh j) 0 sh.edits)).1 (in_rows (instruction_of sh j) sh.edits 0 j j (omega arith) refl l)

  -- ---- the rows of some instructions

  -- what stands at instruction k, and what stands there in a block
  abbrev items_at : ℕ → List Item
  items_at k = map row (edits_at sh k) ++ (ins k ∷ [])

  abbrev items_of : List ℕ → List Item
  items_of is = flat_map (λ i. map row (edits_at sh i) ++ (ins i ∷ [])) is

  at_in : (k j : ℕ) → RowIn j (items_at k) → RowIn j (map row (edits_at sh k))
  at_in k j h =
      ⊎_elim (λ y. y) (⊎_elim (λ q. let z : ◌≡◌ {A = ℕ} 0 1 = cc in absurd (omega arith)) (λ y. absurd y))
      (in_append j (map row (edits_at sh k)) (ins k ∷ []) h)

  at_fresh : (k : ℕ) → Fresh (items_at k)
  at_fresh k =
      fresh_append (map row (edits_at sh k)) (ins k ∷ []) (at_rows k) (λ j q h. absurd h, tt)
      (λ j y. ⊎_elim (λ q. let z : ◌≡◌ {A = ℕ} 0 1 = cc in absurd (omega arith)) (λ h. absurd h))

  pub items_in : (n k j : ℕ) → RowIn j (items_of (from k n)) → (k ≤ instruction_of sh j) × (instruction_of sh j < k + n) × (j < length sh.edits)
  unfolding flat_map from
  items_in zero k j h = absurd h
  items_in (suc n) k j h =
      ⊎_elim (λ y. let w = here k j (at_in k j y) in (omega arith, omega arith, w.1)) (λ y. let w = items_in n (suc k) j y in (omega arith, omega arith, w.2))
      (in_append j (items_at k) (items_of (from (suc k) n)) h)

  items_fresh : (n k : ℕ) → Fresh (items_of (from k n))
  unfolding flat_map from
  items_fresh zero k = tt
  items_fresh (suc n) k =
      fresh_append (items_at k) (items_of (from (suc k) n)) (at_fresh k) (items_fresh n (suc k))
      (λ j y h. omega (arith, (here k j (at_in k j y)).0, (items_in n (suc k) j h).0))

  in_items : (n k j : ℕ) → j < length sh.edits → k ≤ instruction_of sh j → instruction_of sh j < k + n → RowIn j (items_of (from k n))
  unfolding flat_map from
  in_items zero k j l a b = absurd (omega arith)
  in_items (suc n) k j l a b =
      by_lt k (instruction_of sh j)
      (λ y. in_right j (items_at k) (items_of (from (suc k) n)) (in_items n (suc k) j l y (omega arith)))
      (λ y.
      let q : instruction_of sh j ≡ k = omega arith in
      in_left j (items_at k) (items_of (from (suc k) n)) (in_left j (map row (edits_at sh k)) (ins k ∷ []) (rw q at (in_here j l))))

  -- ---- the rows of the blocks

  abbrev block_from : ℕ → List BlockRow → ℕ → List Item
  block_from k bs b = items_of (get_or (insts_from sh k bs) b [])

  blocks_in : (bs : List BlockRow) (k b j : ℕ) → RowIn j (block_from k bs b) → k ≤ instruction_of sh j
  unfolding flat_map insts_from
  blocks_in [] k b j h = absurd h
  blocks_in (r ∷ bs) k zero j h = (items_in r.instructions k j h).0
  blocks_in (r ∷ bs) k (suc b) j h = omega (arith, blocks_in bs (k + r.instructions) b j h)

  from_block : (bs : List BlockRow) (k b b' j : ℕ) → RowIn j (block_from k bs b) → RowIn j (block_from k bs b') → b ≡ b'
  unfolding flat_map insts_from
  from_block [] k b b' j h h' = absurd h
  from_block (r ∷ bs) k zero zero j h h' = refl
  from_block (r ∷ bs) k zero (suc b') j h h' = absurd (omega (arith, (items_in r.instructions k j h).1, blocks_in bs (k + r.instructions) b' j h'))
  from_block (r ∷ bs) k (suc b) zero j h h' = absurd (omega (arith, (items_in r.instructions k j h').1, blocks_in bs (k + r.instructions) b j h))
  from_block (r ∷ bs) k (suc b) (suc b') j h h' = ap (λ x. suc x) (from_block bs (k + r.instructions) b b' j h h')

  from_fresh : (bs : List BlockRow) (k b : ℕ) → Fresh (block_from k bs b)
  unfolding flat_map insts_from
  from_fresh [] k b = tt
  from_fresh (r ∷ bs) k zero = items_fresh r.instructions k
  from_fresh (r ∷ bs) k (suc b) = from_fresh bs (k + r.instructions) b

  in_blocks : (bs : List BlockRow) (k j : ℕ) → j < length sh.edits → k ≤ instruction_of sh j → instruction_of sh j < k + total_of bs → (b : ℕ) × RowIn j (block_from k bs b)
  unfolding flat_map insts_from total_of
  in_blocks [] k j l a b = absurd (omega arith)
  in_blocks (r ∷ bs) k j l a b =
      by_lt (instruction_of sh j) (k + r.instructions)
      (λ y. (0, in_items r.instructions k j l a y))
      (λ y. let w = in_blocks bs (k + r.instructions) j l y (omega arith) in (suc w.0, w.1))

  pub same_block : (b b' j : ℕ) → RowIn j (items sh b) → RowIn j (items sh b') → b ≡ b'
  unfolding items
  same_block b b' j = from_block sh.blocks 0 b b' j

  pub block_fresh : (b : ℕ) → Fresh (items sh b)
  unfolding items
  block_fresh b = from_fresh sh.blocks 0 b

  in_block : (j : ℕ) → j < length sh.edits → instruction_of sh j < total_of sh.blocks → (b : ℕ) × RowIn j (items sh b)
  unfolding items
  in_block j l h = in_blocks sh.blocks 0 j l (omega arith) (omega arith)

  only : (j b i b' i' : ℕ) → Stands sh b i j → Stands sh b' i' j → (b ≡ b') × (i ≡ i')
  only j b i b' i' (stands {l = r} q) (stands {l = r'} q') =
      let e = same_block b b' j (drop_in j (items sh b) i r q) (drop_in j (items sh b') i' r' q') in
      (e, same_place_lem j (items sh b) (block_fresh b) i i' r r' q (rw e q'))

-- the instruction of an edit row exists
all_exist : (sh : Sheet) (es : List EditRow) → all (λ x. inst_exists sh x.at && edit_names sh x.edit) es ≡ true → (j : ℕ) → j < length es
    → get_or (map (λ x. x.at) es) j 0 < inst_count sh
all_exist sh [] e j l = absurd (omega arith)
all_exist sh (x ∷ es) e zero l = ltb-true x.at (inst_count sh) (and_parts (inst_exists sh x.at) (edit_names sh x.edit) (and_parts _ _ e).0).0
all_exist sh (x ∷ es) e (suc j) l = all_exist sh es (and_parts (inst_exists sh x.at && edit_names sh x.edit) _ e).1 j (omega arith)

pub stand_once : StandOnce
stand_once sh e j l =
    let w = in_block sh j l (all_exist sh sh.edits (each_named sh (all_named_lem sh e)).edits j l) in
    let d = in_drop j (items sh w.0) w.1 in
    (w.0, d.0, (stands d.2, λ b' i' x. only sh j w.0 d.0 b' i' (stands d.2) x))
