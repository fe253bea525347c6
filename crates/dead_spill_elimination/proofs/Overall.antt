-- For `strike_all` of src/sweep.rt: all blocks are struck, from the first to the last. Assumes nothing.
--     At h marks counts b     those before b are struck
--     all_first, all_next, all_done     the loop over them
use mathlib.Core.Path.{◌≡◌, refl, sym, ◌∙◌, ap, subst}
use mathlib.Core.Logic.{⊎_elim}
use mathlib.Core.List.{List, [], ◌∷◌, ◌++◌, map, flat_map, zip}
use Prim.Native.Nat.{ℕ, suc, ◌+◌, ◌-◌, ◌≤◌, ◌<◌}
use native.Mathlib.Numerals.{add-one}
use native.Mathlib.Omega.{arith}
use lib.ListN.{length, get_or}
use Rattle.laws.specs.Digits.{bit}
use Rattle.laws.specs.Fold.{run}
use Rattle.laws.specs.Lists.{from}
use Rattle.bits.specs.declared.sets.NumberSet.{NumberSet}
use Rattle.entity.specs.declared.forms.Edit.{Edit}
use Rattle.entity.specs.declared.forms.Edit.TheVariants.{Nothing}
use Rattle.rules.specs.Sheet.{Sheet, insts_of}
use Rattle.rules.specs.Forward.{edits_at}
use Rattle.rules.specs.Function.{row, ins, items, In}
use Rattle.rules.specs.Sweep.{wanted_at, struck, strike_items, strike_blocks}
use Rattle.run.proofs.Stand.{RowIn, in_map, in_left, in_right, same_block}
use Rattle.run.proofs.Struck.{items_other}
use Rattle.table.specs.Edits.{edits_in}
use Rattle.marks.specs.Marks.{applied}
use Rattle.marks.proofs.Marking.{applied_none}
use Rattle.dead_spill_elimination.specs.Slots.{Same}
use Rattle.dead_spill_elimination.specs.Worklist.{Word}
use Rattle.dead_spill_elimination.specs.Strikes.{Work, Pos, Linked, All, Outcome}
use Rattle.dead_spill_elimination.proofs.Striking.{items_of, Unstruck}
use Rattle.dead_spill_elimination.proofs.Counting.{struck_none}

-- a row at an instruction of a block is in the block
rows_of : (sh : Sheet) (is : List ℕ) (i j : ℕ) → In i is → In j (edits_at sh i) → RowIn j (items_of sh is)
unfolding flat_map
rows_of sh [] i j h m = absurd h
rows_of sh (k ∷ is) i j h m =
    ⊎_elim
    (λ e.
    let m' : In j (edits_at sh k) = rw e at m in
    in_left j (map row (edits_at sh k) ++ (ins k ∷ [])) (items_of sh is) (in_left j (map row (edits_at sh k)) (ins k ∷ []) ((in_map j (edits_at sh k)).1 m')))
    (λ y. in_right j (map row (edits_at sh k) ++ (ins k ∷ [])) (items_of sh is) (rows_of sh is i j y m)) h

row_there : (sh : Sheet) (b i j : ℕ) → In i (insts_of sh b) → In j (edits_at sh i) → RowIn j (items sh b)
unfolding items
row_there sh b i j = rows_of sh (insts_of sh b) i j

module _ {t touched edits marks₀ counts₀ ends : List ℕ} (h : All t touched edits marks₀ counts₀ ends) where
  abbrev turn : List Edit → ℕ → List Edit
  turn now b = strike_items h.sheet h.places_are h.edits (items h.sheet b) (get_or h.after b []) now

  abbrev now : List ℕ → List Edit
  now marks = edits_in (applied edits marks) (length h.edits)

  pub record At (marks counts : List ℕ) (b : ℕ) : Type 0 where
    pub rest : run turn (now marks) (from b (length ends - b)) ≡ strike_blocks h.sheet h.places_are h.edits h.after
    pub counted : counts ≡ run struck counts₀ (zip h.edits (now marks))
    pub ahead : (b' i j : ℕ) → b ≤ b' → In i (insts_of h.sheet b') → In j (edits_at h.sheet i) → get_or (now marks) j Nothing ≡ get_or h.edits j Nothing

  at_first : At marks₀ counts₀ 0
  unfolding strike_blocks
  at_first =
      let z : length ends - 0 ≡ length ends = omega arith in
      let rows : now marks₀ ≡ h.edits = ap (λ (c : List ℕ). edits_in c (length h.edits)) (applied_none edits marks₀ h.unmarked) ∙ h.rows in
      record {
        rest = rw (z, h.blocks, rows);
        counted = sym (ap (λ (c : List Edit). run struck counts₀ (zip h.edits c)) rows ∙ struck_none h.edits counts₀);
        ahead = λ b' i j l m n. ap (λ (c : List Edit). get_or c j Nothing) rows;
      }

  -- what is to be done at block b
  abbrev work : List ℕ → ℕ → Work
  work marks b = record { sheet = h.sheet; places = h.places_are; edits = h.edits; counts = counts₀; after = get_or h.after b []; now = now marks }

  begun : (marks counts : List ℕ) (b : ℕ) (S : NumberSet) → length marks ≡ length marks₀ → At marks counts b → Same S (get_or h.after b []) → Pos (work marks b) [] edits marks counts S
  unfolding strike_items wanted_at
  begun marks counts b S e a s = record { rows = refl; counted = a.counted; room = h.room; long = rw e h.long; wanted = s }

  at_next : (marks counts marks' counts' : List ℕ) (b : ℕ) (S : NumberSet) → b < length ends → At marks counts b → Pos (work marks b) (items h.sheet b) edits marks' counts' S → At marks' counts' (suc b)
  unfolding run from
  at_next marks counts marks' counts' b S l a p =
      let n : length ends - b ≡ suc (length ends - suc b) = omega arith in
      record {
        rest =
            ap (λ (c : List Edit). run turn c (from (suc b) (length ends - suc b))) p.rows
            ∙ subst (λ (m : ℕ). run turn (now marks) (from b m) ≡ strike_blocks h.sheet h.places_are h.edits h.after) n a.rest;
        counted = p.counted ∙ ap (λ (c : List Edit). run struck counts₀ (zip h.edits c)) (sym p.rows);
        ahead = λ b' i j m u v.
            ap (λ (c : List Edit). get_or c j Nothing) p.rows
            ∙ items_other h.sheet h.places_are h.edits j (items h.sheet b) (get_or h.after b []) (now marks)
            (λ y. omega (arith, same_block h.sheet b b' j y (row_there h.sheet b' i j u v)))
            ∙ a.ahead b' i j (omega arith) u v;
      }

  at_done : (marks counts : List ℕ) (b : ℕ) → length ends ≤ b → At marks counts b → Outcome h marks counts
  unfolding run from
  at_done marks counts b l a =
      let z : length ends - b ≡ 0 = omega arith in
      let e : now marks ≡ strike_blocks h.sheet h.places_are h.edits h.after =
      subst (λ (m : ℕ). run turn (now marks) (from b m) ≡ strike_blocks h.sheet h.places_are h.edits h.after) z a.rest in
      record { struck_rows = e; counted = a.counted ∙ ap (λ (c : List Edit). run struck counts₀ (zip h.edits c)) e }

-- ---- the loop

abbrev pub Overall : List ℕ → List ℕ → List ℕ → List ℕ → List ℕ → List ℕ → List ℕ → List ℕ → ℕ → Type 0
Overall t touched ends edits marks₀ counts₀ marks counts b = (h : All t touched edits marks₀ counts₀ ends) → At h marks counts b

module _ (t touched ends edits marks₀ counts₀ : List ℕ) where
  pub all_first : Overall t touched ends edits marks₀ counts₀ marks₀ counts₀ 0
  all_first h = at_first h

  pub all_next : {marks counts marks' counts' : List ℕ} {S : NumberSet} {x : ℕ} (b : ℕ) → Overall t touched ends edits marks₀ counts₀ marks counts b → length marks ≡ length marks₀ → b < length ends
      → x ≡ get_or ends b 0 → ((A : List ℕ) → Word x A → Same S A)
      → ((w : Work) → Linked t touched w.sheet w.places w.edits w.counts → Unstruck w (insts_of w.sheet b) → Pos w [] edits marks counts S
      → (S : NumberSet) × Pos w (items w.sheet b) edits marks' counts' S) → Overall t touched ends edits marks₀ counts₀ marks' counts' (b + 1)
  all_next {marks} {counts} {marks'} {counts'} {S} {x} b g m l q s k h =
      let a = g h in
      let same : Same S (get_or h.after b []) = s (get_or h.after b []) (λ n. ap (λ (y : ℕ). bit y n) q ∙ h.words b l n) in
      let p = k (work h marks b) h.linked (λ i j u v. a.ahead b i j (omega arith) u v) (begun h marks counts b S m a same) in
      subst (At h marks' counts') (sym (add-one b)) (at_next h marks counts marks' counts' b p.0 l a p.1)

  pub all_done : {marks counts : List ℕ} (b : ℕ) → Overall t touched ends edits marks₀ counts₀ marks counts b → length ends ≤ b → (h : All t touched edits marks₀ counts₀ ends) → Outcome h marks counts
  all_done {marks} {counts} b g l h = at_done h marks counts b l (g h)
