-- For `strike`, `strike_edits`, `strike_inst` and `strike_block` of src/sweep.rt: rows are struck as the definitions say. Assumes nothing.
--     row_step       one row more
--     Edits, edits_first, edits_next, edits_done     a loop over rows, from the last to the first
--     inst_at        an instruction more
use mathlib.Core.Path.{◌≡◌, refl, sym, ◌∙◌, ap, subst}
use mathlib.Core.Logic.{inl, inr, ⊎_elim}
use mathlib.Core.Bool.{Bool, true, false, cond, not}
use mathlib.Core.List.{List, [], ◌∷◌, ◌++◌, map, flat_map, zip, append_assoc}
use Prim.Native.Nat.{ℕ, zero, suc, ◌+◌, ◌-◌, ◌*◌, ◌≤◌, ◌<◌}
use native.Mathlib.Omega.{arith}
use lib.ListN.{length, get_or, set}
use lib.Seq.{get_or-set_other, set-get_or}
use Rattle.laws.specs.Fold.{run}
use Rattle.laws.specs.Lists.{is_in, from}
use Rattle.laws.proofs.Cases.{by_bool, by_eq}
use Rattle.bits.specs.declared.sets.NumberSet.{NumberSet}
use Rattle.entity.specs.declared.forms.Edit.{Edit}
use Rattle.entity.specs.declared.forms.Edit.TheVariants.{Nothing}
use Rattle.rules.specs.Cells.{word, find, words}
use Rattle.rules.specs.Sheet.{Sheet, edit_of, insts_of}
use Rattle.rules.specs.Forward.{edits_at}
use Rattle.rules.specs.Answer.{edit_cells}
use Rattle.rules.specs.Function.{edit, inst, Target, into, over, target, Item, row, ins, items, look, inst_of, In}
use Rattle.rules.specs.Sweep.{wanted_before, wanted_at, strike_by, strike, struck, strike_items}
use Rattle.run.proofs.Stand.{instruction_of, in_map, here, items_in}
use Rattle.run.proofs.Struck.{items_other}
use Rattle.entity.specs.Limits.{block_limit, inst_limit}
use Rattle.table.specs.Layout.{edit_index, inst_index, edit_width}
use Rattle.table.specs.Index.{range_in}
use Rattle.table.specs.Edits.{edit_in, edits_in, with_edit}
use Rattle.table.specs.declared.index.Range.{Range}
use Rattle.table.proofs.Loops.{never}
use Rattle.table.proofs.Stored.{edits_length, edits_at_lem, edits_with}
use Rattle.marks.specs.Marks.{applied}
use Rattle.marks.proofs.Marking.{applied_length, applied_more, marked_read}
use Rattle.dead_spill_elimination.specs.Slots.{Same, LowReads, dead_in, numbers, inst_back, lacks}
use Rattle.dead_spill_elimination.specs.Strikes.{Few, Struck, Work, struck_from, wanted_from, Pos, Rows, Linked}
use Rattle.dead_spill_elimination.proofs.Members.{same_in}
use Rattle.dead_spill_elimination.proofs.Down.{Down, passed, down_next, at_most, in_numbers, passed_all, from_next}
use Rattle.dead_spill_elimination.proofs.Blocks.{edit_step}
use Rattle.dead_spill_elimination.proofs.Counting.{count_strike, count_bound}

dead_strike : (e : Edit) (S : NumberSet) (A : List ℕ) → Same S A → strike e A ≡ cond (dead_in S e) Nothing e
unfolding strike strike_by
dead_strike e S A h = go (target (edit e))
  where
    turn : (b : Bool) → cond b e Nothing ≡ cond (not b) Nothing e
    turn true = refl
    turn false = refl

    go : (t : Target) → strike_by t e A ≡ cond (lacks S t) Nothing e
    go (into d) = rw (h.at d) (turn (is_in d A))
    go (over ds) = refl

none_back : (let cs = edit_cells Nothing in edit_of (get_or cs 0 0) (get_or cs 1 0) (get_or cs 2 0) (get_or cs 3 0)) ≡ Nothing
unfolding edit_cells edit_of word find words
none_back = refl

-- ---- a row, by what the code stores

abbrev at : List ℕ → List ℕ → ℕ → Edit
at edits marks j = edit_in (applied edits marks) j

dead_fresh : (edits marks : List ℕ) (j : ℕ) (S : NumberSet) → dead_in S (at edits marks j) ≡ true → get_or marks j 0 ≡ 0
dead_fresh edits marks j S d = by_eq (get_or marks j 0) 0 (λ q. q) (λ q. let z : false ≡ true = ap (dead_in S) (sym (marked_read edits marks j q)) ∙ d in never z)

module _ (j : ℕ) (S : NumberSet) (edits marks counts : List ℕ) {S' : NumberSet} {e : Edit} {c : Bool} (q : e ≡ at edits marks j) (r : c ≡ dead_in S e)
    (k : (A : List ℕ) → LowReads (edit e) → Same S A → Same S' (wanted_before (edit e) A)) {marks' counts' : List ℕ} where
  pub struck_dead : c ≡ true → marks' ≡ set marks j 1 → (Few counts → counts' ≡ struck counts (e, Nothing)) → Struck j S edits marks counts marks' counts' S'
  struck_dead d a b =
      let z : dead_in S (at edits marks j) ≡ true = ap (dead_in S) (sym q) ∙ sym r ∙ d in
      record {
        kept = λ A. edit_step S S' A q (k A);
        cells_are = λ h. ap (applied edits) a ∙ applied_more edits marks j h (dead_fresh edits marks j S z) ∙ rw z;
        counts_are = λ f. b f ∙ ap (λ (x : Edit). struck counts (x, Nothing)) q ∙ rw z;
      }

  pub struck_kept : c ≡ false → marks' ≡ marks → counts' ≡ counts → Struck j S edits marks counts marks' counts' S'
  struck_kept d a b =
      let z : dead_in S (at edits marks j) ≡ false = ap (dead_in S) (sym q) ∙ sym r ∙ d in
      record { kept = λ A. edit_step S S' A q (k A); cells_are = λ h. ap (applied edits) a ∙ rw z; counts_are = λ f. b ∙ rw z }

module _ (w : Work) where
  rows_skip : (js : List ℕ) (l : List Item) (j : ℕ) → (In j js → ⊥) → get_or (struck_from w (map row js ++ l)) j Nothing ≡ get_or (struck_from w l) j Nothing
  unfolding strike_items
  rows_skip [] l j n = refl
  rows_skip (k ∷ js) l j n = get_or-set_other (struck_from w (map row js ++ l)) k j _ Nothing (λ q. n (inl q)) ∙ rows_skip js l j (λ m. n (inr m))

  -- ---- one row

  module _ (l : List Item) (j : ℕ) (edits marks counts : List ℕ) (S : NumberSet) (p : Pos w l edits marks counts S) (h : j < length w.edits)
      (fresh : get_or (struck_from w l) j Nothing ≡ get_or w.edits j Nothing) where
    abbrev cells : List ℕ
    cells = applied edits marks

    read : edit_in cells j ≡ get_or w.edits j Nothing
    read = sym (edits_at_lem cells (length w.edits) j Nothing h) ∙ ap (λ (x : List Edit). get_or x j Nothing) p.rows ∙ fresh

    long : length (struck_from w l) ≡ length w.edits
    long = ap length (sym p.rows) ∙ edits_length cells (length w.edits)

    next : struck_from w (row j ∷ l) ≡ set (struck_from w l) j (cond (dead_in S (get_or w.edits j Nothing)) Nothing (get_or w.edits j Nothing))
    unfolding strike_items
    next = ap (set (struck_from w l) j) (dead_strike (get_or w.edits j Nothing) S (wanted_from w l) p.wanted)

    next_dead : dead_in S (get_or w.edits j Nothing) ≡ true → struck_from w (row j ∷ l) ≡ set (struck_from w l) j Nothing
    next_dead d = next ∙ rw d

    next_kept : dead_in S (get_or w.edits j Nothing) ≡ false → struck_from w (row j ∷ l) ≡ struck_from w l
    next_kept d = next ∙ rw d (ap (set (struck_from w l) j) (sym fresh) ∙ set-get_or (struck_from w l) j Nothing)

    few_now : ((k : ℕ) → get_or w.counts k 0 + length w.edits < 4294967295) → (k : ℕ) → get_or counts k 0 < 4294967295
    few_now f k = rw p.counted (omega (arith, f k, count_bound w.edits (struck_from w l) k w.counts))

    wants : {marks' counts' : List ℕ} {S' : NumberSet} → Struck j S edits marks counts marks' counts' S' → LowReads (edit (get_or w.edits j Nothing)) → Same S' (wanted_from w (row j ∷ l))
    unfolding wanted_at look
    wants {S' = S'} s low = subst (λ (e : Edit). LowReads (edit e) → Same S' (wanted_before (edit e) (wanted_from w l))) read (λ x. s.kept (wanted_from w l) x p.wanted) low

    pub row_step : {marks' counts' : List ℕ} {S' : NumberSet} → LowReads (edit (get_or w.edits j Nothing)) → ((k : ℕ) → get_or w.counts k 0 + length w.edits < 4294967295)
        → length marks' ≡ length marks → Struck j S edits marks counts marks' counts' S' → Pos w (row j ∷ l) edits marks' counts' S'
    row_step {marks'} {counts'} {S'} low f m s =
        let N : ℕ = length w.edits in
        let cells' : List ℕ = applied edits marks' in
        let ce : cells' ≡ cond (dead_in S (get_or w.edits j Nothing)) (with_edit cells j Nothing) cells =
        s.cells_are (omega (arith, p.long)) ∙ ap (λ (e : Edit). cond (dead_in S e) (with_edit cells j Nothing) cells) read in
        let cu : counts' ≡ cond (dead_in S (get_or w.edits j Nothing)) (struck counts (get_or w.edits j Nothing, Nothing)) counts =
        s.counts_are (few_now f 7, few_now f 8) ∙ ap (λ (e : Edit). cond (dead_in S e) (struck counts (e, Nothing)) counts) read in
        by_bool (dead_in S (get_or w.edits j Nothing))
        (λ d.
        let ce' : cells' ≡ with_edit cells j Nothing = ce ∙ rw d in
        let cu' : counts' ≡ struck counts (get_or w.edits j Nothing, Nothing) = cu ∙ rw d in
        let fits : j * edit_width + 3 < length cells = omega (arith, p.room, applied_length edits marks) in
        record {
          rows = ap (λ (x : List ℕ). edits_in x N) ce' ∙ edits_with cells j Nothing N fits none_back ∙ ap (λ (x : List Edit). set x j Nothing) p.rows ∙ sym (next_dead d);
          counted = cu' ∙ ap (λ (x : List ℕ). struck x (get_or w.edits j Nothing, Nothing)) p.counted ∙ sym (count_strike w.edits (struck_from w l) j w.counts long h fresh)
              ∙ ap (λ (x : List Edit). run struck w.counts (zip w.edits x)) (sym (next_dead d));
          room = p.room;
          long = rw m p.long;
          wanted = wants s low;
        })
        (λ d.
        let ce' : cells' ≡ cells = ce ∙ rw d in
        let cu' : counts' ≡ counts = cu ∙ rw d in
        record {
          rows = ap (λ (x : List ℕ). edits_in x N) ce' ∙ p.rows ∙ sym (next_kept d);
          counted = cu' ∙ p.counted ∙ ap (λ (x : List Edit). run struck w.counts (zip w.edits x)) (sym (next_kept d));
          room = p.room;
          long = rw m p.long;
          wanted = wants s low;
        })

-- ---- a loop over rows

passed_from : (n m j : ℕ) → In j (from n m) → n ≤ j
unfolding from
passed_from n zero j h = absurd h
passed_from n (suc m) j h = ⊎_elim (λ e. omega arith) (λ y. omega (arith, passed_from (suc n) m j y)) h

abbrev pub Edits : Range → List ℕ → List ℕ → List ℕ → NumberSet → List ℕ → List ℕ → NumberSet → ℕ → Type 0
Edits r edits marks₀ counts₀ S₀ marks counts S n =
    Down r n × ((w : Work) (l : List Item) → Rows w (numbers r) l → Pos w l edits marks₀ counts₀ S₀ → Pos w (map row (passed r n) ++ l) edits marks counts S)

module _ (r : Range) (edits marks₀ counts₀ : List ℕ) (S₀ : NumberSet) where
  pub edits_first : Edits r edits marks₀ counts₀ S₀ marks₀ counts₀ S₀ r.to
  unfolding from
  edits_first = (
    inl refl,
    λ w l x p. let z : r.to - r.to ≡ 0 = omega arith in subst (λ (k : ℕ). Pos w (map row (from r.to k) ++ l) edits marks₀ counts₀ S₀) (sym z) p,
  )

  pub edits_next : {marks counts marks' counts' : List ℕ} {S S' : NumberSet} (n : ℕ) → Edits r edits marks₀ counts₀ S₀ marks counts S n → r.from < n
      → length marks' ≡ length marks → Struck (n - 1) S edits marks counts marks' counts' S' → Edits r edits marks₀ counts₀ S₀ marks' counts' S' (n - 1)
  edits_next {marks} {counts} {marks'} {counts'} {S} {S'} n g h a s = (
    down_next r n g.0 h,
    λ w l x p.
        let m = at_most r n g.0 in
        let k : In (n - 1) (numbers r) = in_numbers r n g.0 h in
        let f : get_or (struck_from w (map row (passed r n) ++ l)) (n - 1) Nothing ≡ get_or w.edits (n - 1) Nothing =
        rows_skip w (passed r n) l (n - 1) (λ y. omega (arith, passed_from n (r.to - n) (n - 1) y)) ∙ x.fresh (n - 1) k in
        subst (λ (js : List ℕ). Pos w (map row js ++ l) edits marks' counts' S') (sym (from_next n r.to (omega arith) m))
        (row_step w (map row (passed r n) ++ l) (n - 1) edits marks counts S (g.1 w l x p) (x.there (n - 1) k) f (x.low (n - 1) k) x.few a s),
  )

  pub edits_done : {marks counts : List ℕ} {S : NumberSet} (n : ℕ) → Edits r edits marks₀ counts₀ S₀ marks counts S n → n ≤ r.from
      → (w : Work) (l : List Item) → Rows w (numbers r) l → Pos w l edits marks₀ counts₀ S₀ → Pos w (map row (numbers r) ++ l) edits marks counts S
  edits_done {marks = marks} {counts = counts} {S = S} n g h w l x p = subst (λ (js : List ℕ). Pos w (map row js ++ l) edits marks counts S) (passed_all r n g.0 h) (g.1 w l x p)

-- ---- an instruction

module _ (w : Work) (l : List Item) (i : ℕ) where
  pub inst_at : (t touched : List ℕ) {edits marks counts : List ℕ} {S S' : NumberSet} → Linked t touched w.sheet w.places w.edits w.counts → Pos w l edits marks counts S
      → Same S' (inst_back touched i (wanted_from w l)) → Pos w (ins i ∷ l) edits marks counts S'
  unfolding strike_items wanted_at look
  inst_at t touched k p h =
      record {
        rows = p.rows;
        counted = p.counted;
        room = p.room;
        long = p.long;
        wanted = same_in _ (inst_back touched i (wanted_from w l)) (wanted_before (inst (inst_of w.sheet w.places w.edits i)) (wanted_from w l)) (k.at_inst i (wanted_from w l)) h;
      }

  pub rows_at_lem : (js : List ℕ) → Rows w js l → Rows w js (ins i ∷ l)
  unfolding strike_items
  rows_at_lem js x = record { there = x.there; fresh = x.fresh; low = x.low; few = x.few }

  -- the rows at it too
  pub inst_done : (t touched : List ℕ) {edits marks counts marks' counts' : List ℕ} {S S' S'' : NumberSet} {r : Range} → r ≡ range_in t edit_index inst_limit i
      → Linked t touched w.sheet w.places w.edits w.counts → Rows w (edits_at w.sheet i) l → Pos w l edits marks counts S
      → Same S' (inst_back touched i (wanted_from w l)) → (Rows w (numbers r) (ins i ∷ l) → Pos w (ins i ∷ l) edits marks counts S' → Pos w (map row (numbers r) ++ (ins i ∷ l)) edits marks' counts' S'')
      → Pos w (map row (edits_at w.sheet i) ++ (ins i ∷ l)) edits marks' counts' S''
  inst_done t touched {edits = edits} {marks' = marks'} {counts' = counts'} {S'' = S''} q k x p h f =
      let e : numbers _ ≡ edits_at w.sheet i = ap numbers q ∙ k.rows i in
      subst (λ (js : List ℕ). Pos w (map row js ++ (ins i ∷ l)) edits marks' counts' S'') e (f (rows_at_lem (numbers _) (subst (λ (js : List ℕ). Rows w js l) (sym e) x)) (inst_at t touched k p h))

-- ---- a block

abbrev pub items_of : Sheet → List ℕ → List Item
items_of sh is = flat_map (λ i. map row (edits_at sh i) ++ (ins i ∷ [])) is

-- the rows at these instructions are as they were
abbrev pub Unstruck : Work → List ℕ → Type 0
Unstruck w is = (i j : ℕ) → In i is → In j (edits_at w.sheet i) → get_or w.now j Nothing ≡ get_or w.edits j Nothing

abbrev pub Block : List ℕ → List ℕ → Range → List ℕ → List ℕ → List ℕ → NumberSet → List ℕ → List ℕ → NumberSet → ℕ → Type 0
Block t touched r edits marks₀ counts₀ S₀ marks counts S n =
    Down r n × ((w : Work) → Linked t touched w.sheet w.places w.edits w.counts → Unstruck w (numbers r) → Pos w [] edits marks₀ counts₀ S₀ → Pos w (items_of w.sheet (passed r n)) edits marks counts S)

module _ (t touched : List ℕ) (r : Range) (edits marks₀ counts₀ : List ℕ) (S₀ : NumberSet) where
  pub block_first : Block t touched r edits marks₀ counts₀ S₀ marks₀ counts₀ S₀ r.to
  unfolding from flat_map
  block_first = (
    inl refl,
    λ w k x p. let z : r.to - r.to ≡ 0 = omega arith in subst (λ (n : ℕ). Pos w (items_of w.sheet (from r.to n)) edits marks₀ counts₀ S₀) (sym z) p,
  )

  -- the rows at an instruction, where the later ones are struck
  rows_there : (w : Work) (n : ℕ) → Down r n → r.from < n → Linked t touched w.sheet w.places w.edits w.counts → Unstruck w (numbers r) → Rows w (edits_at w.sheet (n - 1)) (items_of w.sheet (passed r n))
  rows_there w n d h k x =
      let sh : Sheet = w.sheet in
      let at : (j : ℕ) → In j (edits_at sh (n - 1)) → (instruction_of sh j ≡ n - 1) × (j < length sh.edits) = λ j m. here sh (n - 1) j ((in_map j (edits_at sh (n - 1))).1 m) in
      record {
        there = λ j m. rw k.many (at j m).1;
        fresh = λ j m.
            items_other sh w.places w.edits j (items_of sh (passed r n)) w.after w.now (λ y. omega (arith, (at j m).0, (items_in sh (r.to - n) n j y).0))
            ∙ x (n - 1) j (in_numbers r n d h) m;
        low = λ j m. k.low_rows j;
        few = k.few;
      }

  pub block_next : {marks counts marks' counts' : List ℕ} {S S' : NumberSet} (n : ℕ) → Block t touched r edits marks₀ counts₀ S₀ marks counts S n → r.from < n
      → ((w : Work) (l : List Item) → Linked t touched w.sheet w.places w.edits w.counts → Rows w (edits_at w.sheet (n - 1)) l → Pos w l edits marks counts S
      → Pos w (map row (edits_at w.sheet (n - 1)) ++ (ins (n - 1) ∷ l)) edits marks' counts' S') → Block t touched r edits marks₀ counts₀ S₀ marks' counts' S' (n - 1)
  unfolding flat_map
  block_next {marks} {counts} {marks'} {counts'} {S} {S'} n g h f = (
    down_next r n g.0 h,
    λ w k x p.
        let m = at_most r n g.0 in
        let l : List Item = items_of w.sheet (passed r n) in
        subst (λ (js : List ℕ). Pos w (items_of w.sheet js) edits marks' counts' S') (sym (from_next n r.to (omega arith) m))
        (subst (λ (y : List Item). Pos w y edits marks' counts' S') (sym (append_assoc (map row (edits_at w.sheet (n - 1))) (ins (n - 1) ∷ []) l))
        (f w l k (rows_there w n g.0 h k x) (g.1 w k x p))),
  )

  pub block_last : {marks counts : List ℕ} {S : NumberSet} (b n : ℕ) → Block t touched r edits marks₀ counts₀ S₀ marks counts S n → n ≤ r.from → r ≡ range_in t inst_index block_limit b
      → (w : Work) → Linked t touched w.sheet w.places w.edits w.counts → Unstruck w (insts_of w.sheet b) → Pos w [] edits marks₀ counts₀ S₀
      → (S : NumberSet) × Pos w (items w.sheet b) edits marks counts S
  unfolding items
  block_last {marks} {counts} {S} b n g h q w k x p =
      let e : numbers r ≡ insts_of w.sheet b = ap numbers q ∙ k.insts b in (
        S,
        subst (λ (js : List ℕ). Pos w (items_of w.sheet js) edits marks counts S) (passed_all r n g.0 h ∙ e)
            (g.1 w k (subst (λ (js : List ℕ). Unstruck w js) (sym e) x) p),
      )
