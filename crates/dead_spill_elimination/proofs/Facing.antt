-- For `Facts` of specs/Worklist.antt, which the loop of src/ends.rt goes by: the worklist is that of the sheet's function: what is wanted at a block's start, and predecessors
-- and successors. Assumes nothing.
use mathlib.Core.Path.{◌≡◌, refl, sym, ◌∙◌, ap}
use mathlib.Core.Logic.{inl, inr, ⊎_elim}
use mathlib.Core.Bool.{true, ◌&&◌}
use mathlib.Core.List.{List, [], ◌∷◌, ◌++◌, map, flat_map}
use Prim.Native.Nat.{ℕ, ◌≤◌, ◌<◌}
use native.Mathlib.Omega.{arith}
use lib.Dec.{eqb}
use lib.ListN.{length, replicate, get_or-eq_default}
use borrow.Author.Tests.{ltb-true}
use Rattle.laws.specs.Lists.{all, keep, is_in, from}
use Rattle.laws.proofs.Cases.{by_bool, by_lt, same_test}
use Rattle.entity.specs.declared.forms.Place.{Place}
use Rattle.entity.specs.declared.forms.Edit.{Edit}
use Rattle.entity.specs.declared.forms.Edit.TheVariants.{Nothing}
use Rattle.rules.specs.Sheet.{Sheet, ListRow, block_count, list_at, succs_of, preds_of, insts_of}
use Rattle.rules.specs.Accept.{block_exists, named_back, each_block}
use Rattle.rules.specs.Forward.{edits_at}
use Rattle.rules.specs.Function.{Op, edit, inst, Func, ops_of, next_of, Item, row, ins, items, look, inst_of, func_of, In}
use Rattle.rules.specs.Sweep.{wanted_before, wanted_at}
use Rattle.rules.proofs.Refusals.{all_named_lem, each_named}
use Rattle.run.proofs.Sets.{is_in_lem}
use Rattle.run.proofs.Back.{back_all_mono, at_back}
use Rattle.run.proofs.Rows.{ops_look}
use Rattle.run.proofs.Stand.{in_map, here}
use Rattle.run.proofs.Lists.{either, all_true}
use Rattle.table.specs.Sheet.{sheet_in}
use Rattle.table.specs.Edits.{edit_in}
use Rattle.table.specs.Rows.{count_in}
use Rattle.table.proofs.Loops.{and_left, and_right}
use Rattle.table.proofs.Sheets.{members_at, members_long}
use Rattle.table.proofs.Stored.{edits_at_lem}
use Rattle.dead_spill_elimination.specs.Slots.{back, edits_back, inst_back, step_back, block_back, Lows}
use Rattle.dead_spill_elimination.specs.Touched.{touched_to}
use Rattle.dead_spill_elimination.specs.Worklist.{Facts}
use Rattle.dead_spill_elimination.specs.Held.{the_edits, the_places, Held}
use Rattle.dead_spill_elimination.proofs.Striking.{items_of}
use Rattle.dead_spill_elimination.proofs.Linking.{linked}
use Rattle.dead_spill_elimination.proofs.Down.{in_from}

-- ---- lists that have the same members

abbrev Alike : List ℕ → List ℕ → Type 0
Alike X Y = (k : ℕ) → is_in k X ≡ is_in k Y

at_alike : (os : List Op) (X Y : List ℕ) → Alike X Y → Alike (wanted_at os X) (wanted_at os Y)
at_alike os X Y e k = same_test (is_in k (wanted_at os X)) (is_in k (wanted_at os Y)) (go X Y e) (go Y X (λ n. sym (e n)))
  where
    go : (X Y : List ℕ) → Alike X Y → is_in k (wanted_at os X) ≡ true → is_in k (wanted_at os Y) ≡ true
    go X Y e h =
        (is_in_lem k (wanted_at os Y)).1 ((at_back os Y k).1 (back_all_mono os (λ n. In n X) (λ n. In n Y) (λ n m. (is_in_lem n Y).0 (sym (e n) ∙ (is_in_lem n X).1 m)) k
        ((at_back os X k).0 ((is_in_lem k (wanted_at os X)).0 h))))

at_append : (xs ys : List Op) (A : List ℕ) → wanted_at (xs ++ ys) A ≡ wanted_at xs (wanted_at ys A)
unfolding wanted_at
at_append [] ys A = refl
at_append (x ∷ xs) ys A = ap (wanted_before x) (at_append xs ys A)

map_append : {A B : Type 0} (f : A → B) (xs ys : List A) → map f (xs ++ ys) ≡ map f xs ++ map f ys
map_append f [] ys = refl
map_append f (x ∷ xs) ys = ap (λ (l : List _). f x ∷ l) (map_append f xs ys)

-- ---- tests of each

list_named : (sh : Sheet) (rows : List ListRow) (b x : ℕ) → all (λ r. block_exists sh r.at && all (block_exists sh) r.list) rows ≡ true → In x (list_at sh rows b) → x < block_count sh
unfolding list_at keep flat_map
list_named sh [] b x e h = absurd h
list_named sh (r ∷ rows) b x e h =
    let here : block_exists sh r.at && all (block_exists sh) r.list ≡ true = and_left _ (all (λ r. block_exists sh r.at && all (block_exists sh) r.list) rows) e in
    let rest = list_named sh rows b x (and_right (block_exists sh r.at && all (block_exists sh) r.list) _ e) in
    by_bool (eqb r.at b)
    (λ p.
    ⊎_elim (λ m. ltb-true x (block_count sh) (all_true (block_exists sh) r.list (and_right (block_exists sh r.at) _ here) x m)) rest
    (either x r.list (flat_map (λ r. r.list) (keep (λ r. eqb r.at b) rows)) (rw p at h)))
    (λ p. rest (rw p at h))

module _ {t edits places counts touched : List ℕ} (h : Held t edits places counts) (told : touched ≡ touched_to t places (replicate 1024 0) (count_in t 10)) where
  abbrev sh : Sheet
  sh = sheet_in t

  abbrev ps : List Place
  ps = the_places t places

  abbrev es : List Edit
  es = the_edits t edits

  abbrev f : Func
  f = func_of sh ps es

  -- ---- what is wanted before a block

  edits_are : (js : List ℕ) → ((j : ℕ) → In j js → j < length sh.edits) → (A : List ℕ) → edits_back edits js A ≡ wanted_at (map (look sh ps es) (map row js)) A
  unfolding edits_back back wanted_at look
  edits_are [] l A = refl
  edits_are (j ∷ js) l A = rw (edits_at_lem edits (length sh.edits) j Nothing (l j (inl refl))) (ap (wanted_before (edit (edit_in edits j))) (edits_are js (λ k m. l k (inr m)) A))

  rows_below : (i j : ℕ) → In j (edits_at sh i) → j < length sh.edits
  rows_below i j m = (here sh i j ((in_map j (edits_at sh i)).1 m)).1

  step_are : (i : ℕ) (A B : List ℕ) → Alike A B → Alike (step_back t edits touched i A) (wanted_at (map (look sh ps es) (map row (edits_at sh i) ++ (ins i ∷ []))) B)
  unfolding step_back wanted_at look
  step_are i A B e k =
      let rows : List Op = map (look sh ps es) (map row (edits_at sh i)) in
      let one : inst (inst_of sh ps es i) ∷ [] ≡ map (look sh ps es) (ins i ∷ []) = refl in
      ap (λ (js : List ℕ). is_in k (edits_back edits js (inst_back touched i A))) ((linked h told).rows i)
      ∙ ap (is_in k) (edits_are (edits_at sh i) (rows_below i) (inst_back touched i A))
      ∙ at_alike rows (inst_back touched i A) (wanted_before (inst (inst_of sh ps es i)) B)
      (λ n. (linked h told).at_inst i A n ∙ at_alike (inst (inst_of sh ps es i) ∷ []) A B e n) k
      ∙ sym (ap (is_in k) (ap (λ (os : List Op). wanted_at os B) (map_append (look sh ps es) (map row (edits_at sh i)) (ins i ∷ [])) ∙ at_append rows (inst (inst_of sh ps es i) ∷ []) B))

  items_are : (is A : List ℕ) → Alike (back (step_back t edits touched) is A) (wanted_at (map (look sh ps es) (items_of sh is)) A)
  unfolding back flat_map wanted_at
  items_are [] A k = refl
  items_are (i ∷ is) A k =
      let here : List Item = map row (edits_at sh i) ++ (ins i ∷ []) in
      step_are i (back (step_back t edits touched) is A) (wanted_at (map (look sh ps es) (items_of sh is)) A) (items_are is A) k
      ∙ sym (ap (is_in k) (ap (λ (os : List Op). wanted_at os A) (map_append (look sh ps es) here (items_of sh is)) ∙ at_append (map (look sh ps es) here) (map (look sh ps es) (items_of sh is)) A))

  block_is : (b : ℕ) (A : List ℕ) (k : ℕ) → is_in k (block_back t edits touched b A) ≡ is_in k (wanted_at (ops_of f b) A)
  unfolding block_back items
  block_is b A k =
      ap (λ (is : List ℕ). is_in k (back (step_back t edits touched) is A)) ((linked h told).insts b) ∙ items_are (insts_of sh b) A k
      ∙ sym (ap (λ (os : List Op). is_in k (wanted_at os A)) (ops_look sh ps es b))

  -- ---- predecessors and successors

  next_is : (p : ℕ) → p < block_count sh → next_of f p ≡ succs_of sh p
  unfolding func_of
  next_is p l = members_at (succs_of sh) (block_count sh) p [] l

  next_none : (p : ℕ) → block_count sh ≤ p → next_of f p ≡ []
  unfolding func_of
  next_none p l = get_or-eq_default (map (succs_of sh) (from 0 (block_count sh))) [] {n = p} (rw (members_long (succs_of sh) (block_count sh)) l)

  agree_at : (b : ℕ) → b < block_count sh → named_back sh b ≡ true
  unfolding each_block
  agree_at b l = all_true (named_back sh) (from 0 (block_count sh)) h.agree b (in_from 0 (block_count sh) b (omega arith) (omega arith))

  agree_next : (p b : ℕ) → p < block_count sh → In b (succs_of sh p) → In p (preds_of sh b)
  unfolding named_back
  agree_next p b l m =
      (is_in_lem p (preds_of sh b)).0 (all_true (λ t. is_in p (preds_of sh t)) (succs_of sh p) (and_left (all (λ t. is_in p (preds_of sh t)) (succs_of sh p)) _ (agree_at p l)) b m)

  agree_back : (b p : ℕ) → b < block_count sh → In p (preds_of sh b) → In b (succs_of sh p)
  unfolding named_back
  agree_back b p l m =
      (is_in_lem b (succs_of sh p)).0 (all_true (λ p. is_in b (succs_of sh p)) (preds_of sh b) (and_right (all (λ t. is_in b (preds_of sh t)) (succs_of sh b)) _ (agree_at b l)) p m)

  lows : Lows t edits
  lows i j m = h.low_edits j (rows_below i j (rw ((linked h told).rows i) at m))

  pub facts : Facts t edits touched f (block_count sh)
  facts =
      record {
        ready = h.ready;
        lows = lows;
        back = λ b l. block_is b;
        preds_in = λ b p l m.
            let n : p < block_count sh = list_named sh sh.preds b p (each_named sh (all_named_lem sh h.ready.names)).preds m in
            (n, rw (next_is p n) (agree_back b p l m));
        succs_in = λ p b m.
            by_lt p (block_count sh)
            (λ l.
            let m' : In b (succs_of sh p) = rw (next_is p l) at m in
            (list_named sh sh.succs p b (each_named sh (all_named_lem sh h.ready.names)).succs m', agree_next p b l m'))
            (λ l. let z : In b [] = rw (next_none p l) at m in absurd z);
      }
