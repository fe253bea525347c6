-- For the look-ups of src/index.rt and src/view.rt: what is looked up by the index of a table that is ready is what the sheet says. Assumes nothing.
use mathlib.Core.Path.{◌≡◌, refl, sym, ap, ◌∙◌}
use mathlib.Core.Bool.{Bool, true, cond, ◌&&◌}
use mathlib.Core.List.{List, [], ◌∷◌, map, flat_map}
use Prim.Native.Nat.{ℕ, zero, suc, ◌+◌, ◌-◌, ◌≤◌, ◌<◌}
use native.Mathlib.Nat.{zero-add}
use native.Mathlib.Numerals.{add-one}
use native.Mathlib.Omega.{arith}
use lib.Dec.{eqb, ltb}
use lib.ListN.{length, get_or, take, drop}
use borrow.Author.Tests.{ltb-true, lt-ltb, le-ltb}
use Rattle.laws.specs.Lists.{all, keep, from}
use Rattle.laws.proofs.Cases.{by_lt}
use Rattle.laws.proofs.Lists.{part_map, flat_map_lem}
use Rattle.entity.specs.Limits.{block_limit, inst_limit}
use Rattle.rules.specs.Rows.{first}
use Rattle.rules.specs.Sheet.{Sheet, BlockRow, ListRow, list_row, list_at, succs_of, preds_of, clobbers_of, insts_from, insts_of, block_count, inst_count}
use Rattle.rules.specs.Accept.{block_exists, inst_exists, value_exists, place_exists, subject_exists, constraint_exists, unit_exists, edit_names, operands_at, in_order}
use Rattle.rules.proofs.Refusals.{InLimits, in_limits, all_named_lem, Named, each_named}
use Rattle.table.specs.Layout.{clob_index, inst_index, op_index, param_index, pred_index, succ_index}
use Rattle.table.specs.Rows.{kind_row}
use Rattle.table.specs.Sheet.{rows_at, sheet_in}
use Rattle.table.specs.Index.{range_in, Ready, NeverFalls}
use Rattle.table.specs.declared.index.Range.{Range}
use Rattle.table.proofs.Loops.{and_left, all_at, all_map, keep_map, keep_same}
use Rattle.table.proofs.Sheets.{param_row_of, op_row_of, edit_row_of, succs_are, preds_are, params_are, ops_are, clobs_are, edits_are}
use Rattle.table.proofs.Ranges.{at_x, rows_of, list_of, insts_at}
use Rattle.table.proofs.Orders.{edits_fall, ready_succs, ready_preds, ready_params, ready_ops, ready_clobs}

-- ---- what 2 and 3 tell of first fields

-- a test of each that says that its first field is below n
first_below : {A : Type 0} (f : List ℕ → A) (at : A → ℕ) (test : A → Bool) (n most : ℕ) (l : List A) (rows : List (List ℕ)) → l ≡ map f rows → ((r : List ℕ) → at (f r) ≡ first r)
    → n ≤ most → ((x : A) → test x ≡ true → ltb (at x) n ≡ true) → all test l ≡ true → (j : ℕ) → j < length rows → first (get_or rows j []) < most
first_below f at test n most l rows q e m imp p j h =
    let z = all_at (λ x. test (f x)) [] rows (sym (ap (all test) q ∙ all_map f test rows) ∙ p) j h in
    omega (arith, e (get_or rows j []), ltb-true (at (f (get_or rows j []))) n (imp (f (get_or rows j [])) z))

-- ---- the rows of one

insts_past : (sh : Sheet) (bs : List BlockRow) (a b : ℕ) → length bs ≤ b → get_or (insts_from sh a bs) b [] ≡ []
unfolding insts_from
insts_past sh [] a b h = refl
insts_past sh (x ∷ bs) a zero h = absurd (omega arith)
insts_past sh (x ∷ bs) a (suc b) h = insts_past sh bs (a + x.instructions) b (omega arith)

at_list : (r : List ℕ) → (list_row r).at ≡ first r
unfolding list_row
at_list r = refl

list_is : (sh : Sheet) (l : List ListRow) (rows : List (List ℕ)) (x : ℕ) → l ≡ map list_row rows → flat_map (drop 2) (keep (at_x x) rows) ≡ list_at sh l x
unfolding list_at list_row
list_is sh l rows x e =
    sym (ap (λ (l : List ListRow). flat_map (λ r. r.list) (keep (λ r. eqb r.at x) l)) e
    ∙ ap (flat_map (λ (r : ListRow). r.list)) (keep_map list_row (λ r. eqb r.at x) rows) ∙ flat_map_lem (λ (r : ListRow). r.list) list_row (keep (at_x x) rows))

rows_are_of : {A : Type 0} (f : List ℕ → A) (at : A → ℕ) (l : List A) (rows : List (List ℕ)) (m n x : ℕ) → l ≡ map f rows → ((r : List ℕ) → at (f r) ≡ first r)
    → take m (drop n rows) ≡ keep (at_x x) rows → take m (drop n l) ≡ keep (λ y. eqb (at y) x) l
rows_are_of f at l rows m n x e z p =
    rw e
    (part_map f m n rows ∙ ap (map f) (p ∙ keep_same (at_x x) (λ r. eqb (at (f r)) x) rows (λ r. ap (λ (i : ℕ). eqb i x) (sym (z r)))) ∙ sym (keep_map f (λ y. eqb (at y) x) rows))

module _ {t : List ℕ} (g : Ready t) where
  abbrev sh : Sheet
  sh = sheet_in t

  few : InLimits sh
  few = in_limits sh g.limits

  named : Named sh
  named = each_named sh (all_named_lem sh g.names)

  pub succs_below : (j : ℕ) → j < length (rows_at t 7) → first (get_or (rows_at t 7) j []) < block_limit
  succs_below =
      first_below list_row (λ s. s.at) (λ s. block_exists sh s.at && all (block_exists sh) s.list) (block_count sh) block_limit sh.succs (rows_at t 7) (succs_are t).is at_list few.few_blocks
      (λ s. and_left (block_exists sh s.at) (all (block_exists sh) s.list)) named.succs

  pub preds_below : (j : ℕ) → j < length (rows_at t 8) → first (get_or (rows_at t 8) j []) < block_limit
  preds_below =
      first_below list_row (λ s. s.at) (λ s. block_exists sh s.at && all (block_exists sh) s.list) (block_count sh) block_limit sh.preds (rows_at t 8) (preds_are t).is at_list few.few_blocks
      (λ s. and_left (block_exists sh s.at) (all (block_exists sh) s.list)) named.preds

  pub params_below : (j : ℕ) → j < length (rows_at t 9) → first (get_or (rows_at t 9) j []) < block_limit
  params_below =
      first_below param_row_of (λ p. p.at) (λ p. block_exists sh p.at && value_exists sh p.value && place_exists sh p.place) (block_count sh) block_limit sh.params (rows_at t 9)
      (params_are t).is (λ r. refl) few.few_blocks
      (λ p e.
      and_left (block_exists sh p.at) (value_exists sh p.value) (and_left (block_exists sh p.at && value_exists sh p.value) (place_exists sh p.place) e))
      named.params

  pub ops_below : (j : ℕ) → j < length (rows_at t 10) → first (get_or (rows_at t 10) j []) < inst_limit
  ops_below =
      first_below op_row_of (λ o. o.at) (λ o. inst_exists sh o.at && subject_exists sh o.kind && constraint_exists sh o.constraint && place_exists sh o.place) (inst_count sh) inst_limit sh.ops
      (rows_at t 10) (ops_are t).is (λ r. refl) few.few_insts
      (λ o e.
      and_left (inst_exists sh o.at) (subject_exists sh o.kind)
      (and_left (inst_exists sh o.at && subject_exists sh o.kind) (constraint_exists sh o.constraint)
      (and_left (inst_exists sh o.at && subject_exists sh o.kind && constraint_exists sh o.constraint) (place_exists sh o.place) e)))
      named.ops

  pub clobs_below : (j : ℕ) → j < length (rows_at t 11) → first (get_or (rows_at t 11) j []) < inst_limit
  clobs_below =
      first_below list_row (λ s. s.at) (λ s. inst_exists sh s.at && all (unit_exists sh) s.list) (inst_count sh) inst_limit sh.clobs (rows_at t 11) (clobs_are t).is at_list few.few_insts
      (λ s. and_left (inst_exists sh s.at) (all (unit_exists sh) s.list)) named.clobs

  pub edits_below : (j : ℕ) → j < length (rows_at t 12) → first (get_or (rows_at t 12) j []) < inst_limit
  edits_below =
      first_below edit_row_of (λ e. e.at) (λ e. inst_exists sh e.at && edit_names sh e.edit) (inst_count sh) inst_limit sh.edits (rows_at t 12) (edits_are t).is (λ r. refl) few.few_insts
      (λ e. and_left (inst_exists sh e.at) (edit_names sh e.edit)) named.edits

  -- ---- each look-up, by the range that the index gives

  abbrev succ_range : ℕ → Range
  succ_range b = range_in t succ_index block_limit b

  abbrev pred_range : ℕ → Range
  pred_range b = range_in t pred_index block_limit b

  abbrev param_range : ℕ → Range
  param_range b = range_in t param_index block_limit b

  abbrev op_range : ℕ → Range
  op_range i = range_in t op_index inst_limit i

  abbrev clob_range : ℕ → Range
  clob_range i = range_in t clob_index inst_limit i

  abbrev inst_range : ℕ → Range
  inst_range b = range_in t inst_index block_limit b

  pub succs_of_lem : (b : ℕ) → cond (ltb (succ_range b).from (succ_range b).to) (drop 2 (kind_row t 7 (succ_range b).from)) [] ≡ succs_of sh b
  succs_of_lem b = list_of t succ_index 7 block_limit g.built.succs succs_below b (drop 2) (ready_succs g) ∙ list_is sh sh.succs (rows_at t 7) b (succs_are t).is

  pub preds_of_lem : (b : ℕ) → cond (ltb (pred_range b).from (pred_range b).to) (drop 2 (kind_row t 8 (pred_range b).from)) [] ≡ preds_of sh b
  preds_of_lem b = list_of t pred_index 8 block_limit g.built.preds preds_below b (drop 2) (ready_preds g) ∙ list_is sh sh.preds (rows_at t 8) b (preds_are t).is

  pub clobbers_of_lem : (i : ℕ) → cond (ltb (clob_range i).from (clob_range i).to) (drop 2 (kind_row t 11 (clob_range i).from)) [] ≡ clobbers_of sh i
  clobbers_of_lem i = list_of t clob_index 11 inst_limit g.built.clobs clobs_below i (drop 2) (ready_clobs g) ∙ list_is sh sh.clobs (rows_at t 11) i (clobs_are t).is

  -- the operands of an instruction, the parameters of a block, the edits at an instruction
  pub ops_of_lem : (i : ℕ) → take ((op_range i).to - (op_range i).from) (drop (op_range i).from sh.ops) ≡ operands_at sh i
  unfolding operands_at
  ops_of_lem i =
      rows_are_of op_row_of (λ o. o.at) sh.ops (rows_at t 10) ((op_range i).to - (op_range i).from) (op_range i).from i (ops_are t).is (λ r. refl)
      (rows_of t op_index 10 inst_limit g.built.ops ops_below i (ready_ops g))

  pub params_of : (b : ℕ) → take ((param_range b).to - (param_range b).from) (drop (param_range b).from sh.params) ≡ keep (λ p. eqb p.at b) sh.params
  params_of b =
      rows_are_of param_row_of (λ p. p.at) sh.params (rows_at t 9) ((param_range b).to - (param_range b).from) (param_range b).from b (params_are t).is (λ r. refl)
      (rows_of t param_index 9 block_limit g.built.params params_below b (ready_params g))

  pub edits_fall_in : in_order sh.edits ≡ true → NeverFalls (rows_at t 12)
  edits_fall_in e = edits_fall (rows_at t 12) (ap in_order (sym (edits_are t).is) ∙ e)

  -- the instructions of a block
  pub insts_are : (b : ℕ) → from (inst_range b).from ((inst_range b).to - (inst_range b).from) ≡ insts_of sh b
  unfolding range_in from
  insts_are b =
      by_lt b block_limit
      (λ h.
      let e : inst_index + b + 1 ≡ inst_index + (b + 1) = omega arith in
      rw (lt-ltb b block_limit h, e, g.built.insts b (omega arith), g.built.insts (b + 1) (omega arith), add-one b) (sym (insts_at sh sh.blocks 0 b ∙ simp zero-add)))
      (λ h. rw (le-ltb b block_limit h) (sym (insts_past sh sh.blocks 0 b (omega (arith, few.few_blocks)))))

-- the three lists, by what the code hands on
module _ (t l : List ℕ) (r : Range) (x : ℕ) where
  pub clobbers_by : r ≡ range_in t clob_index inst_limit x → l ≡ cond (ltb r.from r.to) (drop 2 (kind_row t 11 r.from)) [] → Ready t → l ≡ clobbers_of (sheet_in t) x
  clobbers_by e p g = p ∙ ap (λ (r : Range). cond (ltb r.from r.to) (drop 2 (kind_row t 11 r.from)) []) e ∙ clobbers_of_lem g x
