-- For `within_limits` of src/limits.rt, `all_named_lem` and `none_twice` of src/names.rt: what `within_limits` and `all_named` say, in the steps in
-- which the code goes (specs/Steps.antt). Assumes nothing.
use mathlib.Core.Path.{◌≡◌, refl, sym, ap, ◌∙◌}
use mathlib.Core.Bool.{Bool, true, false, not, ◌&&◌}
use mathlib.Core.List.{List, []}
use mathlib.Core.Option.{Option-elim}
use Prim.Native.Nat.{ℕ, ◌≤◌}
use native.Mathlib.Omega.{arith}
use lib.Dec.{leb, ltb}
use lib.ListN.{length, drop, drop_of_length-le}
use borrow.Author.Tests.{le-leb, le-ltb, ltb-true, lt-ltb}
use Rattle.laws.specs.Lists.{all, twice}
use Rattle.laws.proofs.Cases.{by_lt}
use Rattle.entity.specs.Limits.{unit_limit, block_limit, inst_limit, operand_limit, edit_limit}
use Rattle.bits.specs.declared.sets.NumberSet.{NumberSet}
use Rattle.bits.specs.Sets.{has, set_of, set_limit}
use Rattle.rules.specs.Sheet.{Sheet, ListRow, reg_count, block_count, inst_count, list_row}
use Rattle.rules.specs.Accept.{units_within, reuse_within, within_limits, unit_exists, reg_exists, class_exists, block_exists, all_named}
use Rattle.rules.proofs.Refusals.{in_limits, each_named}
use Rattle.table.specs.Rows.{count_in, kind_row}
use Rattle.table.specs.Sheet.{rows_at, sheet_in}
use Rattle.table.proofs.Sheets.{ReadOff, rows_long, rows_at_lem, regs_are, classes_are, groups_are, vgroups_are, succs_are, preds_are, clobs_are}
use Rattle.table.proofs.Loops.{and_right, all_at, all_same}
use Rattle.names.specs.Steps.{machine_within, group_named, edge_named, param_named, op_named, edit_named, clob_named, machine_named, code_named}
use Rattle.names.proofs.Rows.{by_rows}
use Rattle.names.proofs.Sets.{below, all_more, all_on, all_set_of}
use Rattle.names.proofs.Totals.{capped, capped_is}

-- ---- 2

-- by the code's steps
pub limits_by : (sh : Sheet) → within_limits sh ≡
    (machine_within sh
    && leb (block_count sh) block_limit
    && leb (inst_count sh) inst_limit
    && leb (length sh.ops) operand_limit
    && all (λ o. reuse_within o.constraint) sh.ops
    && all (λ c. units_within c.list) sh.clobs
    && leb (length sh.edits) edit_limit)
unfolding within_limits machine_within
limits_by sh = refl

-- ---- 3

and_last : (a b c d : Bool) → (a && b && c && d) ≡ (a && (b && c && d))
and_last true b c d = refl
and_last false b c d = refl

-- by the code's steps
pub names_by : (sh : Sheet) → all_named sh ≡
    (machine_named sh
    && all (λ b. Option-elim b.idom true (block_exists sh)) sh.blocks
    && all (edge_named sh) sh.succs
    && all (edge_named sh) sh.preds
    && all (param_named sh) sh.params
    && code_named sh (unit_exists sh) (inst_count sh))
unfolding all_named machine_named code_named
names_by sh =
    and_last
    (machine_named sh
    && all (λ b. Option-elim b.idom true (block_exists sh)) sh.blocks
    && all (edge_named sh) sh.succs
    && all (edge_named sh) sh.preds
    && all (param_named sh) sh.params)
    (all (op_named sh (inst_count sh)) sh.ops)
    (all (clob_named (unit_exists sh) (inst_count sh)) sh.clobs)
    (all (edit_named sh (inst_count sh)) sh.edits)

small : (limit : ℕ) → limit ≤ set_limit → (l : List ℕ) → all (λ y. ltb y limit) l ≡ true → below l ≡ true
small limit h l e = all_more (λ y. ltb y limit) (λ y. ltb y set_limit) (λ y p. lt-ltb y set_limit (omega (arith, ltb-true y limit p))) l e

-- what operands, clobbers and edits name, where the units are a set and the sum of instructions is capped
module _ (sh : Sheet) (w : within_limits sh ≡ true) {insts : ℕ} (e : insts ≡ capped (inst_count sh)) {s : NumberSet} (q : s ≡ set_of (unit_exists sh)) where
  pub code_is : code_named sh (has s) insts ≡ code_named sh (unit_exists sh) (inst_count sh)
  unfolding code_named units_within
  code_is =
      let r : insts ≡ inst_count sh = capped_is (inst_count sh) e (le-leb _ _ (in_limits sh w).few_insts) in
      rw (
        r,
        q,
        all_on (λ c. units_within c.list) (clob_named (has (set_of (unit_exists sh))) (inst_count sh)) (clob_named (unit_exists sh) (inst_count sh))
            (λ c u. ap (λ (b : Bool). ltb c.at (inst_count sh) && b) (all_set_of (unit_exists sh) c.list (small unit_limit (omega arith) c.list u)))
            sh.clobs (in_limits sh w).small_clobbers,
      )

-- ---- nothing twice

-- of lists that lie from field n on in the rows of kind k: all are below the limit of sets, and b says whether none has one thing twice
abbrev pub Once : List ℕ → ℕ → ℕ → Bool → Type 0
Once t k n b = (all (λ r. below (drop n r)) (rows_at t k) ≡ true) × (all (λ r. not (twice (drop n r))) (rows_at t k) ≡ b)

-- and so of one of them
pub below_at : (t : List ℕ) (k n : ℕ) → all (λ r. below (drop n r)) (rows_at t k) ≡ true → (i : ℕ) → below (drop n (kind_row t k i)) ≡ true
unfolding kind_row
below_at t k n e i =
    by_lt i (count_in t k) (λ h. ap (λ r. below (drop n r)) (sym (rows_at_lem t k i)) ∙ all_at (λ r. below (drop n r)) [] (rows_at t k) e i (omega (arith, rows_long t k)))
    (λ h. rw (le-ltb i (count_in t k) h) (ap below (drop_of_length-le [] {i = n} (omega arith))))

-- where each member is below a limit
once : {A : Type 0} {t : List ℕ} {k : ℕ} {f : List ℕ → A} {l : List A} (x : ReadOff t k f l) (g : A → List ℕ) (n : ℕ) → ((r : List ℕ) → g (f r) ≡ drop n r) → (limit : ℕ) → limit ≤ set_limit
    → all (λ a. all (λ y. ltb y limit) (g a)) l ≡ true → Once t k n (all (λ a. not (twice (g a))) l)
once {t = t} {k = k} {f = f} {l = l} x g n same limit h u = (
  sym (by_rows x (λ a. below (g a)) ∙ all_same (λ r. below (g (f r))) (λ r. below (drop n r)) (rows_at t k) (λ r. ap below (same r)))
      ∙ all_more (λ a. all (λ y. ltb y limit) (g a)) (λ a. below (g a)) (λ a p. small limit h (g a) p) l u,
  sym (by_rows x (λ a. not (twice (g a))) ∙ all_same (λ r. not (twice (g (f r)))) (λ r. not (twice (drop n r))) (rows_at t k) (λ r. ap (λ z. not (twice z)) (same r))),
)

edges_small : (sh : Sheet) (l : List ListRow) → all (edge_named sh) l ≡ true → all (λ a. all (block_exists sh) a.list) l ≡ true
edges_small sh l p = all_more (edge_named sh) (λ a. all (block_exists sh) a.list) (λ a q. and_right (block_exists sh a.at) _ q) l p

module _ (t : List ℕ) (w : within_limits (sheet_in t) ≡ true) where
  pub regs_once : Once t 1 3 (all (λ r. not (twice r.units)) (sheet_in t).regs)
  unfolding units_within
  regs_once = once (regs_are t) (λ a. a.units) 3 (λ r. refl) unit_limit (omega arith) (in_limits (sheet_in t) w).small_units

  pub clobs_once : Once t 11 2 (all (λ r. not (twice r.list)) (sheet_in t).clobs)
  unfolding units_within list_row
  clobs_once = once (clobs_are t) (λ a. a.list) 2 (λ r. refl) unit_limit (omega arith) (in_limits (sheet_in t) w).small_clobbers

  module _ (m : all_named (sheet_in t) ≡ true) where
    pub classes_once : Once t 2 3 (all (λ r. not (twice r.members)) (sheet_in t).classes)
    classes_once = once (classes_are t) (λ a. a.members) 3 (λ r. refl) _ (omega (arith, (in_limits (sheet_in t) w).few_regs)) (each_named (sheet_in t) m).classes

    pub groups_once : Once t 3 3 (all (λ r. not (twice r.regs)) (sheet_in t).groups)
    groups_once =
        once (groups_are t) (λ a. a.regs) 3 (λ r. refl) (reg_count (sheet_in t)) (omega (arith, (in_limits (sheet_in t) w).few_regs))
        (all_more (group_named (sheet_in t)) (λ a. all (reg_exists (sheet_in t)) a.regs) (λ a p. and_right (class_exists (sheet_in t) a.class) _ p) (sheet_in t).groups (each_named (sheet_in t) m).groups)

    pub vgroups_once : Once t 5 2 (all (λ g. not (twice g)) (sheet_in t).vgroups)
    vgroups_once = once (vgroups_are t) (λ a. a) 2 (λ r. refl) _ (omega (arith, (in_limits (sheet_in t) w).few_values)) (each_named (sheet_in t) m).vgroups

    pub succs_once : Once t 7 2 (all (λ r. not (twice r.list)) (sheet_in t).succs)
    unfolding list_row
    succs_once =
        once (succs_are t) (λ a. a.list) 2 (λ r. refl) (block_count (sheet_in t)) (omega (arith, (in_limits (sheet_in t) w).few_blocks)) (edges_small (sheet_in t) (sheet_in t).succs (each_named (sheet_in t) m).succs)

    pub preds_once : Once t 8 2 (all (λ r. not (twice r.list)) (sheet_in t).preds)
    unfolding list_row
    preds_once =
        once (preds_are t) (λ a. a.list) 2 (λ r. refl) (block_count (sheet_in t)) (omega (arith, (in_limits (sheet_in t) w).few_blocks)) (edges_small (sheet_in t) (sheet_in t).preds (each_named (sheet_in t) m).preds)
