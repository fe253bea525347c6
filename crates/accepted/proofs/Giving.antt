-- For the theorem `accepted_gives`: each rule of 2 to 6 and 9 to 12 out of the checks. Assumes nothing.
use mathlib.Core.Path.{◌≡◌, refl, sym, ◌∙◌, ap}
use mathlib.Core.Bool.{Bool, true, ◌&&◌, false≢true}
use mathlib.Core.List.{List, [], ◌∷◌}
use mathlib.Core.Option.{none, some, Option-elim}
use Prim.Native.Nat.{ℕ, ◌+◌, ◌≤◌, ◌<◌}
use native.Mathlib.Omega.{arith}
use lib.Dec.{eqb, leb, ltb}
use lib.ListN.{length, get_or}
use borrow.Author.Tests.{ltb-true, leb-true, eqb-true, eq-eqb, lt-leb}
use Rattle.laws.specs.Lists.{all, any, is_in, from}
use Rattle.laws.proofs.Cases.{by_bool, some_ne_none}
use Rattle.laws.proofs.Lists.{from_long}
use Rattle.entity.specs.declared.forms.Refusal.{Refusal}
use Rattle.rules.specs.Sheet.{Sheet, OpRow, block_count, block_row, succs_of, preds_of}
use Rattle.rules.specs.Accept.{within_limits, names_hold, all_named, none_twice, heads_apart, is_entry, some_entry, filled, named_back, entry_first, no_critical_edge, edges_hold, sole_pred_smaller, idom_smaller, smaller_hold, is_reached, each_block, operands_hold, constraint_holds, fixed_holds, group_holds, edits_hold, in_order, placed, paired, edits_in, pair_holds}
use Rattle.rules.specs.Answer.{first_refusal, block_check, block_checks, checks}
use Rattle.rules.proofs.Refusals.{in_limits}
use Rattle.table.proofs.Loops.{and_left, and_right, all_at}
use Rattle.table.proofs.Beginnings.{from_at}
use Rattle.accept.proofs.Reaching.{reached_by_steps}
use Rattle.accepted.specs.Accepted.{Accepted}

-- ---- lists

each_number : (f : ℕ → Bool) (n : ℕ) → all f (from 0 n) ≡ true → (b : ℕ) → b < n → f b ≡ true
each_number f n e b h =
    let z : 0 + b ≡ b = omega arith in
    let l : b < length (from 0 n) = rw (from_long 0 n) h in
    sym (ap f (from_at 0 n b h ∙ z)) ∙ all_at f 0 (from 0 n) e b l

in_all : (f : ℕ → Bool) (l : List ℕ) (t : ℕ) → all f l ≡ true → is_in t l ≡ true → f t ≡ true
unfolding is_in
in_all f [] t e m = absurd (false≢true m)
in_all f (y ∷ ys) t e m =
    by_bool (eqb t y) (λ p. let q : t ≡ y = eqb-true t y p in rw q (and_left (f y) (all f ys) e))
    (λ p. let m' : any (eqb t) ys ≡ true = rw p at m in in_all f ys t (and_right (f y) (all f ys) e) m')

module _ {A : Type 0} (f g : A → Bool) where
  all_left : (l : List A) → all (λ x. f x && g x) l ≡ true → all f l ≡ true
  all_left [] e = refl
  all_left (x ∷ l) e =
      let p = and_left (f x && g x) (all (λ x. f x && g x) l) e in
      rw (and_left (f x) (g x) p) (all_left l (and_right (f x && g x) (all (λ x. f x && g x) l) e))

  all_right : (l : List A) → all (λ x. f x && g x) l ≡ true → all g l ≡ true
  all_right [] e = refl
  all_right (x ∷ l) e =
      let p = and_left (f x && g x) (all (λ x. f x && g x) l) e in
      rw (and_right (f x) (g x) p) (all_right l (and_right (f x && g x) (all (λ x. f x && g x) l) e))

-- ---- the checks

-- no check fails: each is kept
all_kept : (cs : List (Bool × Refusal)) → first_refusal cs ≡ none → all (λ c. c.0) cs ≡ true
unfolding first_refusal
all_kept [] e = refl
all_kept (c ∷ cs) e = by_bool c.0 (λ p. rw p (all_kept cs (rw p at e))) (λ p. some_ne_none {a = c.1} (rw p) e)

pub record Passed (sh : Sheet) : Type 0 where
  pub limits : within_limits sh ≡ true
  pub names : names_hold sh ≡ true
  pub has_entry : some_entry sh ≡ true
  pub none_empty : each_block sh (filled sh) ≡ true
  pub agree : each_block sh (named_back sh) ≡ true
  pub edges : each_block sh (edges_hold sh) ≡ true
  pub smaller : each_block sh (smaller_hold sh) ≡ true
  pub reached : each_block sh (is_reached sh) ≡ true
  pub operands : operands_hold sh ≡ true
  pub edits : edits_hold sh ≡ true

pub passed : (sh : Sheet) → first_refusal (checks sh) ≡ none → Passed sh
unfolding checks block_checks block_check
passed sh e =
    let e₀ = all_kept (checks sh) e in
    let e₁ = and_right (within_limits sh) _ e₀ in
    let e₂ = and_right (names_hold sh) _ e₁ in
    let e₃ = and_right (some_entry sh) _ e₂ in
    let e₄ = and_right (each_block sh (filled sh)) _ e₃ in
    let e₅ = and_right (each_block sh (named_back sh)) _ e₄ in
    let e₆ = and_right (each_block sh (edges_hold sh)) _ e₅ in
    let e₇ = and_right (each_block sh (smaller_hold sh)) _ e₆ in
    let e₈ = and_right (each_block sh (is_reached sh)) _ e₇ in
    let e₉ = and_right (operands_hold sh) _ e₈ in
    record {
      limits = and_left (within_limits sh) _ e₀;
      names = and_left (names_hold sh) _ e₁;
      has_entry = and_left (some_entry sh) _ e₂;
      none_empty = and_left (each_block sh (filled sh)) _ e₃;
      agree = and_left (each_block sh (named_back sh)) _ e₄;
      edges = and_left (each_block sh (edges_hold sh)) _ e₅;
      smaller = and_left (each_block sh (smaller_hold sh)) _ e₆;
      reached = and_left (each_block sh (is_reached sh)) _ e₇;
      operands = and_left (operands_hold sh) _ e₈;
      edits = and_left (edits_hold sh) _ e₉;
    }

pub lists_agree : (sh : Sheet) → first_refusal (checks sh) ≡ none → each_block sh (named_back sh) ≡ true
lists_agree sh e = (passed sh e).agree

-- ---- 4 and 9 to 12, rule by rule

module _ (sh : Sheet) (r : Passed sh) where
  at_block : (f : ℕ → Bool) → each_block sh f ≡ true → (b : ℕ) → b < block_count sh → f b ≡ true
  unfolding each_block
  at_block f e b h = each_number f (block_count sh) e b h

  succ_pred : (a t : ℕ) → a < block_count sh → is_in t (succs_of sh a) ≡ true → is_in a (preds_of sh t) ≡ true
  unfolding named_back
  succ_pred a t h m =
      in_all (λ t. is_in a (preds_of sh t)) (succs_of sh a) t (and_left (all (λ t. is_in a (preds_of sh t)) (succs_of sh a)) _ (at_block (named_back sh) r.agree a h)) m

  pred_succ : (b p : ℕ) → b < block_count sh → is_in p (preds_of sh b) ≡ true → is_in b (succs_of sh p) ≡ true
  unfolding named_back
  pred_succ b p h m =
      in_all (λ p. is_in b (succs_of sh p)) (preds_of sh b) p (and_right (all (λ t. is_in b (preds_of sh t)) (succs_of sh b)) _ (at_block (named_back sh) r.agree b h)) m

  not_empty : (b : ℕ) → b < block_count sh → 0 < (block_row sh b).instructions
  unfolding filled
  not_empty b h = ltb-true 0 (block_row sh b).instructions (at_block (filled sh) r.none_empty b h)

  entry_first_lem : (b : ℕ) → b < block_count sh → is_entry sh b ≡ true → length (preds_of sh b) ≡ 0
  unfolding edges_hold entry_first
  entry_first_lem b h m =
      let x = and_left (entry_first sh b) (no_critical_edge sh b) (at_block (edges_hold sh) r.edges b h) in
      let y : eqb (length (preds_of sh b)) 0 ≡ true = rw m at x in eqb-true _ _ y

  sole_pred : (b : ℕ) → b < block_count sh → length (preds_of sh b) ≡ 1 → get_or (preds_of sh b) 0 0 < b
  unfolding smaller_hold sole_pred_smaller
  sole_pred b h m =
      let x = and_left (sole_pred_smaller sh b) (idom_smaller sh b) (at_block (smaller_hold sh) r.smaller b h) in
      let y : ltb (get_or (preds_of sh b) 0 0) b ≡ true = rw (eq-eqb (length (preds_of sh b)) 1 m) at x in ltb-true _ _ y

  smaller_idom : (b i : ℕ) → b < block_count sh → (block_row sh b).idom ≡ some i → i < b
  unfolding smaller_hold idom_smaller Option-elim
  smaller_idom b i h m =
      let x = and_right (sole_pred_smaller sh b) (idom_smaller sh b) (at_block (smaller_hold sh) r.smaller b h) in
      let y : ltb i b ≡ true = rw m at x in ltb-true i b y

  no_critical_edges : (b t : ℕ) → b < block_count sh → 1 < length (succs_of sh b) → is_in t (succs_of sh b) ≡ true → length (preds_of sh t) ≤ 1
  unfolding edges_hold no_critical_edge
  no_critical_edges b t h l m =
      let x = and_right (entry_first sh b) (no_critical_edge sh b) (at_block (edges_hold sh) r.edges b h) in
      let y : all (λ t. leb (length (preds_of sh t)) 1) (succs_of sh b) ≡ true = rw (lt-leb (length (succs_of sh b)) 1 l) at x in
      leb-true _ _ (in_all (λ t. leb (length (preds_of sh t)) 1) (succs_of sh b) t y m)

-- ---- all of it

pub gives : (sh : Sheet) → first_refusal (checks sh) ≡ none → Accepted sh
unfolding names_hold operands_hold edits_hold
gives sh e =
    let p = passed sh e in
    let w = in_limits sh p.limits in
    let named = and_left (all_named sh && none_twice sh) (heads_apart sh.groups) p.names in
    let two : OpRow → Bool = λ o. constraint_holds sh o && fixed_holds sh o in
    let both = all_left two (group_holds sh) sh.ops p.operands in
    let ordered = in_order sh.edits && all (λ x. placed x.edit) sh.edits in
    let pairs = all (λ b. paired none (edits_in sh b)) (from 0 (block_count sh)) in
    let three = and_left (ordered && pairs) (all (λ x. pair_holds sh x.edit) sh.edits) p.edits in
    let first = and_left ordered pairs three in
    record {
      few_slots = w.few_slots;
      few_regs = w.few_regs;
      few_classes = w.few_classes;
      few_groups = w.few_groups;
      few_values = w.few_values;
      few_vgroups = w.few_vgroups;
      few_blocks = w.few_blocks;
      few_insts = w.few_insts;
      few_ops = w.few_ops;
      few_edits = w.few_edits;
      reg_units = w.small_units;
      clob_units = w.small_clobbers;
      reuses = w.small_reuses;
      named = and_left (all_named sh) (none_twice sh) named;
      once_each = and_right (all_named sh) (none_twice sh) named;
      apart_heads = and_right (all_named sh && none_twice sh) (heads_apart sh.groups) p.names;
      succ_pred = succ_pred sh p;
      pred_succ = pred_succ sh p;
      has_entry = p.has_entry;
      none_empty = not_empty sh p;
      entry_first = entry_first_lem sh p;
      sole_pred = sole_pred sh p;
      idom = smaller_idom sh p;
      no_critical_edges = no_critical_edges sh p;
      reached = (reached_by_steps sh).0 p.reached;
      constraints = all_left (constraint_holds sh) (fixed_holds sh) sh.ops both;
      fixed = all_right (constraint_holds sh) (fixed_holds sh) sh.ops both;
      groups = all_right two (group_holds sh) sh.ops p.operands;
      order = and_left (in_order sh.edits) (all (λ x. placed x.edit) sh.edits) first;
      all_placed = and_right (in_order sh.edits) (all (λ x. placed x.edit) sh.edits) first;
      pairs = λ b h. each_number (λ b. paired none (edits_in sh b)) (block_count sh) (and_right ordered pairs three) b h;
      pairs_apart = and_right (ordered && pairs) (all (λ x. pair_holds sh x.edit) sh.edits) p.edits;
    }
