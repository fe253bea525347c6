-- For src/wanted.rt, one edit or operand: what the code does to a set of slots is what the definitions do to a list of them. Assumes nothing.
--     is_without_all, is_with_all              membership in lists
--     same_with, same_without, same_all        sets and lists that have the same members
--     over_is, into_is, before_move, ..        the slots wanted before an edit
--     at_is, place_is, defs_is, uses_is        an operand, by its cells
use mathlib.Core.Path.{◌≡◌, refl, sym, ◌∙◌, ap, subst}
use mathlib.Core.Logic.{inl}
use mathlib.Core.Bool.{Bool, true, false, cond, not, ◌&&◌, ◌||◌}
use mathlib.Core.List.{List, [], ◌∷◌, ◌++◌, zip_with, append-nil, flat_map}
use Prim.Native.Nat.{ℕ, ◌<◌, ◌≤◌}
use native.Mathlib.Omega.{arith}
use lib.Dec.{eqb}
use lib.ListN.{get_or}
use borrow.Author.Tests.{eq-eqb, ne_eqb}
use Rattle.laws.specs.Fold.{run}
use Rattle.laws.specs.Lists.{is_in}
use Rattle.laws.proofs.Cases.{by_bool, by_eq, by_lt}
use Rattle.laws.proofs.Lists.{is_append, is_keep}
use Rattle.bits.specs.Sets.{has, set_of}
use Rattle.bits.specs.declared.sets.NumberSet.{NumberSet}
use Rattle.bits.proofs.Members.{has_set_of, has_past}
use Rattle.entity.specs.Limits.{slot_limit}
use Rattle.entity.specs.declared.numbers.PhysReg.{PhysReg}
use Rattle.entity.specs.declared.numbers.SpillSlot.{SpillSlot}
use Rattle.entity.specs.declared.numbers.Value.{Value}
use Rattle.entity.specs.declared.forms.Place.{Place}
use Rattle.entity.specs.declared.forms.Place.TheVariants.{Reg, Slot}
use Rattle.entity.specs.declared.forms.Edit.{Edit}
use Rattle.entity.specs.declared.forms.Edit.TheVariants.{Move, Remat, Espill, Ereload, Misplaced, Nothing}
use Rattle.entity.specs.declared.forms.OperandKind.{OperandKind}
use Rattle.entity.specs.declared.forms.OperandKind.TheVariants.{Def, Use, EarlyDef, DefGroup, UseGroup, EarlyDefGroup, NonAllocatable}
use Rattle.rules.specs.Words.{def_word, use_word, early_word}
use Rattle.rules.proofs.Words.{defg_word, earlyg_word, useg_word}
use Rattle.rules.specs.Cells.{word, find, words}
use Rattle.rules.specs.Sheet.{Sheet, OpRow, is_use, place_of, kind_of}
use Rattle.rules.specs.Forward.{members, all_defs}
use Rattle.rules.specs.Function.{edit, slot_of, into, over}
use Rattle.rules.specs.Sweep.{with, with_all, without_all, wanted_by, wanted_before}
use Rattle.table.specs.Sheet.{sheet_in}
use Rattle.table.specs.Rows.{kind_row}
use Rattle.table.specs.View.{op_row}
use Rattle.table.proofs.Sheets.{ops_are, part_of}
use Rattle.table.specs.Edits.{place_in}
use Rattle.dead_spill_elimination.specs.Slots.{Same, Low, LowReads, defs_at, uses_at}

-- ---- membership

module _ (k : ℕ) where
  pub is_without_all : (ds A : List ℕ) → is_in k (without_all ds A) ≡ (is_in k A && not (is_in k ds))
  unfolding without_all
  is_without_all ds A = is_keep k (λ s. not (is_in s ds)) A

  pub is_with : (q : ℕ) (A : List ℕ) → is_in k (with q A) ≡ (eqb k q || is_in k A)
  unfolding with is_in
  is_with q A = by_bool (is_in q A) (λ p. rw p (by_eq k q (λ e. rw (eq-eqb k q e, e) p) (λ e. rw (ne_eqb k q e)))) (λ p. rw p)

  pub is_with_all : (qs A : List ℕ) → is_in k (with_all qs A) ≡ (is_in k qs || is_in k A)
  unfolding with_all run is_in
  is_with_all [] A = refl
  is_with_all (q ∷ qs) A = is_with_all qs (with q A) ∙ rw (is_with q A) (turn (eqb k q) (is_in k qs) (is_in k A))
    where
      turn : (a b c : Bool) → (b || (a || c)) ≡ ((a || b) || c)
      turn true true c = refl
      turn true false c = refl
      turn false b c = refl

  pub is_one : (d : ℕ) → is_in k (d ∷ []) ≡ eqb k d
  unfolding is_in
  is_one d = by_bool (eqb k d) (λ p. rw p) (λ p. rw p)

-- ---- sets and lists

pub same_in : (S : NumberSet) (A B : List ℕ) → ((k : ℕ) → is_in k A ≡ is_in k B) → Same S A → Same S B
same_in S A B e h = record { at = λ k. h.at k ∙ e k; low = λ k l. sym (e k) ∙ h.low k l }

module _ (S T : NumberSet) (A : List ℕ) (h : Same S A) where
  -- a set made of a test that the members of B pass
  made_same : (f : ℕ → Bool) (B : List ℕ) → T ≡ set_of f → ((k : ℕ) → f k ≡ is_in k B) → ((k : ℕ) → slot_limit ≤ k → is_in k B ≡ false) → Same T B
  made_same f B q e l = rw q (record { at = λ k. by_lt k 256 (λ u. has_set_of f k u ∙ e k) (λ u. has_past f k u ∙ sym (l k (omega arith))); low = l })

  pub same_with : (s : ℕ) → s < slot_limit → T ≡ set_of (λ k. has S k || eqb k s) → Same T (s ∷ A)
  unfolding is_in
  same_with s l q =
      made_same (λ k. has S k || eqb k s) (s ∷ A) q
      (λ k. rw (h.at k) (by_bool (is_in k A) (λ p. rw p (by_bool (eqb k s) (λ u. rw u) (λ u. rw u))) (λ p. rw p (by_bool (eqb k s) (λ u. rw u) (λ u. rw u)))))
      (λ k m. rw (ne_eqb k s (λ e. omega arith)) (h.low k m))

  pub same_without : (d : ℕ) → T ≡ set_of (λ k. has S k && not (eqb k d)) → Same T (without_all (d ∷ []) A)
  same_without d q =
      let e : (k : ℕ) → is_in k (without_all (d ∷ []) A) ≡ (is_in k A && not (eqb k d)) = λ k. is_without_all k (d ∷ []) A ∙ ap (λ (b : Bool). is_in k A && not b) (is_one k d) in
      made_same (λ k. has S k && not (eqb k d)) (without_all (d ∷ []) A) q (λ k. ap (λ (b : Bool). b && not (eqb k d)) (h.at k) ∙ sym (e k)) (λ k m. e k ∙ rw (h.low k m))

pub same_all : (S : NumberSet) (A : List ℕ) → Same S A → Same S (without_all [] A)
unfolding is_in
same_all S A h = same_in S A (without_all [] A) (λ k. sym (is_without_all k [] A ∙ none (is_in k A))) h
  where
    none : (b : Bool) → (b && not false) ≡ b
    none true = refl
    none false = refl

-- ---- places

module _ (S T : NumberSet) (A : List ℕ) where
  pub place_with : {p : Place} {s : SpillSlot} → p ≡ Slot s → T ≡ set_of (λ k. has S k || eqb k s.0) → Low (slot_of p) → Same S A → Same T (slot_of p ++ A)
  unfolding slot_of
  place_with {s = s} q e = subst (λ (x : Place). Low (slot_of x) → Same S A → Same T (slot_of x ++ A)) (sym q) (λ l h. same_with S T A h s.0 (l s.0 (inl refl)) e)

  pub place_without : {p : Place} {s : SpillSlot} → p ≡ Slot s → T ≡ set_of (λ k. has S k && not (eqb k s.0)) → Same S A → Same T (without_all (slot_of p) A)
  unfolding slot_of
  place_without {s = s} q e = subst (λ (x : Place). Same S A → Same T (without_all (slot_of x) A)) (sym q) (λ h. same_without S T A h s.0 e)

module _ (S : NumberSet) (A : List ℕ) where
  pub reg_with : {p : Place} {r : PhysReg} → p ≡ Reg r → Low (slot_of p) → Same S A → Same S (slot_of p ++ A)
  unfolding slot_of
  reg_with q = subst (λ (x : Place). Low (slot_of x) → Same S A → Same S (slot_of x ++ A)) (sym q) (λ l h. h)

  pub reg_without : {p : Place} {r : PhysReg} → p ≡ Reg r → Same S A → Same S (without_all (slot_of p) A)
  unfolding slot_of
  reg_without q = subst (λ (x : Place). Same S A → Same S (without_all (slot_of x) A)) (sym q) (λ h. same_all S A h)

-- ---- edits

-- the slots rs with those of A that are not in ds, and the list wanted before an operation
over_is : (T : NumberSet) (ds rs A : List ℕ) → Same T (rs ++ without_all ds A) → Same T (wanted_by (over ds) rs A)
unfolding wanted_by
over_is T ds rs A h = same_in T (rs ++ without_all ds A) (with_all rs (without_all ds A)) (λ k. is_append k rs (without_all ds A) ∙ sym (is_with_all k rs (without_all ds A))) h

into_is : (T : NumberSet) (d : ℕ) (rs A : List ℕ) → is_in d A ≡ true → Same T (rs ++ without_all (d ∷ []) A) → Same T (wanted_by (into d) rs A)
unfolding wanted_by
into_is T d rs A e h = rw e (over_is T (d ∷ []) rs A h)

-- a move into slot d: the set tells if it is wanted
module _ (S T U : NumberSet) (A : List ℕ) (d : SpillSlot) (p : Place) where
  pub moved_hit : has S d.0 ≡ true → T ≡ set_of (λ k. has S k && not (eqb k d.0)) → ((B : List ℕ) → Low (slot_of p) → Same T B → Same U (slot_of p ++ B))
      → Low (slot_of p) → Same S A → Same U (wanted_by (into d.0) (slot_of p) A)
  moved_hit e q f l h = into_is U d.0 (slot_of p) A (sym (h.at d.0) ∙ e) (f (without_all (d.0 ∷ []) A) l (same_without S T A h d.0 q))

pub moved_miss : (S : NumberSet) (A : List ℕ) (d : SpillSlot) (p : Place) → has S d.0 ≡ false → Same S A → Same S (wanted_by (into d.0) (slot_of p) A)
unfolding wanted_by
moved_miss S A d p e h = let z : is_in d.0 A ≡ false = sym (h.at d.0) ∙ e in rw z h

-- a slot that is not there is taken away for nothing
without_none : (d : ℕ) (A : List ℕ) → is_in d A ≡ false → (k : ℕ) → is_in k (without_all (d ∷ []) A) ≡ is_in k A
without_none d A e k =
    is_without_all k (d ∷ []) A ∙ rw (is_one k d) (by_eq k d (λ q. rw (q, e)) (λ n. rw (ne_eqb k d n) (all (is_in k A))))
  where
    all : (b : Bool) → (b && not false) ≡ b
    all true = refl
    all false = refl

remat_is : (T : NumberSet) (A : List ℕ) (to : Place) (v : Value) → Same T (without_all (slot_of to) A) → Same T (wanted_before (edit (Remat to v)) A)
unfolding wanted_before wanted_by slot_of
remat_is T A (Reg r) v x = over_is T [] [] A x
remat_is T A (Slot d) v x =
    by_bool (is_in d.0 A) (λ e. into_is T d.0 [] A e x) (λ e. rw e (same_in T (without_all (d.0 ∷ []) A) A (without_none d.0 A e) x))

module _ (S T : NumberSet) (A : List ℕ) where
  abbrev Before : Edit → Type 0
  Before x = LowReads (edit x) → Same S A → Same T (wanted_before (edit x) A)

  pub before_move : {e : Edit} {to p : Place} {v : Value} {d : SpillSlot} → e ≡ Move to p v → to ≡ Slot d → (Low (slot_of p) → Same S A → Same T (wanted_by (into d.0) (slot_of p) A)) → Before e
  unfolding wanted_before
  before_move {p = p} {v = v} q r f = subst Before (sym (q ∙ ap (λ (y : Place). Move y p v) r)) f

  pub before_load : {e : Edit} {to p : Place} {v : Value} {r : PhysReg} → e ≡ Move to p v → to ≡ Reg r → ((B : List ℕ) → Low (slot_of p) → Same S B → Same T (slot_of p ++ B)) → Before e
  unfolding wanted_before
  before_load {p = p} {v = v} q z f =
      subst Before (sym (q ∙ ap (λ (y : Place). Move y p v) z)) (λ l h. over_is T [] (slot_of p) A (f (without_all [] A) l (same_all S A h)))

  pub before_remat : {e : Edit} {to : Place} {v : Value} → e ≡ Remat to v → (Same S A → Same T (without_all (slot_of to) A)) → Before e
  before_remat {to = to} {v = v} q f = subst Before (sym q) (λ l h. remat_is T A to v (f h))

  pub before_espill : {e : Edit} {d : SpillSlot} {r : PhysReg} → e ≡ Espill d r → T ≡ set_of (λ k. has S k && not (eqb k d.0)) → Before e
  unfolding wanted_before
  before_espill {d = d} q z = subst Before (sym q) (λ l h. over_is T (d.0 ∷ []) [] A (same_without S T A h d.0 z))

  pub before_ereload : {e : Edit} {d : SpillSlot} {r : PhysReg} → e ≡ Ereload r d → T ≡ set_of (λ k. has S k || eqb k d.0) → Before e
  unfolding wanted_before
  before_ereload {d = d} q z = subst Before (sym q) (λ l h. over_is T [] (d.0 ∷ []) A (same_with S T (without_all [] A) (same_all S A h) d.0 (l d.0 (inl refl)) z))

module _ (S : NumberSet) (A : List ℕ) {e : Edit} where
  pub before_misplaced : {to p : Place} → e ≡ Misplaced to p → Before S S A e
  unfolding wanted_before
  before_misplaced q = subst (Before S S A) (sym q) (λ l h. over_is S [] [] A (same_all S A h))

  pub before_none : e ≡ Nothing → Before S S A e
  unfolding wanted_before
  before_none q = subst (Before S S A) (sym q) (λ l h. over_is S [] [] A (same_all S A h))

-- ---- operands

-- the kind of an operand, by its word: a, b, .. are the tests for the words
abbrev kind_by : ℕ → Bool → Bool → Bool → Bool → Bool → Bool → OperandKind
kind_by v a b c d e f =
    cond a (Def (record { 0 = v })) (cond b (Use (record { 0 = v })) (cond c (EarlyDef (record { 0 = v }))
    (cond d (DefGroup (record { 0 = v })) (cond e (UseGroup (record { 0 = v })) (cond f (EarlyDefGroup (record { 0 = v })) NonAllocatable)))))

-- a `def` or an `early`: of the operands that define, those that may define a slot
abbrev defines_one : OperandKind → Bool
defines_one k = elim k [ Def v ↦ true | EarlyDef v ↦ true | Use v ↦ false | DefGroup g ↦ false | UseGroup g ↦ false | EarlyDefGroup g ↦ false | NonAllocatable ↦ false ]

no_slots : (vs qs : List ℕ) → flat_map (λ (d : ℕ × Place). slot_of d.1) (zip_with (λ v q. (v, Reg (record { 0 = q }))) vs qs) ≡ []
unfolding flat_map zip_with slot_of
no_slots [] qs = refl
no_slots (v ∷ vs) [] = refl
no_slots (v ∷ vs) (q ∷ qs) = no_slots vs qs

-- a group's members are registers
member_slots : (sh : Sheet) (o : OpRow) (g : ℕ) (p : Place) → o.place ≡ p → flat_map (λ (d : ℕ × Place). slot_of d.1) (members sh o g) ≡ []
unfolding members flat_map
member_slots sh o g (Reg r) e = rw e (no_slots _ _)
member_slots sh o g (Slot t) e = rw e

def_slots : (sh : Sheet) (o : OpRow) (k : OperandKind) → o.kind ≡ k → flat_map (λ (d : ℕ × Place). slot_of d.1) (all_defs sh o) ≡ cond (defines_one o.kind) (slot_of o.place) []
unfolding all_defs flat_map
def_slots sh o (Def v) e = rw e (append-nil (slot_of o.place))
def_slots sh o (EarlyDef v) e = rw e (append-nil (slot_of o.place))
def_slots sh o (DefGroup g) e = rw e (member_slots sh _ g.0 _ refl)
def_slots sh o (EarlyDefGroup g) e = rw e (member_slots sh _ g.0 _ refl)
def_slots sh o (Use v) e = rw e
def_slots sh o (UseGroup g) e = rw e
def_slots sh o NonAllocatable e = rw e

module _ (k v : ℕ) where
  use_word_lem : is_use (kind_of k v) ≡ eqb k use_word
  unfolding is_use kind_of word find words
  use_word_lem =
      by_eq k use_word (λ e. rw e)
      (λ n.
      rw (ne_eqb k use_word n) (other (eqb k def_word) (eqb k early_word) (eqb k defg_word) (eqb k useg_word) (eqb k earlyg_word)))
    where
      other : (a b c d e : Bool) → is_use (kind_by v a false b c d e) ≡ false
      other true b c d e = refl
      other false true c d e = refl
      other false false true d e = refl
      other false false false true e = refl
      other false false false false true = refl
      other false false false false false = refl

  def_word_lem : defines_one (kind_of k v) ≡ (eqb k def_word || eqb k early_word)
  unfolding kind_of word find words
  def_word_lem =
      by_eq k def_word (λ e. rw e)
      (λ n.
      by_eq k early_word (λ e. rw e)
      (λ m. rw (ne_eqb k def_word n, ne_eqb k early_word m) (other (eqb k use_word) (eqb k defg_word) (eqb k useg_word) (eqb k earlyg_word))))
    where
      other : (a c d e : Bool) → defines_one (kind_by v false a false c d e) ≡ false
      other true c d e = refl
      other false true d e = refl
      other false false true e = refl
      other false false false true = refl
      other false false false false = refl

-- operand row n, by its cells
module _ (t places : List ℕ) (n : ℕ) where
  abbrev row : List ℕ
  row = kind_row t 10 n

  kind_is : (op_row (sheet_in t) n).kind ≡ kind_of (get_or row 2 0) (get_or row 3 0)
  unfolding kind_of word find words
  kind_is = part_of (ops_are t) (λ o. o.kind) n _ refl

  pub at_is : (op_row (sheet_in t) n).at ≡ get_or row 1 0
  at_is = part_of (ops_are t) (λ o. o.at) n _ refl

  pub place_is : (op_row (sheet_in t) n).place ≡ place_of (get_or row 5 0)
  unfolding place_of
  place_is = part_of (ops_are t) (λ o. o.place) n _ refl

  pub defs_is : defs_at t n ≡ cond (eqb (get_or row 2 0) def_word || eqb (get_or row 2 0) early_word) (slot_of (place_of (get_or row 5 0))) []
  unfolding defs_at
  defs_is = def_slots (sheet_in t) (op_row (sheet_in t) n) _ refl ∙ rw (kind_is, def_word_lem (get_or row 2 0) (get_or row 3 0), place_is)

  pub uses_is : uses_at t places n ≡ cond (eqb (get_or row 2 0) use_word) (slot_of (place_of (get_or places n 0))) []
  unfolding uses_at place_in
  uses_is = rw (kind_is, use_word_lem (get_or row 2 0) (get_or row 3 0))
