-- For `NeverFalls` and `Rises` of specs/Index.antt: the order of the rows of a sheet, and of those of a table that is ready. Assumes nothing.
use mathlib.Core.Path.{◌≡◌, refl, sym, ap, ◌∙◌}
use mathlib.Core.Bool.{Bool, true, ◌&&◌}
use mathlib.Core.List.{List, [], ◌∷◌, map}
use mathlib.Core.Option.{some, Option-elim}
use Prim.Native.Nat.{ℕ, zero, suc, ◌≤◌, ◌<◌}
use native.Mathlib.Nat.{le_trans, lt_trans}
use native.Mathlib.Omega.{arith}
use lib.Dec.{eqb, leb}
use lib.ListN.{length, get_or, length-map, get_or-map}
use borrow.Author.Tests.{le-ltb, eq-eqb, ne_eqb, ltb-true, leb-true, eqb-true}
use Rattle.laws.specs.Lists.{all, keep}
use Rattle.laws.proofs.Cases.{by_bool, by_lt, by_option}
use Rattle.rules.proofs.Words.{clob_word, op_word, param_word, pred_word, succ_word}
use Rattle.rules.specs.Cells.{word}
use Rattle.rules.specs.Rows.{Kind, rises, never_falls, number, place, list₁, end, ◌▸◌, op_shape, kinds, kind_from, kind, first, goes_on, pair_ok, pairs_ok, row_ok, sheet_ok, reading}
use Rattle.rules.specs.Sheet.{EditRow}
use Rattle.rules.specs.Accept.{in_order}
use Rattle.table.specs.Sheet.{rows_at}
use Rattle.table.specs.Index.{of_kind, NeverFalls, Rises, Ready}
use Rattle.table.proofs.Loops.{and_left, and_right, never, all_at}
use Rattle.table.proofs.Sheets.{rows_are, edit_row_of}

-- ---- one row after another

-- kinds never fall
pub pair_kind : (p r : List ℕ) → pair_ok p r ≡ true → kind p ≤ kind r
unfolding pair_ok Option-elim
pair_kind p r e =
    by_lt (kind r) (kind p)
    (λ h.
    by_option (kind_from kinds (kind r)) (λ n. never (rw n at e))
    (λ k s. never (rw (s, le-ltb (kind p) (kind r) (omega arith), ne_eqb (kind p) (kind r) (λ q. omega arith)) at e)))
    (λ h. h)

-- within a kind, first fields go on
pair_goes : (k : Kind) (p r : List ℕ) → kind_from kinds (kind r) ≡ some k → pair_ok p r ≡ true → kind p ≡ kind r → goes_on k.order (first p) (first r) ≡ true
unfolding pair_ok Option-elim
pair_goes k p r s e q = rw (s, le-ltb (kind p) (kind r) (omega arith), eq-eqb (kind p) (kind r) q) at e

later_kind : (p : List ℕ) (rs : List (List ℕ)) → pairs_ok p rs ≡ true → (j : ℕ) → j < length rs → kind p ≤ kind (get_or rs j [])
unfolding pairs_ok
later_kind p [] e j h = absurd (omega arith)
later_kind p (r ∷ rs) e zero h = pair_kind p r (and_left (pair_ok p r) (pairs_ok r rs) e)
later_kind p (r ∷ rs) e (suc j) h =
    le_trans (pair_kind p r (and_left (pair_ok p r) (pairs_ok r rs) e)) (later_kind r rs (and_right (pair_ok p r) (pairs_ok r rs) e) j (omega arith))

-- what holds of those that are kept
module _ {A : Type 0} (f : A → Bool) (d : A) (P : A → Type 0) where
  first_then : (x : A) (l : List A) → P x → ((j : ℕ) → j < length l → P (get_or l j d)) → (j : ℕ) → j < length (x ∷ l) → P (get_or (x ∷ l) j d)
  first_then x l p q zero u = p
  first_then x l p q (suc j) u = q j (omega arith)

  keep_each : (l : List A) → ((j : ℕ) → j < length l → f (get_or l j d) ≡ true → P (get_or l j d)) → (j : ℕ) → j < length (keep f l) → P (get_or (keep f l) j d)
  unfolding keep
  keep_each [] h = λ j u. absurd (omega arith)
  keep_each (x ∷ l) h =
      by_bool (f x)
      (λ e. rw e (first_then x (keep f l) (h 0 (omega arith) e) (keep_each l (λ j u. h (suc j) (omega arith)))))
      (λ e. rw e (keep_each l (λ j u. h (suc j) (omega arith))))

-- ---- two rows of a kind

abbrev Pairs : (ℕ → ℕ → Type 0) → List (List ℕ) → Type 0
Pairs R l = (i j : ℕ) → i < j → j < length l → R (first (get_or l i [])) (first (get_or l j []))

pairs_cons : (R : ℕ → ℕ → Type 0) (p : List ℕ) (l : List (List ℕ)) → ((j : ℕ) → j < length l → R (first p) (first (get_or l j []))) → Pairs R l → Pairs R (p ∷ l)
pairs_cons R p l f g zero zero h u = absurd (omega arith)
pairs_cons R p l f g zero (suc j) h u = f j (omega arith)
pairs_cons R p l f g (suc i) zero h u = absurd (omega arith)
pairs_cons R p l f g (suc i) (suc j) h u = g i j (omega arith) (omega arith)

module _ (R : ℕ → ℕ → Type 0) (trans : (x y z : ℕ) → R x y → R y z → R x z) (c : ℕ) (k : Kind) (s : kind_from kinds c ≡ some k)
    (goes : (x y : ℕ) → goes_on k.order x y ≡ true → R x y) where
  on_from : (p : List ℕ) (rs : List (List ℕ)) → pairs_ok p rs ≡ true → kind p ≡ c → (j : ℕ) → j < length rs → kind (get_or rs j []) ≡ c → R (first p) (first (get_or rs j []))
  unfolding pairs_ok
  on_from p [] e q j h z = absurd (omega arith)
  on_from p (r ∷ rs) e q zero h z = goes (first p) (first r) (pair_goes k p r (ap (kind_from kinds) z ∙ s) (and_left (pair_ok p r) (pairs_ok r rs) e) (q ∙ sym z))
  on_from p (r ∷ rs) e q (suc j) h z =
      let a = and_left (pair_ok p r) (pairs_ok r rs) e in
      let b = and_right (pair_ok p r) (pairs_ok r rs) e in
      let m : kind r ≡ c = omega (arith, pair_kind p r a, later_kind r rs b j (omega arith)) in
      trans (first p) (first r) (first (get_or rs j []))
      (goes (first p) (first r) (pair_goes k p r (ap (kind_from kinds) m ∙ s) a (q ∙ sym m)))
      (on_from r rs b m j (omega arith) z)

  abbrev of_c : List ℕ → Bool
  of_c r = eqb (kind r) c

  pairs_of : (p : List ℕ) (rs : List (List ℕ)) → pairs_ok p rs ≡ true → Pairs R (keep of_c (p ∷ rs))
  unfolding keep pairs_ok
  pairs_of p [] e =
      by_bool (of_c p) (λ t. rw t (pairs_cons R p [] (λ j u. absurd (omega arith)) (λ i j h u. absurd (omega arith)))) (λ t. rw t (λ i j h u. absurd (omega arith)))
  pairs_of p (r ∷ rs) e =
      let b = and_right (pair_ok p r) (pairs_ok r rs) e in
      by_bool (of_c p)
      (λ t.
      rw t
      (pairs_cons R p (keep of_c (r ∷ rs))
      (keep_each of_c [] (λ x. R (first p) (first x)) (r ∷ rs) (λ j u z. on_from p (r ∷ rs) e (eqb-true (kind p) c t) j u (eqb-true (kind (get_or (r ∷ rs) j [])) c z)))
      (pairs_of r rs b)))
      (λ t. rw t (pairs_of r rs b))

  pub sheet_pairs : (rs : List (List ℕ)) → sheet_ok rs ≡ true → Pairs R (keep of_c rs)
  unfolding sheet_ok
  sheet_pairs [] e = never e
  sheet_pairs (r ∷ rs) e = pairs_of r rs (and_right (eqb (kind r) (word "slots") && all row_ok (r ∷ rs)) (pairs_ok r rs) e)

never_falls_of : (l : List (List ℕ)) → Pairs ◌≤◌ l → NeverFalls l
never_falls_of l p i j h u = by_lt i j (λ l. p i j l u) (λ l. let e : i ≡ j = omega arith in rw e (omega arith))

-- ---- the kinds that are in order

module _ (rs : List (List ℕ)) (e : sheet_ok rs ≡ true) where
  rising : (c : ℕ) (k : Kind) → kind_from kinds c ≡ some k → k.order ≡ rises → Rises (keep (λ r. eqb (kind r) c) rs)
  unfolding goes_on
  rising c k s o = sheet_pairs ◌<◌ (λ x y z. lt_trans) c k s (λ x y g. ltb-true x y (rw o at g)) rs e

  never_falling : (c : ℕ) (k : Kind) → kind_from kinds c ≡ some k → k.order ≡ never_falls → NeverFalls (keep (λ r. eqb (kind r) c) rs)
  unfolding goes_on
  never_falling c k s o = never_falls_of (keep (λ r. eqb (kind r) c) rs) (sheet_pairs ◌≤◌ (λ x y z. le_trans) c k s (λ x y g. leb-true x y (rw o at g)) rs e)

  pub succs_rise : Rises (of_kind 7 rs)
  unfolding reading
  succs_rise = rising succ_word (record { name = "succ"; order = rises; shape = number ▸ list₁ }) refl refl

  pub preds_rise : Rises (of_kind 8 rs)
  unfolding reading
  preds_rise = rising pred_word (record { name = "pred"; order = rises; shape = number ▸ list₁ }) refl refl

  pub params_fall : NeverFalls (of_kind 9 rs)
  unfolding reading
  params_fall = never_falling param_word (record { name = "param"; order = never_falls; shape = number ▸ number ▸ place ▸ end }) refl refl

  pub ops_fall : NeverFalls (of_kind 10 rs)
  unfolding reading
  ops_fall = never_falling op_word (record { name = "op"; order = never_falls; shape = op_shape }) refl refl

  pub clobs_rise : Rises (of_kind 11 rs)
  unfolding reading
  clobs_rise = rising clob_word (record { name = "clob"; order = rises; shape = number ▸ list₁ }) refl refl

-- the rows of a table that is ready
module _ {t : List ℕ} (g : Ready t) where
  pub ready_succs : Rises (rows_at t 7)
  ready_succs = rw (rows_are g.held 7 (omega arith)) (succs_rise g.rows g.ok)

  pub ready_preds : Rises (rows_at t 8)
  ready_preds = rw (rows_are g.held 8 (omega arith)) (preds_rise g.rows g.ok)

  pub ready_params : NeverFalls (rows_at t 9)
  ready_params = rw (rows_are g.held 9 (omega arith)) (params_fall g.rows g.ok)

  pub ready_ops : NeverFalls (rows_at t 10)
  ready_ops = rw (rows_are g.held 10 (omega arith)) (ops_fall g.rows g.ok)

  pub ready_clobs : Rises (rows_at t 11)
  ready_clobs = rw (rows_are g.held 11 (omega arith)) (clobs_rise g.rows g.ok)

-- ---- edits in order

edit_pairs : (rows : List (List ℕ)) → in_order (map edit_row_of rows) ≡ true → Pairs ◌≤◌ rows
unfolding in_order
edit_pairs [] e = λ i j h u. absurd (omega arith)
edit_pairs (r ∷ rows) e =
    let es : List EditRow = map edit_row_of rows in
    pairs_cons ◌≤◌ r rows
    (λ j u.
    leb-true (first r) (first (get_or rows j []))
    (rw (get_or-map edit_row_of rows j []) at
    (all_at (λ (f : EditRow). leb (first r) f.at) (edit_row_of []) es (and_left (all (λ f. leb (first r) f.at) es) (in_order es) e) j (rw (length-map rows edit_row_of) u))))
    (edit_pairs rows (and_right (all (λ f. leb (first r) f.at) es) (in_order es) e))

pub edits_fall : (rows : List (List ℕ)) → in_order (map edit_row_of rows) ≡ true → NeverFalls rows
edits_fall rows e = never_falls_of rows (edit_pairs rows e)
