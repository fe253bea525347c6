-- Marked edits in cells and in a list of records, and that the two are one. Assumes nothing.
--     applied_none      where nothing is marked, nothing is struck
--     applied_more      one mark more strikes one row more
--     applied_length, applied_exact     as many cells; those that are an edit row's still are
--     marked_read, unmarked_read     a row of the cells, where it is marked and where it is not
--     laid_out          the cells of a page's struck records are its struck cells
--     page_next, page_rest, page_last     the pages one after the other strike the rows
use mathlib.Core.Path.{◌≡◌, refl, sym, ◌∙◌, ap}
use mathlib.Core.Logic.{◌⊎◌, inl, inr}
use mathlib.Core.Bool.{cond}
use mathlib.Core.List.{List, ◌++◌}
use Prim.Native.Nat.{ℕ, zero, suc, ◌+◌, ◌*◌, ◌≤◌, ◌<◌}
use native.Mathlib.Numerals.{add-one}
use native.Mathlib.Omega.{arith}
use lib.Dec.{eqb}
use lib.ListN.{length, get_or, set, drop, length-set, get_or-append, get_or-eq_default}
use lib.Seq.{get_or-drop, drop-drop, drop-append_seam, get_or-set_same, get_or-set_other, set-get_or, set_comm}
use borrow.Author.Tests.{ne_eqb}
use Rattle.laws.proofs.Cases.{by_bool, by_eq, by_lt}
use Rattle.entity.specs.declared.forms.Edit.TheVariants.{Nothing}
use Rattle.rules.specs.Words.{none_word}
use Rattle.rules.specs.Cells.{word, find, words, number_limit}
use Rattle.rules.specs.Sheet.{edit_of}
use Rattle.rules.specs.Accept.{placed}
use Rattle.rules.specs.Answer.{edit_cells}
use Rattle.table.specs.Edits.{edit_in, with_edit}
use Rattle.table.specs.Written.{EditCells}
use Rattle.table.proofs.Stored.{edit_none, with_length, with_other, cells_with}
use Rattle.marks.specs.Marks.{page_rows, each_row, applied_at, applied, applied_from, none_record, no_record, struck_at, struck_by, record_in, Lists, with_record, with_records}
use Rattle.marks.specs.declared.EditRecord.{EditRecord}

pub each_next : {A : Type 0} (f : A → ℕ → ℕ → A) (a : A) (marks : List ℕ) (n : ℕ) → each_row f a marks (n + 1) ≡ f (each_row f a marks n) n (get_or marks n 0)
unfolding each_row
each_next f a marks n = ap (each_row f a marks) (add-one n)

pub each_first : {A : Type 0} (f : A → ℕ → ℕ → A) (a : A) (marks : List ℕ) → a ≡ each_row f a marks 0
unfolding each_row
each_first f a marks = refl

-- ---- a row that is struck

-- its cells, and those of others
four : (k t p v : ℕ) → List ℕ → ℕ → List ℕ
four k t p v l a = set (set (set (set l a k) (a + 1) t) (a + 2) p) (a + 3) v

module _ (k t p v : ℕ) (a i u : ℕ) (n : (d : ℕ) → d < 4 → a + d ≡ i → ⊥) where
  past : (l : List ℕ) → set (four k t p v l a) i u ≡ four k t p v (set l i u) a
  unfolding four
  past l =
      set_comm (set (set (set l a k) (a + 1) t) (a + 2) p) (a + 3) i v u (n 3 (omega arith))
      ∙ ap (λ (x : List ℕ). set x (a + 3) v) (set_comm (set (set l a k) (a + 1) t) (a + 2) i p u (n 2 (omega arith))
      ∙ ap (λ (x : List ℕ). set x (a + 2) p) (set_comm (set l a k) (a + 1) i t u (n 1 (omega arith))
      ∙ ap (λ (x : List ℕ). set x (a + 1) t) (set_comm l a i k u (λ q. n 0 (omega arith) (omega arith)))))

-- the order of two rows is all one
four_both : (k t p v : ℕ) (l : List ℕ) (i j : ℕ) → (i ≡ j → ⊥) → four k t p v (four k t p v l (i * 4)) (j * 4) ≡ four k t p v (four k t p v l (j * 4)) (i * 4)
unfolding four
four_both k t p v l i j n =
    let a : ℕ = i * 4 in
    let b : ℕ = j * 4 in
    ap (λ (x : List ℕ). set (set (set x (b + 1) t) (b + 2) p) (b + 3) v) (past k t p v a b k (λ d e q. n (omega arith)) l)
    ∙ ap (λ (x : List ℕ). set (set x (b + 2) p) (b + 3) v) (past k t p v a (b + 1) t (λ d e q. n (omega arith)) (set l b k))
    ∙ ap (λ (x : List ℕ). set x (b + 3) v) (past k t p v a (b + 2) p (λ d e q. n (omega arith)) (set (set l b k) (b + 1) t))
    ∙ past k t p v a (b + 3) v (λ d e q. n (omega arith)) (set (set (set l b k) (b + 1) t) (b + 2) p)

both : (cells : List ℕ) (i j : ℕ) → (i ≡ j → ⊥) → with_edit (with_edit cells i Nothing) j Nothing ≡ with_edit (with_edit cells j Nothing) i Nothing
unfolding with_edit edit_cells word find words four
both cells i j n = four_both none_word number_limit number_limit number_limit cells i j n

cell_other : (cells : List ℕ) (n i : ℕ) → n * 4 + 3 < i → get_or (with_edit cells n Nothing) i 0 ≡ get_or cells i 0
unfolding with_edit edit_cells word find words
cell_other cells n i h =
    let a : ℕ = n * 4 in
    let s1 : List ℕ = set cells a none_word in
    let s2 : List ℕ = set s1 (a + 1) number_limit in
    get_or-set_other (set s2 (a + 2) number_limit) (a + 3) i number_limit 0 (λ q. omega arith) ∙ get_or-set_other s2 (a + 2) i number_limit 0 (λ q. omega arith)
    ∙ get_or-set_other s1 (a + 1) i number_limit 0 (λ q. omega arith) ∙ get_or-set_other cells a i none_word 0 (λ q. omega arith)

-- it reads as no edit, at the worst because there is nothing
kind : (cells : List ℕ) (a : ℕ) → (get_or (four none_word number_limit number_limit number_limit cells a) a 0 ≡ none_word) ⊎ (get_or (four none_word number_limit number_limit number_limit cells a) a 0 ≡ 0)
unfolding four
kind cells a =
    let s1 : List ℕ = set cells a none_word in
    let s2 : List ℕ = set s1 (a + 1) number_limit in
    let s3 : List ℕ = set s2 (a + 2) number_limit in
    let e = get_or-set_other s3 (a + 3) a number_limit 0 (λ q. omega arith) ∙ get_or-set_other s2 (a + 2) a number_limit 0 (λ q. omega arith) ∙ get_or-set_other s1 (a + 1) a number_limit 0 (λ q. omega arith) in
    by_lt a (length cells) (λ h. inl (e ∙ get_or-set_same cells a none_word 0 h)) (λ h. inr (e ∙ get_or-eq_default s1 0 (rw (length-set cells a none_word) h)))

no_kind : (k t p v : ℕ) → (k ≡ none_word) ⊎ (k ≡ 0) → edit_of k t p v ≡ Nothing
no_kind k t p v (inl e) = sym (edit_none k t p v (λ q. omega arith) (λ q. omega arith) (λ q. omega arith) (λ q. omega arith))
no_kind k t p v (inr e) = sym (edit_none k t p v (λ q. omega arith) (λ q. omega arith) (λ q. omega arith) (λ q. omega arith))

struck_read : (cells : List ℕ) (n : ℕ) → edit_in (with_edit cells n Nothing) n ≡ Nothing
unfolding edit_in with_edit edit_cells word find words four
struck_read cells n = no_kind _ _ _ _ (kind cells (n * 4))

-- ---- each row by its mark

module _ (cells marks : List ℕ) where
  abbrev to : ℕ → List ℕ
  to n = each_row applied_at cells marks n

  to_none : ((n : ℕ) → get_or marks n 0 ≡ 0) → (n : ℕ) → to n ≡ cells
  unfolding each_row applied_at
  to_none z zero = refl
  to_none z (suc n) = rw (z n) (to_none z n)

  pub applied_none : ((n : ℕ) → get_or marks n 0 ≡ 0) → applied cells marks ≡ cells
  unfolding applied
  applied_none z = to_none z (length marks)

  to_length : (n : ℕ) → length (to n) ≡ length cells
  unfolding each_row applied_at
  to_length zero = refl
  to_length (suc n) = by_bool (eqb (get_or marks n 0) 0) (λ e. rw e (to_length n)) (λ e. rw e (with_length (to n) n Nothing ∙ to_length n))

  pub applied_length : length (applied cells marks) ≡ length cells
  unfolding applied
  applied_length = to_length (length marks)

  -- cells that are an edit row's still are
  to_exact : (i : ℕ) → i * 4 + 3 < length cells → EditCells cells i → (n : ℕ) → EditCells (to n) i
  unfolding each_row applied_at placed
  to_exact i h c zero = c
  to_exact i h c (suc n) = by_bool (eqb (get_or marks n 0) 0) (λ e. rw e (to_exact i h c n)) (λ e. rw e (cells_with (to n) n Nothing i (omega (arith, to_length n)) refl tt tt (to_exact i h c n)))

  pub applied_exact : (i : ℕ) → i * 4 + 3 < length cells → EditCells cells i → EditCells (applied cells marks) i
  unfolding applied
  applied_exact i h c = to_exact i h c (length marks)

  module _ (n : ℕ) where
    unread : get_or marks n 0 ≡ 0 → (k : ℕ) → edit_in (to k) n ≡ edit_in cells n
    unfolding each_row applied_at
    unread z zero = refl
    unread z (suc k) =
        by_eq n k (λ q. rw (rw q at z) (unread z k))
        (λ q. by_bool (eqb (get_or marks k 0) 0) (λ e. rw e (unread z k)) (λ e. rw e (with_other (to k) k Nothing n q ∙ unread z k)))

    gone : (get_or marks n 0 ≡ 0 → ⊥) → (k : ℕ) → n < k → edit_in (to k) n ≡ Nothing
    unfolding each_row applied_at
    gone z zero h = absurd (omega arith)
    gone z (suc k) h =
        by_eq n k (λ q. rw (ne_eqb (get_or marks k 0) 0 (rw q at z)) (rw q (struck_read (to k) k)))
        (λ q. by_bool (eqb (get_or marks k 0) 0) (λ e. rw e (gone z k (omega arith))) (λ e. rw e (with_other (to k) k Nothing n q ∙ gone z k (omega arith))))

    pub unmarked_read : get_or marks n 0 ≡ 0 → edit_in (applied cells marks) n ≡ edit_in cells n
    unfolding applied
    unmarked_read z = unread z (length marks)

    pub marked_read : (get_or marks n 0 ≡ 0 → ⊥) → edit_in (applied cells marks) n ≡ Nothing
    unfolding applied
    marked_read z = by_lt n (length marks) (λ h. gone z (length marks) h) (λ h. absurd (z (get_or-eq_default marks 0 h)))

-- ---- the rows of a page

abbrev on : ℕ → List ℕ → ℕ → ℕ → List ℕ
on first l n m = applied_at l (first + n) m

-- the cells of rows that are not come to
ahead : (first : ℕ) (cells marks : List ℕ) (n i : ℕ) → (first + n) * 4 ≤ i → get_or (each_row (on first) cells marks n) i 0 ≡ get_or cells i 0
unfolding each_row applied_at
ahead first cells marks zero i h = refl
ahead first cells marks (suc n) i h =
    by_bool (eqb (get_or marks n 0) 0) (λ e. rw e (ahead first cells marks n i (omega arith)))
    (λ e. rw e (cell_other (each_row (on first) cells marks n) (first + n) i (omega arith) ∙ ahead first cells marks n i (omega arith)))

-- a page after the n rows before it
module _ (marks : List ℕ) (n : ℕ) (page rest : List ℕ) (p : drop n marks ≡ page ++ rest) where
  pub page_rest : rest ≡ drop (n + length page) marks
  page_rest = sym (drop-append_seam page rest) ∙ ap (drop (length page)) (sym p) ∙ drop-drop (length page) n marks

  module _ (cells : List ℕ) where
    turned : (k : ℕ) → k ≤ length page → each_row (on n) (to cells marks n) page k ≡ to cells marks (n + k)
    unfolding each_row
    turned zero h = let e : n + 0 ≡ n = omega arith in rw e
    turned (suc k) h =
        let e : n + suc k ≡ suc (n + k) = omega arith in
        let m : get_or page k 0 ≡ get_or marks (n + k) 0 = sym (get_or-append page rest 0 k (omega arith)) ∙ ap (λ (l : List ℕ). get_or l k 0) (sym p) ∙ get_or-drop n marks k 0 in
        rw (e, each_row, turned k (omega arith)) (ap (applied_at (to cells marks (n + k)) (n + k)) m)

    pub page_next : {l l' : List ℕ} → l ≡ to cells marks n → l' ≡ applied_from n l page → l' ≡ to cells marks (n + length page)
    unfolding applied_from
    page_next q e = e ∙ rw q (turned (length page) (omega arith))

pub page_last : (cells marks : List ℕ) {n : ℕ} {l : List ℕ} → l ≡ to cells marks n → n ≡ length marks → l ≡ applied cells marks
unfolding applied
page_last cells marks q e = q ∙ ap (to cells marks) e

-- ---- one mark more

module _ (cells marks : List ℕ) (n : ℕ) (h : n < length marks) (z : get_or marks n 0 ≡ 0) where
  before : (k : ℕ) → k ≤ n → to cells (set marks n 1) k ≡ to cells marks k
  unfolding each_row
  before zero l = refl
  before (suc k) l = rw (get_or-set_other marks n k 1 0 (λ q. omega arith)) (ap (λ (c : List ℕ). applied_at c k (get_or marks k 0)) (before k (omega arith)))

  after : (k : ℕ) → n < k → to cells (set marks n 1) k ≡ with_edit (to cells marks k) n Nothing
  unfolding each_row applied_at
  after zero l = absurd (omega arith)
  after (suc k) l =
      by_eq k n
      (λ q. rw (q, get_or-set_same marks n 1 0 h, z) (ap (λ (c : List ℕ). with_edit c n Nothing) (before n (omega arith))))
      (λ q. rw (get_or-set_other marks n k 1 0 q, after k (omega arith)) (by_bool (eqb (get_or marks k 0) 0) (λ e. rw e) (λ e. rw e (both (to cells marks k) n k (λ p. q (sym p))))))

  pub applied_more : applied cells (set marks n 1) ≡ with_edit (applied cells marks) n Nothing
  unfolding applied
  applied_more = ap (to cells (set marks n 1)) (length-set marks n 1) ∙ after (length marks) h

-- ---- a list of records

pub struck_length : (list : List EditRecord) (n m : ℕ) → length (struck_at list n m) ≡ length list
unfolding struck_at
struck_length list n m = by_bool (eqb m 0) (λ e. rw e) (λ e. rw e (length-set list n none_record))

module _ (list : List EditRecord) (marks : List ℕ) where
  abbrev til : ℕ → List EditRecord
  til n = each_row struck_at list marks n

  pub records_length : (n : ℕ) → length (til n) ≡ length list
  unfolding each_row
  records_length zero = refl
  records_length (suc n) = struck_length (til n) n (get_or marks n 0) ∙ records_length n

  unstruck : (n i : ℕ) → n ≤ i → get_or (til n) i no_record ≡ get_or list i no_record
  unfolding each_row struck_at
  unstruck zero i h = refl
  unstruck (suc n) i h = by_bool (eqb (get_or marks n 0) 0) (λ e. rw e (unstruck n i (omega arith))) (λ e. rw e (get_or-set_other (til n) n i none_record no_record (λ q. omega arith) ∙ unstruck n i (omega arith)))

  record_at : (i n : ℕ) → i < n → i < length list → get_or (til n) i no_record ≡ cond (eqb (get_or marks i 0) 0) (get_or list i no_record) none_record
  unfolding each_row struck_at
  record_at i zero h l = absurd (omega arith)
  record_at i (suc n) h l =
      by_eq i n
      (λ q. rw q (by_bool (eqb (get_or marks n 0) 0) (λ e. rw e (unstruck n n (omega arith))) (λ e. rw e (get_or-set_same (til n) n none_record no_record (omega (arith, records_length n))))))
      (λ q. by_bool (eqb (get_or marks n 0) 0) (λ e. rw e (record_at i n (omega arith) l)) (λ e. rw e (get_or-set_other (til n) n i none_record no_record q ∙ record_at i n (omega arith) l)))

-- ---- the cells as a list, and the list as cells

pub laid_first : (cells : List ℕ) (list : List EditRecord) (first : ℕ) → cells ≡ with_records cells list first 0
unfolding with_records
laid_first cells list first = refl

pub laid_more : (cells l : List ℕ) (list : List EditRecord) (first n : ℕ) {r : EditRecord} {l' : List ℕ} → l ≡ with_records cells list first n → r ≡ get_or list n no_record → l' ≡ with_record l (first + n) r → l' ≡ with_records cells list first (n + 1)
unfolding with_records
laid_more cells l list first n q e f = f ∙ rw (q, e, add-one n)

-- a row replaced by what it was
same_record : (l cells : List ℕ) (n : ℕ) → ((i : ℕ) → n * 4 ≤ i → get_or l i 0 ≡ get_or cells i 0) → with_record l n (record_in cells n) ≡ l
same_record l cells n u =
    let a : ℕ = n * 4 in
    let same : (i : ℕ) → a ≤ i → set l i (get_or cells i 0) ≡ l = λ i h. ap (set l i) (sym (u i h)) ∙ set-get_or l i 0 in
    ap (λ (x : List ℕ). set (set (set x (a + 1) (get_or cells (a + 1) 0)) (a + 2) (get_or cells (a + 2) 0)) (a + 3) (get_or cells (a + 3) 0)) (same a (omega arith))
    ∙ ap (λ (x : List ℕ). set (set x (a + 2) (get_or cells (a + 2) 0)) (a + 3) (get_or cells (a + 3) 0)) (same (a + 1) (omega arith))
    ∙ ap (λ (x : List ℕ). set x (a + 3) (get_or cells (a + 3) 0)) (same (a + 2) (omega arith)) ∙ same (a + 3) (omega arith)

module _ (first : ℕ) (cells marks : List ℕ) (list : List EditRecord) (few : length marks ≤ page_rows) (are : Lists cells list first (length marks)) where
  laid_to : (n : ℕ) → n ≤ length marks → with_records cells (struck_by list marks) first n ≡ each_row (on first) cells marks n
  unfolding with_records struck_by each_row applied_at with_edit edit_cells word find words
  laid_to zero h = refl
  laid_to (suc n) h =
      rw (laid_to n (omega arith), record_at list marks n (length marks) (omega arith) (omega (arith, few, are.long)))
      (by_bool (eqb (get_or marks n 0) 0) (λ e. rw (e, are.rows n (omega arith)) (same_record (each_row (on first) cells marks n) cells (first + n) (ahead first cells marks n))) (λ e. rw e))

  pub laid_out : {l : List ℕ} {struck : List EditRecord} → struck ≡ struck_by list marks → l ≡ with_records cells struck first (length marks) → l ≡ applied_from first cells marks
  unfolding applied_from
  laid_out e q = q ∙ rw e (laid_to (length marks) (omega arith))
