-- The index (specs/Index.antt: `Filled`) as `fill` and `fill_insts` of src/index.rt fill it. Assumes nothing.
use mathlib.Core.Path.{◌≡◌, refl, sym, ap, ◌∙◌}
use mathlib.Core.List.{List, [], ◌∷◌, map}
use Prim.Native.Nat.{ℕ, zero, suc, max, min, ◌+◌, ◌-◌, ◌%◌, ◌≤◌, ◌<◌}
use native.Mathlib.Nat.{add-zero}
use native.Mathlib.Numerals.{add-one}
use native.Mathlib.Omega.{arith}
use lib.ListN.{length, get_or, take, drop, set, replicate, length-map, drop_of_length-le, length-replicate}
use lib.Seq.{paste, drop-cons, take-set-le, drop-set-add}
use borrow.Rule.Slice.PartMut.{put_mid}
use borrow.Author.Tests.{lt-ltb, le-ltb}
use Rattle.laws.specs.Fold.{run}
use Rattle.laws.specs.Lists.{from}
use Rattle.laws.proofs.Cases.{by_lt}
use Rattle.laws.proofs.Lists.{span_none, span_store, run_more}
use Rattle.std.proofs.lemmas.List.Edits.{paste_none, fill_from_more}
use Rattle.std.proofs.lemmas.Slice.{put_mid-paste}
use Rattle.rules.specs.Rows.{first}
use Rattle.rules.specs.Sheet.{BlockRow, total_of, field, sheet_of, sheet_by}
use Rattle.table.specs.Layout.{cells_at, inst_index, kind_index}
use Rattle.table.specs.Table.{Indexed}
use Rattle.rules.specs.Cells.{word, words, find}
use Rattle.entity.specs.Limits.{block_limit, inst_limit}
use Rattle.table.specs.Rows.{count_in, kind_row}
use Rattle.table.specs.Index.{before, of_kind, Filled}
use Rattle.table.proofs.Beginnings.{holds_store}
use Rattle.table.proofs.Kindred.{count_is, kind_row_is}
use Rattle.table.proofs.Sheets.{block_of}

-- ---- a store between the beginnings and the cells leaves the rows

pub indexed_store : {rs : List (List ℕ)} {t : List ℕ} → Indexed rs t → (j v : ℕ) → kind_index + 14 ≤ j → j < cells_at → Indexed rs (set t j v)
indexed_store {rs} {t} h j v l u =
    let e : kind_index + (j - kind_index) ≡ j = omega arith in
    record {
      held = holds_store h.held j v u;
      kinds_begun =
          ap (λ (i : ℕ). take 14 (drop kind_index (set t i v))) (sym e)
          ∙ ap (take 14) (drop-set-add kind_index t (j - kind_index) v)
          ∙ take-set-le 14 (drop kind_index t) (j - kind_index) v (omega arith) ∙ h.kinds_begun;
      rising = h.rising;
    }

module _ {rs : List (List ℕ)} (at : ℕ) (f : ℕ → ℕ) {t : List ℕ} where
  pub filled_none : Indexed rs t → Filled rs at f 0 t t
  filled_none h = record { rows = h; span = span_none at f t }

  -- one more is stored
  pub filled_more : {n : ℕ} {t' : List ℕ} → Filled rs at f n t t' → (v : ℕ) → v ≡ f n → kind_index + 14 ≤ at → at + n < cells_at → Filled rs at f (n + 1) t (set t' (at + n) v)
  filled_more {n} {t'} p v e l h =
      let m : length t' ≡ length t = p.span.long in
      record { rows = indexed_store p.rows (at + n) v (omega arith) h; span = span_store at f t n t' v p.span e (omega (arith, p.rows.held.apart)) }

-- ---- v at each place up to `to`: the part of t filled with v, and none

module _ (v at : ℕ) (t : List ℕ) where
  stretch_paste : (k : ℕ) → at + k ≤ length t → run (λ l y. set l y v) t (from at k) ≡ paste t at (replicate k v) k
  unfolding run from
  stretch_paste zero h = paste_none t at []
  stretch_paste (suc k) h =
      run_more (λ l y. set l y v) t at k ∙ ap (λ l. set l (at + k) v) (stretch_paste k (omega arith)) ∙ fill_from_more t at k v (omega arith) ∙ rw add-one

  pub stretch_all : (k : ℕ) (ys : List ℕ) → at + k ≤ length t → ys ≡ replicate k v → put_mid at k t ys ≡ run (λ l y. set l y v) t (from at k)
  stretch_all k ys h e = put_mid-paste at k t ys (replicate k v) k e refl (sym (length-replicate k v)) ∙ sym (stretch_paste k h)

  pub stretch_none : (to : ℕ) → to ≤ at → t ≡ run (λ l y. set l y v) t (from at (to - at))
  unfolding run from
  stretch_none to h = let e : to - at ≡ 0 = omega arith in rw e

-- v is stored at m places more
pub filled_stretch : {rs : List (List ℕ)} (at : ℕ) (f : ℕ → ℕ) {t₀ : List ℕ} (v : ℕ) → kind_index + 14 ≤ at → (m x : ℕ) {t : List ℕ} → Filled rs at f x t₀ t → ((y : ℕ) → x ≤ y → y < x + m → v ≡ f y)
    → at + x + m ≤ cells_at → Filled rs at f (x + m) t₀ (run (λ l y. set l y v) t (from (at + x) m))
unfolding run from
filled_stretch at f v l zero x p e h = rw (add-zero x) p
filled_stretch {rs} at f {t₀} v l (suc m) x {t} p e h =
    let a : at + (x + 1) ≡ suc (at + x) = omega arith in
    let b : x + 1 + m ≡ x + suc m = omega arith in
    rw (← a, ← b) (filled_stretch at f v l m (x + 1) (filled_more at f p v (e x (omega arith) (omega arith)) l (omega arith)) (λ y u w. e y (omega arith) (omega arith)) (omega arith))

-- up to z
pub filled_to : {rs : List (List ℕ)} (at : ℕ) (f : ℕ → ℕ) {t₀ : List ℕ} (v x z to : ℕ) {t t' : List ℕ} → Filled rs at f x t₀ t → ((y : ℕ) → x ≤ y → y < z → v ≡ f y) → kind_index + 14 ≤ at → at + z ≤ cells_at
    → to - (at + x) ≡ z - x → x ≤ z → t' ≡ run (λ l y. set l y v) t (from (at + x) (to - (at + x))) → Filled rs at f z t₀ t'
filled_to at f v x z to p e l h a u w =
    let b : x + (z - x) ≡ z = omega arith in
    rw (w, a) (rw b at (filled_stretch at f v l (z - x) x p (λ y g i. e y g (omega arith)) (omega arith)))

-- ---- how many rows come before

module _ (x : ℕ) (rows : List (List ℕ)) (n : ℕ) where
  -- row n comes before
  pub before_one : n < length rows → first (get_or rows n []) < x → before x (drop n rows) ≡ before x (drop (n + 1) rows) + 1
  unfolding before
  before_one h l = rw (drop-cons rows n [], lt-ltb (first (get_or rows n [])) x l, add-one n)

  -- it does not, or there is none
  pub before_no : n < length rows → x ≤ first (get_or rows n []) → before x (drop n rows) ≡ 0
  unfolding before
  before_no h l = rw (drop-cons rows n [], le-ltb (first (get_or rows n [])) x l)

  pub before_past : length rows ≤ n → before x (drop n rows) ≡ 0
  unfolding before
  before_past h = rw (drop_of_length-le rows h)

-- ---- instructions in turn

module _ (g : List ℕ → BlockRow) (e : (r : List ℕ) → (g r).instructions ≡ field 2 r) where
  total_suc : (rows : List (List ℕ)) (b : ℕ) → total_of (take (suc b) (map g rows)) ≡ total_of (take b (map g rows)) + field 2 (get_or rows b [])
  unfolding total_of
  total_suc [] zero = refl
  total_suc [] (suc b) = refl
  total_suc (r ∷ rows) zero = omega (arith, e r)
  total_suc (r ∷ rows) (suc b) = omega (arith, total_suc rows b)

  pub total_next : (rows : List (List ℕ)) (b : ℕ) → total_of (take (b + 1) (map g rows)) ≡ total_of (take b (map g rows)) + field 2 (get_or rows b [])
  total_next rows b = rw (add-one b) (total_suc rows b)

pub total_part : (b : ℕ) (bs : List BlockRow) → total_of (take b bs) ≤ total_of bs
unfolding total_of
total_part zero bs = omega arith
total_part (suc b) [] = omega arith
total_part (suc b) (x ∷ bs) = omega (arith, total_part b bs)

-- ---- a kind's part, while it is filled: n rows come before each y that is left, and the rows from n on make up the count

pub record Goes (rs : List (List ℕ)) (k at most x n : ℕ) (t₀ t : List ℕ) : Type 0 where
  pub filled : Filled rs at (λ y. before y (of_kind k rs)) x t₀ t
  pub left : (y : ℕ) → x ≤ y → y ≤ most → before y (drop n (of_kind k rs)) + n ≡ before y (of_kind k rs)

abbrev pub Going : ℕ → ℕ → ℕ → ℕ → ℕ → List ℕ → List ℕ → Type 0
Going k at most x n t₀ t = (rs : List (List ℕ)) → Indexed rs t₀ → Goes rs k at most x n t₀ t

module _ (k at most : ℕ) (t₀ : List ℕ) where
  pub going_start : Going k at most 0 0 t₀ t₀
  going_start rs i = record { filled = filled_none at _ i; left = λ y l u. add-zero _ }

  module _ (rows x n : ℕ) (t : List ℕ) (small : k < 13) (e : rows ≡ count_in t₀ k) (g : Going k at most x n t₀ t) where
    -- row n comes before each y past its first field, and n rows before each y up to it
    pub going_turn : (r past to : ℕ) (row t' : List ℕ) → n < rows → row ≡ kind_row t k n → r ≡ get_or row 1 0 → past ≡ min r most + 1 → kind_index + 14 ≤ at → at + most < cells_at → x ≤ most + 1
        → to ≡ at + past → t' ≡ run (λ l y. set l y n) t (from (at + x) (to - (at + x))) → Going k at most (max x past) (n + 1) t₀ t'
    going_turn r past to row t' h is reads q low m u z w rs i =
        let p = g rs i in
        let there : n < length (of_kind k rs) = omega (arith, e ∙ count_is i k small) in
        let f : r ≡ first (get_or (of_kind k rs) n []) = reads ∙ ap (λ (l : List ℕ). get_or l 1 0) (is ∙ kind_row_is p.filled.rows k small n) in
        record {
          filled = filled_to at _ n x (max x past) to p.filled
              (λ y a b. omega (arith, p.left y a (omega arith), before_no y (of_kind k rs) n there (omega arith))) low (omega arith) (omega arith) (omega arith) w;
          left = λ y a b. omega (arith, p.left y (omega arith) b, before_one y (of_kind k rs) n there (omega arith));
        }

    -- there are no more rows
    pub going_end : (to : ℕ) (t' : List ℕ) → rows ≤ n → n ≤ rows → kind_index + 14 ≤ at → at + most < cells_at → x ≤ most + 1 → to ≡ at + (most + 1)
        → t' ≡ run (λ l y. set l y rows) t (from (at + x) (to - (at + x))) → (rs : List (List ℕ)) → Indexed rs t₀ → Filled rs at (λ y. before y (of_kind k rs)) (most + 1) t₀ t'
    going_end to t' h h' low m l z w rs i =
        let c : rows ≡ length (of_kind k rs) = e ∙ count_is i k small in
        filled_to at _ rows x (most + 1) to (g rs i).filled
        (λ y u v. omega (arith, (g rs i).left y u (omega arith), before_past y (of_kind k rs) n (omega arith))) low (omega arith) (omega arith) l w

-- ---- the instructions' part

abbrev pub block_rows : List (List ℕ) → List BlockRow
block_rows rs = map block_of (of_kind 6 rs)

pub block_rows_lem : (rs : List (List ℕ)) → (sheet_of rs).blocks ≡ block_rows rs
unfolding sheet_of sheet_by word words find
block_rows_lem rs = refl

pub record Sums (rs : List (List ℕ)) (b sum : ℕ) (t₀ t : List ℕ) : Type 0 where
  pub filled : Filled rs inst_index (λ b. total_of (take b (block_rows rs))) b t₀ t
  pub sum_is : sum ≡ total_of (take b (block_rows rs))

abbrev pub Summing : ℕ → ℕ → List ℕ → List ℕ → Type 0
Summing b sum t₀ t = (rs : List (List ℕ)) → Indexed rs t₀ → total_of (block_rows rs) ≤ inst_limit → Sums rs b sum t₀ t

pub summing_start : (t₀ : List ℕ) → Summing 0 0 t₀ t₀
unfolding total_of
summing_start t₀ rs i l = record { filled = filled_none inst_index _ i; sum_is = refl }

pub summing_next : (t₀ t t' : List ℕ) (b sum n : ℕ) (row : List ℕ) → b < block_limit → t' ≡ set t (inst_index + b) sum → row ≡ kind_row t' 6 b → n ≡ get_or row 2 0
    → Summing b sum t₀ t → Summing (b + 1) ((sum + n % 65536) % 65536) t₀ t'
summing_next t₀ t t' b sum n row l q r v g rs i m =
    let p = g rs i m in
    let f : Filled rs inst_index (λ b. total_of (take b (block_rows rs))) (b + 1) t₀ t' = rw q (filled_more inst_index _ p.filled sum p.sum_is (omega arith) (omega arith)) in
    let w : n ≡ get_or (get_or (of_kind 6 rs) b []) 2 0 = v ∙ ap (λ (x : List ℕ). get_or x 2 0) (r ∙ kind_row_is f.rows 6 (omega arith) b) in
    let one = total_next block_of (λ r. refl) (of_kind 6 rs) b in
    let most = total_part (b + 1) (block_rows rs) in
    record { filled = f; sum_is = omega (arith, p.sum_is, one, most, w) }

-- after the last block the sum stays
total_all : (b : ℕ) (bs : List BlockRow) → length bs ≤ b → total_of (take b bs) ≡ total_of bs
unfolding total_of
total_all zero [] h = refl
total_all zero (x ∷ bs) h = absurd (omega arith)
total_all (suc b) [] h = refl
total_all (suc b) (x ∷ bs) h = rw (total_all b bs (omega arith))

pub summed : (t₀ t t' : List ℕ) (blocks b sum to : ℕ) → blocks ≡ count_in t₀ 6 → min blocks block_limit ≤ b → b ≤ block_limit → to ≡ inst_index + 65 → t' ≡ run (λ l y. set l y sum) t (from (inst_index + b) (to - (inst_index + b)))
    → Summing b sum t₀ t → (rs : List (List ℕ)) → Indexed rs t₀ → total_of (sheet_of rs).blocks ≤ inst_limit
    → Filled rs inst_index (λ b. total_of (take b (sheet_of rs).blocks)) (block_limit + 1) t₀ t'
summed t₀ t t' blocks b sum to e l u z w g rs i m =
    let p = g rs i (rw (block_rows_lem rs) at m) in
    let c : blocks ≡ length (of_kind 6 rs) = e ∙ count_is i 6 (omega arith) in
    let n : length (block_rows rs) ≡ length (of_kind 6 rs) = length-map (of_kind 6 rs) block_of in
    rw (block_rows_lem rs)
    (filled_to inst_index _ sum b (block_limit + 1) to p.filled
    (λ y g h. by_lt b y (λ k. p.sum_is ∙ total_all b (block_rows rs) (omega arith) ∙ sym (total_all y (block_rows rs) (omega arith))) (λ k. let q : b ≡ y = omega arith in rw (← q) p.sum_is))
    (omega arith) (omega arith) (omega arith) (omega arith) w)
