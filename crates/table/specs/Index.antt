-- The index of a table's rows: each block's first instruction, and where the rows of each block or instruction begin among those of their kind.
use Rattle.std.specs.Prelude.{◌≡◌, true, cond, List, [], ◌∷◌, ℕ, ◌+◌, ◌<◌, ◌≤◌, eqb, ltb, length, get_or, take}
use Rattle.laws.specs.Lists.{keep}
use Rattle.laws.specs.Spans.{Span}
use Rattle.entity.specs.Limits.{block_limit, inst_limit}
use Rattle.rules.specs.Words.{slots_word}
use Rattle.rules.specs.Rows.{kind, first, sheet_ok}
use Rattle.rules.specs.Sheet.{total_of}
use Rattle.rules.specs.Accept.{within_limits, names_hold}
use Rattle.table.specs.Layout.{clob_index, edit_index, inst_index, op_index, param_index, pred_index, succ_index}
use Rattle.table.specs.Table.{Indexed}
use Rattle.table.specs.Sheet.{rows_at, sheet_in}
use Rattle.table.specs.declared.index.Range.{Range}

-- how many rows come before the first whose first field is x or more
unfoldable pub before : ℕ → List (List ℕ) → ℕ
before x [] = 0
before x (r ∷ rs) = cond (ltb (first r) x) (before x rs + 1) 0

-- the part of the index at `at` is that of kind k, for blocks or instructions up to `most`
abbrev pub Part : List ℕ → ℕ → ℕ → ℕ → Type 0
Part t at k most = (x : ℕ) → x ≤ most → get_or t (at + x) 0 ≡ before x (rows_at t k)

pub record Built (t : List ℕ) : Type 0 where
  pub insts : (b : ℕ) → b ≤ block_limit → get_or t (inst_index + b) 0 ≡ total_of (take b (sheet_in t).blocks)
  pub succs : Part t succ_index 7 block_limit
  pub preds : Part t pred_index 8 block_limit
  pub params : Part t param_index 9 block_limit
  pub ops : Part t op_index 10 inst_limit
  pub clobs : Part t clob_index 11 inst_limit
  pub edits : Part t edit_index 12 inst_limit

-- what is read off the part of the index at `at`, for blocks or instructions below `most`
unfoldable pub range_in : List ℕ → ℕ → ℕ → ℕ → Range
range_in t at most x = cond (ltb x most) (record { from = get_or t (at + x) 0; to = get_or t (at + x + 1) 0 }) (record { from = 0; to = 0 })

-- the first fields never fall; they rise strictly
abbrev pub NeverFalls : List (List ℕ) → Type 0
NeverFalls rows = (i j : ℕ) → i ≤ j → j < length rows → first (get_or rows i []) ≤ first (get_or rows j [])

abbrev pub Rises : List (List ℕ) → Type 0
Rises rows = (i j : ℕ) → i < j → j < length rows → first (get_or rows i []) < first (get_or rows j [])

-- What is known of a table once 1, 2 and 3 hold and its index is built: it holds the rows of a sheet. The edits at an instruction can be looked up once they
-- stand in order besides.
pub record Ready (t : List ℕ) : Type 0 where
  pub rows : List (List ℕ)
  pub held : Indexed rows t
  pub ok : sheet_ok rows ≡ true
  pub limits : within_limits (sheet_in t) ≡ true
  pub names : names_hold (sheet_in t) ≡ true
  pub built : Built t

-- ---- while the index is built

-- the rows of kind k
abbrev pub of_kind : ℕ → List (List ℕ) → List (List ℕ)
of_kind k rs = keep (λ r. eqb (kind r) (slots_word + k)) rs

-- t' is t with f 0, f 1, .. stored from `at` on, n of them, and still holds the rows
pub record Filled (rs : List (List ℕ)) (at : ℕ) (f : ℕ → ℕ) (n : ℕ) (t t' : List ℕ) : Type 0 where
  pub rows : Indexed rs t'
  pub span : Span at f t n t'
