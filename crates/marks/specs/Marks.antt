-- Edits that are marked to be struck, a mark to each row: in cells, and in a list of edit records. A mark of 0 strikes nothing.
use Rattle.std.specs.Prelude.{◌≡◌, cond, List, ℕ, zero, suc, ◌+◌, ◌*◌, ◌<◌, eqb, length, get_or, set}
use Rattle.entity.specs.declared.forms.Edit.TheVariants.{Nothing}
use Rattle.rules.specs.{Words.none_word, Cells.number_limit}
use Rattle.table.specs.Edits.{with_edit}
use Rattle.marks.specs.declared.EditRecord.{EditRecord}

-- the records of a list
abbrev pub page_rows : ℕ
page_rows = 64

-- f at each of the first n rows, with its mark
unfoldable pub each_row : {A : Type 0} → (A → ℕ → ℕ → A) → A → List ℕ → ℕ → A
each_row f a marks zero = a
each_row f a marks (suc n) = f (each_row f a marks n) n (get_or marks n 0)

-- row n of the cells is struck by mark m; and each row by its mark
unfoldable pub applied_at : List ℕ → ℕ → ℕ → List ℕ
applied_at cells n m = cond (eqb m 0) cells (with_edit cells n Nothing)

unfoldable pub applied : List ℕ → List ℕ → List ℕ
applied cells marks = each_row applied_at cells marks (length marks)

-- rows from `first` on, each by its mark
unfoldable pub applied_from : ℕ → List ℕ → List ℕ → List ℕ
applied_from first cells marks = each_row (λ l n m. applied_at l (first + n) m) cells marks (length marks)

-- a removed edit: kind `none`, three dashes
abbrev pub none_record : EditRecord
none_record = record { kind = none_word; to = number_limit; from = number_limit; value = number_limit }

-- what stands past a list's end
abbrev pub no_record : EditRecord
no_record = record { kind = 0; to = 0; from = 0; value = 0 }

-- record n of the list is struck by mark m; and each record by its mark
unfoldable pub struck_at : List EditRecord → ℕ → ℕ → List EditRecord
struck_at list n m = cond (eqb m 0) list (set list n none_record)

unfoldable pub struck_by : List EditRecord → List ℕ → List EditRecord
struck_by list marks = each_row struck_at list marks (length marks)

-- row n of the cells as a record; and replaced by one
abbrev pub record_in : List ℕ → ℕ → EditRecord
record_in cells n = record { kind = get_or cells (n * 4) 0; to = get_or cells (n * 4 + 1) 0; from = get_or cells (n * 4 + 2) 0; value = get_or cells (n * 4 + 3) 0 }

abbrev pub with_record : List ℕ → ℕ → EditRecord → List ℕ
with_record cells n r = set (set (set (set cells (n * 4) r.kind) (n * 4 + 1) r.to) (n * 4 + 2) r.from) (n * 4 + 3) r.value

-- the list has n rows of the cells, from row `first` on
pub record Lists (cells : List ℕ) (list : List EditRecord) (first n : ℕ) : Type 0 where
  pub long : length list ≡ page_rows
  pub rows : (i : ℕ) → i < n → get_or list i no_record ≡ record_in cells (first + i)

-- n rows, from row `first` on, replaced by those of a list
unfoldable pub with_records : List ℕ → List EditRecord → ℕ → ℕ → List ℕ
with_records cells list first zero = cells
with_records cells list first (suc n) = with_record (with_records cells list first n) (first + n) (get_or list n no_record)
