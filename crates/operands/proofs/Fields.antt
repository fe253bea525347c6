-- For `kind_at`, `constraint_at` and `place_at`: the fields of row n of the operands, read off the table. Assumes nothing.
use mathlib.Core.Path.{◌≡◌, refl, sym}
use mathlib.Core.List.{List}
use Prim.Native.Nat.{ℕ}
use lib.ListN.{get_or}
use Rattle.rules.specs.Cells.{word, words, find}
use Rattle.rules.specs.Sheet.{place_of, constraint_of, kind_of}
use Rattle.table.specs.Rows.{kind_row}
use Rattle.table.specs.Sheet.{sheet_in}
use Rattle.table.specs.View.{op_row}
use Rattle.table.proofs.Sheets.{part_of, ops_are}
use Rattle.entity.specs.declared.forms.Place.{Place}
use Rattle.entity.specs.declared.forms.Constraint.{Constraint}
use Rattle.entity.specs.declared.forms.OperandKind.{OperandKind}

module _ (t : List ℕ) (n : ℕ) {r : List ℕ} (e : r ≡ kind_row t 10 n) where
  pub kind_is : {w v : ℕ} {k : OperandKind} → w ≡ get_or r 2 0 → v ≡ get_or r 3 0 → k ≡ kind_of w v → k ≡ (op_row (sheet_in t) n).kind
  unfolding kind_of word words find
  kind_is pw pv pk = rw (pk, pw, pv, e) (sym (part_of (ops_are t) (λ o. o.kind) n _ refl))

  pub constraint_is : {x : ℕ} {q : Constraint} → x ≡ get_or r 4 0 → q ≡ constraint_of x → q ≡ (op_row (sheet_in t) n).constraint
  unfolding constraint_of
  constraint_is px pq = rw (pq, px, e) (sym (part_of (ops_are t) (λ o. o.constraint) n _ refl))

  pub place_is : {c : ℕ} {p : Place} → c ≡ get_or r 5 0 → p ≡ place_of c → p ≡ (op_row (sheet_in t) n).place
  unfolding place_of
  place_is pc pp = rw (pp, pc, e) (sym (part_of (ops_are t) (λ o. o.place) n _ refl))
