-- Sets of slots as the code and as the definitions have them, and the operands and edits of a range of rows.
use Rattle.std.specs.Prelude.{◌≡◌, Bool, false, cond, not, ℕ, ◌-◌, ◌≤◌, ◌<◌, ◌+◌, ◌*◌, get_or}
use mathlib.Core.List.{List, [], ◌∷◌, ◌++◌, flat_map}
use Rattle.laws.specs.Digits.{bit}
use Rattle.laws.specs.Lists.{is_in, from, keep}
use Rattle.bits.specs.Sets.{has}
use Rattle.bits.specs.declared.sets.NumberSet.{NumberSet}
use Rattle.entity.specs.Limits.{slot_limit, block_limit, inst_limit}
use Rattle.entity.specs.declared.forms.Edit.{Edit}
use Rattle.rules.specs.{Sheet.is_use, Forward.all_defs, Sweep.without_all, Sweep.wanted_before}
use Rattle.rules.specs.Function.{Op, edit, slot_of, Target, into, over, target, reads, In}
use Rattle.table.specs.{Layout.edit_index, Layout.inst_index, Sheet.sheet_in, View.op_row, Edits.edit_in, Edits.place_in, Index.range_in}
use Rattle.table.specs.declared.index.Range.{Range}
use Rattle.entity.specs.declared.forms.Place.{Place}

-- the set S has the members of the list A, all of them below the limit
pub record Same (S : NumberSet) (A : List ℕ) : Type 0 where
  pub at : (k : ℕ) → has S k ≡ is_in k A
  pub low : (k : ℕ) → slot_limit ≤ k → is_in k A ≡ false

abbrev pub Low : List ℕ → Type 0
Low qs = (s : ℕ) → In s qs → s < slot_limit

abbrev pub LowReads : Op → Type 0
LowReads o = Low (reads o)

-- a target that is a slot which is not in S; an edit into such a slot
abbrev pub lacks : NumberSet → Target → Bool
lacks S (into d) = not (has S d)
lacks S (over ds) = false

abbrev pub dead_in : NumberSet → Edit → Bool
dead_in S e = lacks S (target (edit e))

-- the numbers of a range; and f at each of some numbers, from the last to the first
abbrev pub numbers : Range → List ℕ
numbers r = from r.from (r.to - r.from)

unfoldable pub back : {S : Type 0} → (ℕ → S → S) → List ℕ → S → S
back f [] a = a
back f (x ∷ xs) a = f x (back f xs a)

-- the slots that operand row n defines, and those that it reads
unfoldable pub defs_at : List ℕ → ℕ → List ℕ
defs_at t n = flat_map (λ (d : ℕ × Place). slot_of d.1) (all_defs (sheet_in t) (op_row (sheet_in t) n))

unfoldable pub uses_at : List ℕ → List ℕ → ℕ → List ℕ
uses_at t places n = cond (is_use (op_row (sheet_in t) n).kind) (slot_of (place_in places n)) []

-- the slots wanted before edits js, before instruction i, before it with its edits, and at the start of block b, where those of A are wanted after
unfoldable pub edits_back : List ℕ → List ℕ → List ℕ → List ℕ
edits_back edits js A = back (λ j B. wanted_before (edit (edit_in edits j)) B) js A

-- the numbers whose bit is set in a word
unfoldable pub list_of : ℕ → List ℕ
list_of x = keep (bit x) (from 0 64)

-- by the two words of an instruction: the slots that it defines are taken away, those that it reads added
unfoldable pub inst_back : List ℕ → ℕ → List ℕ → List ℕ
inst_back touched i A = list_of (get_or touched (i * 2 + 1) 0) ++ without_all (list_of (get_or touched (i * 2) 0)) A

module _ (t edits touched : List ℕ) where
  unfoldable pub step_back : ℕ → List ℕ → List ℕ
  step_back i A = edits_back edits (numbers (range_in t edit_index inst_limit i)) (inst_back touched i A)

  unfoldable pub block_back : ℕ → List ℕ → List ℕ
  block_back b A = back step_back (numbers (range_in t inst_index block_limit b)) A

-- the slots that the edits at an instruction read are below the limit
abbrev pub Lows : List ℕ → List ℕ → Type 0
Lows t edits = (i j : ℕ) → In j (numbers (range_in t edit_index inst_limit i)) → LowReads (edit (edit_in edits j))
