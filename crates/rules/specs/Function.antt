-- A function as the sweep and the model of a run see it: blocks of operations, and each block's successors.
use Rattle.std.specs.Prelude.{◌≡◌, ◌⊎◌, cond, ℕ, get_or, drop}
use mathlib.Core.List.{List, [], ◌∷◌, ◌++◌, map, flat_map}
use Rattle.rules.specs.Sheet.{Place, Reg, Slot, Edit, Move, Remat, Espill, Ereload, Misplaced, Nothing, Sheet, OpRow, succs_of, clobbers_of, insts_of, is_use}
use Rattle.rules.specs.Accept.{operands_at}
use Rattle.rules.specs.Forward.{indexed, all_defs, edits_at, blocks}

-- an instruction: its number, the slots that its `use` operands read, the places that it defines in row order, the units that it clobbers
pub record Inst : Type 0 where
  pub number : ℕ
  pub uses : List ℕ
  pub defs : List Place
  pub clobbers : List ℕ

pub data Op : Type 0 where
  edit : Edit → Op
  inst : Inst → Op

pub record Func : Type 0 where
  pub blocks : List (List Op)
  pub succs : List (List ℕ)

abbrev pub ops_of : Func → ℕ → List Op
ops_of f b = get_or f.blocks b []

abbrev pub next_of : Func → ℕ → List ℕ
next_of f b = get_or f.succs b []

-- the slot of a place, if it is one; the slots among places
unfoldable pub slot_of : Place → List ℕ
slot_of (Reg r) = []
slot_of (Slot s) = s.0 ∷ []

abbrev pub slots_of : List Place → List ℕ
slots_of ps = flat_map slot_of ps

-- What an operation writes: `into d` is a move or remat into slot d, which is removed where d is not wanted; `over ds` is any other operation, which
-- stays, and the slots ds that it writes.
pub data Target : Type 0 where
  into : ℕ → Target
  over : List ℕ → Target

-- of an edit to a place
abbrev pub to_place : Place → Target
to_place (Reg r) = over []
to_place (Slot d) = into d.0

abbrev pub target : Op → Target
target (inst n) = over (slots_of n.defs)
target (edit (Move to p v)) = to_place to
target (edit (Remat to v)) = to_place to
target (edit (Espill d r)) = over (d.0 ∷ [])
target (edit (Ereload r q)) = over []
target (edit (Misplaced to p)) = over []
target (edit Nothing) = over []

-- the slots that an operation reads
abbrev pub reads : Op → List ℕ
reads (inst n) = n.uses
reads (edit (Move to p v)) = slot_of p
reads (edit (Remat to v)) = []
reads (edit (Espill d r)) = []
reads (edit (Ereload r q)) = q.0 ∷ []
reads (edit (Misplaced to p)) = []
reads (edit Nothing) = []

-- what stands in a block: rows of edits and instructions, by their numbers
pub data Item : Type 0 where
  row : ℕ → Item
  ins : ℕ → Item

module _ (sh : Sheet) where
  -- "Edits at instruction i come before i, in list order."
  unfoldable pub items : ℕ → List Item
  items b = flat_map (λ i. map row (edits_at sh i) ++ (ins i ∷ [])) (insts_of sh b)

  module _ (places : List Place) (es : List Edit) where
    unfoldable pub inst_of : ℕ → Inst
    inst_of i =
        record {
          number = i;
          uses = flat_map (λ (x : ℕ × ℕ × OpRow). cond (is_use x.2.kind) (slot_of (get_or places x.1 x.2.place)) []) (indexed sh i);
          defs = map (λ (d : ℕ × Place). d.1) (flat_map (all_defs sh) (operands_at sh i));
          clobbers = clobbers_of sh i;
        }

    unfoldable pub look : Item → Op
    look (row j) = edit (get_or es j Nothing)
    look (ins i) = inst (inst_of i)

    -- the function of a sheet with these operand places and edits
    unfoldable pub func_of : Func
    func_of = record { blocks = map (λ b. map look (items b)) (blocks sh); succs = map (succs_of sh) (blocks sh) }

-- ---- walks

abbrev pub In : ℕ → List ℕ → Type 0
In x [] = ⊥
In x (y ∷ ys) = (x ≡ y) ⊎ In x ys

-- what is left of block b from position i on is os
abbrev pub Left : Func → ℕ → ℕ → List Op → Type 0
Left f b i os = drop i (ops_of f b) ≡ os

-- each block of a walk is a listed successor of the one before
pub data IsWalk (f : Func) : List ℕ → Type 0 where
  stop : {b : ℕ} → IsWalk f (b ∷ [])
  next : {b t : ℕ} {w : List ℕ} → In t (next_of f b) → IsWalk f (t ∷ w) → IsWalk f (b ∷ t ∷ w)

-- the operations of a walk's blocks, in order
unfoldable pub along : Func → List ℕ → List Op
along f [] = []
along f (b ∷ w) = ops_of f b ++ along f w
