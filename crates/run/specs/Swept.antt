-- The words that the theorems need beside those of the rules: the sweep of a function and of a sheet's rows.
use Rattle.std.specs.Prelude.{◌≡◌, ◌⊎◌, ◌↔◌, true, List, [], ◌∷◌, ℕ, suc, ◌<◌, length, get_or, drop}
use Rattle.laws.specs.Lists.{is_in}
use Rattle.entity.specs.Limits.{slot_limit}
use Rattle.entity.specs.declared.numbers.Value.{Value}
use Rattle.entity.specs.declared.forms.Place.{Place, TheVariants.Reg, TheVariants.Slot}
use Rattle.entity.specs.declared.forms.Edit.{Edit, TheVariants.Move, TheVariants.Remat, TheVariants.Nothing}
use Rattle.entity.specs.declared.forms.Level.{Level}
use Rattle.rules.specs.{Sheet.Sheet, Forward.Walk, Forward.optimise, Forward.start, Sweep.Wanted, Sweep.SweptOp, Sweep.sweep}
use Rattle.rules.specs.Function.{Op, edit, Func, ops_of, next_of, Item, row, items, func_of, In, Left, reads}
use Rattle.rules.specs.Model.{Machine}

-- os' are the operations os, from position i of block b on, swept
pub data SweptOps (f : Func) (b : ℕ) : ℕ → List Op → List Op → Type 0 where
  end : {i : ℕ} → SweptOps f b i [] []
  then : {i : ℕ} {o o' : Op} {os os' : List Op} → SweptOp f b i o o' → SweptOps f b (suc i) os os' → SweptOps f b i (o ∷ os) (o' ∷ os')

-- g is the function f swept: as many blocks, each operation what the sweep makes of it, the same successors
pub record Swept (f g : Func) : Type 0 where
  pub many : length g.blocks ≡ length f.blocks
  pub blocks : (b : ℕ) → SweptOps f b 0 (ops_of f b) (ops_of g b)
  pub succs : g.succs ≡ f.succs

-- an operation stood where now there is none
abbrev pub Removed : Op → Op → Type 0
Removed o o' = (o ≡ edit Nothing → ⊥) × (o' ≡ edit Nothing)

-- o is a move or remat into slot s
pub data IntoSlot (o : Op) (s : ℕ) : Type 0 where
  by_move : {p : Place} {v : Value} → o ≡ edit (Move (Slot (record { 0 = s })) p v) → IntoSlot o s
  by_remat : {v : Value} → o ≡ edit (Remat (Slot (record { 0 = s })) v) → IntoSlot o s

-- row j of the edits stands at position i of block b
pub data Stands (sh : Sheet) (b i j : ℕ) : Type 0 where
  stands : {l : List Item} → drop i (items sh b) ≡ row j ∷ l → Stands sh b i j

-- and nowhere else
abbrev pub StandsOnce : Sheet → ℕ → ℕ → ℕ → Type 0
StandsOnce sh b i j = Stands sh b i j × ((b' i' : ℕ) → Stands sh b' i' j → (b ≡ b') × (i ≡ i'))

-- row by row, es' is what the sweep makes of the edits es
abbrev pub SweptRows : Sheet → List Place → List Edit → List Edit → Type 0
SweptRows sh places es es' =
    (b i j : ℕ) → Stands sh b i j → SweptOp (func_of sh places es) b i (edit (get_or es j Nothing)) (edit (get_or es' j Nothing))

-- the row was made `none`
abbrev pub MadeNone : Edit → Edit → Type 0
MadeNone e e' = (e ≡ Nothing → ⊥) × (e' ≡ Nothing)

-- some successor of block b wants slot s at its start
abbrev pub WantedAtEnd : Func → ℕ → ℕ → Type 0
WantedAtEnd f b s = (t : ℕ) × In t (next_of f b) × Wanted f t 0 s

-- the lists are, as sets, the slots wanted at the ends of the blocks
abbrev pub AreEnds : Func → List (List ℕ) → Type 0
AreEnds f A = (b s : ℕ) → (is_in s (get_or A b []) ≡ true) ↔ WantedAtEnd f b s

-- every slot that an operation reads is below the limit
abbrev pub ReadsWithin : Func → Type 0
ReadsWithin f = (b i s : ℕ) (o : Op) (os : List Op) → Left f b i (o ∷ os) → In s (reads o) → s < slot_limit

-- The walk of a sheet after the forward rules, and that walk swept.
abbrev pub optimised : Sheet → Level → Walk
optimised sh level = optimise sh level (start sh)

abbrev pub final : Sheet → Level → Walk
final sh level = sweep sh (optimised sh level)

-- The operands' places after folding, the edits before the sweep, and the edits after it.
abbrev pub folded_places : Sheet → Level → List Place
folded_places sh level = (optimised sh level).places

abbrev pub edits_before : Sheet → Level → List Edit
edits_before sh level = (optimised sh level).edits

abbrev pub edits_after : Sheet → Level → List Edit
edits_after sh level = (final sh level).edits

-- the function of a walk
abbrev pub walked : Sheet → Walk → Func
walked sh w = func_of sh w.places w.edits

-- unit u is one of a register among the places
abbrev pub UnitIn : Machine → ℕ → List Place → Type 0
UnitIn M u [] = ⊥
UnitIn M u (Reg r ∷ ps) = In u (M.units r.0) ⊎ UnitIn M u ps
UnitIn M u (Slot s ∷ ps) = UnitIn M u ps
