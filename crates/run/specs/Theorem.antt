-- What is proved of the sweep, for every function and every sheet; the premises are those that the statements name.
use Rattle.std.specs.Prelude.{◌≡◌, ◌↔◌, true, List, [], ◌∷◌, ℕ, suc, ◌≤◌, ◌<◌, length, get_or}
use Rattle.laws.specs.Lists.{is_in}
use Rattle.entity.specs.declared.forms.Place.{Place}
use Rattle.entity.specs.declared.forms.Edit.{Edit, TheVariants.Nothing}
use Rattle.entity.specs.declared.forms.Level.{Level}
use Rattle.rules.specs.{Sheet.Sheet, Accept.within_limits, Accept.names_hold, Forward.Walk, Brought.BroughtOn}
use Rattle.rules.specs.Function.{Inst, Op, edit, inst, Func, func_of, In, Left, IsWalk, along}
use Rattle.rules.specs.Sweep.{Wanted, wanted_at, ends, strike_blocks, sweep}
use Rattle.rules.specs.Model.{State, Machine, step, steps, Agree}
use Rattle.run.specs.Swept.{Swept, Removed, IntoSlot, SweptRows, Stands, StandsOnce, MadeNone, AreEnds, ReadsWithin, optimised, folded_places, edits_before, edits_after, walked, UnitIn}

-- For every machine, walk and start, in the runs with the operations of f and of g: at each step all registers agree, and every slot that an
-- operation of g reads there.
abbrev pub RunsAgree : Func → Func → Type 0
RunsAgree f g = (M : Machine) (w : List ℕ) → IsWalk f w → (st : State) → Agree (steps M (along f w) st) (steps M (along g w) st)

-- The runs before and after the sweep agree: on all registers, and on every slot that an instruction or a kept edit reads.
abbrev pub Safe : Type 0
Safe = (f g : Func) → Swept f g → RunsAgree f g

-- An operation is removed exactly when it is a move or remat into a slot whose content is not brought on after it; all else stays.
abbrev pub Exact : Type 0
Exact =
    (f g : Func) → Swept f g → (b i : ℕ) (o o' : Op) (os os' : List Op) → Left f b i (o ∷ os) → Left g b i (o' ∷ os') →
    (Removed o o' ↔ ((s : ℕ) × IntoSlot o s × (BroughtOn f b (suc i) s → ⊥))) × ((Removed o o' → ⊥) → o' ≡ o)

-- There is one sweep of a function.
abbrev pub Once : Type 0
Once = (f g h : Func) → Swept f g → Swept f h → g ≡ h

-- `Safe` on a sheet's rows
abbrev pub SafeRows : Type 0
SafeRows = (sh : Sheet) (places : List Place) (es es' : List Edit) → SweptRows sh places es es' → RunsAgree (func_of sh places es) (func_of sh places es')

-- `Exact` of one row of the edits es, which stands at position i of block b: es' has `none` for it exactly when it is a move or remat into a slot
-- whose content is not brought on after it, and otherwise has it as it was
abbrev pub ExactRow : Sheet → List Place → List Edit → List Edit → ℕ → ℕ → ℕ → Type 0
ExactRow sh places es es' b i j =
    (MadeNone (get_or es j Nothing) (get_or es' j Nothing)
    ↔ ((s : ℕ) × IntoSlot (edit (get_or es j Nothing)) s × (BroughtOn (func_of sh places es) b (suc i) s → ⊥)))
    × ((MadeNone (get_or es j Nothing) (get_or es' j Nothing) → ⊥) → get_or es' j Nothing ≡ get_or es j Nothing)

-- `Exact` on a sheet's rows
abbrev pub ExactRows : Type 0
ExactRows = (sh : Sheet) (places : List Place) (es es' : List Edit) → SweptRows sh places es es' → (b i j : ℕ) → Stands sh b i j → ExactRow sh places es es' b i j

-- `Once` on a sheet's rows
abbrev pub OnceRows : Type 0
OnceRows =
    (sh : Sheet) (places : List Place) (es es' es'' : List Edit) → SweptRows sh places es es' → SweptRows sh places es es'' →
    (b i j : ℕ) → Stands sh b i j → get_or es' j Nothing ≡ get_or es'' j Nothing

-- Every edit row stands at one position. (Refusal 3 gives that its instruction exists.)
abbrev pub StandOnce : Type 0
StandOnce = (sh : Sheet) → names_hold sh ≡ true → (j : ℕ) → j < length sh.edits → (b : ℕ) × (i : ℕ) × StandsOnce sh b i j

-- From lists that are the slots wanted at the ends, the lists computed backward are the slots wanted at each position.
abbrev pub WantedComputed : Type 0
WantedComputed =
    (f : Func) (A : List (List ℕ)) → AreEnds f A → (b i : ℕ) (os : List Op) → Left f b i os → (s : ℕ) →
    (is_in s (wanted_at os (get_or A b [])) ≡ true) ↔ Wanted f b i s

-- And the rows struck by them are the rows swept.
abbrev pub ComputedRows : Type 0
ComputedRows =
    (sh : Sheet) (places : List Place) (es : List Edit) (A : List (List ℕ)) → AreEnds (func_of sh places es) A →
    SweptRows sh places es (strike_blocks sh places es A)

-- Whatever the lists, there are as many edits afterwards, and a row that stands nowhere is as it was.
abbrev pub OthersStay : Type 0
OthersStay =
    (sh : Sheet) (places : List Place) (es : List Edit) (A : List (List ℕ)) →
    (length (strike_blocks sh places es A) ≡ length es)
    × ((j : ℕ) → ((b i : ℕ) → Stands sh b i j → ⊥) → get_or (strike_blocks sh places es A) j Nothing ≡ get_or es j Nothing)

-- The lists that the rounds of `ends` give are the slots wanted at the ends of the blocks: the rounds stop at the smallest solution. (As many blocks
-- as lists of successors, at least, and slots below the limit: so the rounds stop before their bound.)
abbrev pub Agreement : Type 0
Agreement = (f : Func) → length f.succs ≤ length f.blocks → ReadsWithin f → AreEnds f (ends f)

-- So the edits that `sweep` gives are the edits swept.
abbrev pub SweepIs : Type 0
SweepIs = (sh : Sheet) (w : Walk) → ReadsWithin (walked sh w) → SweptRows sh w.places w.edits (sweep sh w).edits

-- Of an accepted sheet, at every level, that premise holds. (Refusals 2 and 3 give it.)
abbrev pub AcceptedWithin : Type 0
AcceptedWithin = (sh : Sheet) (level : Level) → within_limits sh ≡ true → names_hold sh ≡ true → ReadsWithin (walked sh (optimised sh level))

-- `Safe` for the call: an accepted sheet, any level, with the folded places, and the edits before and after the sweep
abbrev pub SafeCall : Type 0
SafeCall =
    (sh : Sheet) (level : Level) → within_limits sh ≡ true → names_hold sh ≡ true →
    RunsAgree (func_of sh (folded_places sh level) (edits_before sh level)) (func_of sh (folded_places sh level) (edits_after sh level))

-- `Exact` of every row of the edits es, at the one position where it stands
abbrev pub ExactEdits : Sheet → List Place → List Edit → List Edit → Type 0
ExactEdits sh places es es' = (j : ℕ) → j < length sh.edits → (b : ℕ) × (i : ℕ) × StandsOnce sh b i j × ExactRow sh places es es' b i j

-- and `Exact` for the call
abbrev pub ExactCall : Type 0
ExactCall =
    (sh : Sheet) (level : Level) → within_limits sh ≡ true → names_hold sh ≡ true →
    ExactEdits sh (folded_places sh level) (edits_before sh level) (edits_after sh level)

-- A clobbered unit that no operand defines holds the supply's word afterwards.
abbrev pub Clobbers : Type 0
Clobbers =
    (M : Machine) (n : Inst) (st : State) (u : ℕ) → In u n.clobbers → (UnitIn M u n.defs → ⊥) →
    (step M (inst n) st).regs u ≡ M.supply st.clock u
