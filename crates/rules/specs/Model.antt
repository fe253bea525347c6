-- Document 01, *Model of a run (added)*: "a unit holds a word, a slot a list of words. Parameters do nothing."
use Rattle.std.specs.Prelude.{◌≡◌, List, [], ◌∷◌, map, ℕ, suc}
use Rattle.std.proofs.Math.Decide.{ℕ_discrete}
use Rattle.rules.specs.Sheet.{Place, Reg, Slot, Move, Remat, Espill, Ereload, Misplaced, Nothing}
use Rattle.rules.specs.Function.{Inst, Op, edit, inst, In, reads}

-- the word of each unit and the words of each slot, and how many instructions have run
pub record State : Type 0 where
  pub regs : ℕ → ℕ
  pub slots : ℕ → List ℕ
  pub clock : ℕ

-- What is arbitrary in a run:
--   units r               the units of register r, "in unit order of the row"
--   value v               "A remat writes words fixed by its value."
--   effect n k regs used  what definition k of instruction n writes, group members counted one by one: "words that depend on the instruction, the operand, all registers and the
--                         used slots"
--   supply c u            what unit u holds after the instruction at time c clobbered it; 01's "reads 0 afterwards" is the supply of zeros
pub record Machine : Type 0 where
  pub units : ℕ → List ℕ
  pub value : ℕ → List ℕ
  pub effect : Inst → ℕ → (ℕ → ℕ) → List (List ℕ) → List ℕ
  pub supply : ℕ → ℕ → ℕ

abbrev pub choose : {P A : Type 0} → Dec P → A → A → A
choose (yes _) a b = a
choose (no _) a b = b

-- g with v at k
unfoldable pub upd : {A : Type 0} → ℕ → A → (ℕ → A) → ℕ → A
upd k v g n = choose (ℕ_discrete n k) v (g n)

abbrev pub word_of : List ℕ → ℕ
word_of [] = 0
word_of (w ∷ ws) = w

abbrev pub rest_of : List ℕ → List ℕ
rest_of [] = []
rest_of (w ∷ ws) = ws

-- "sets the k-th unit to the k-th word, or 0 if short"
unfoldable pub fill : List ℕ → List ℕ → (ℕ → ℕ) → ℕ → ℕ
fill [] ws g = g
fill (u ∷ us) ws g = fill us (rest_of ws) (upd u (word_of ws) g)

-- each of the units gets what w says
unfoldable pub wash : List ℕ → (ℕ → ℕ) → (ℕ → ℕ) → ℕ → ℕ
wash [] w g = g
wash (u ∷ us) w g = wash us w (upd u (w u) g)

module _ (M : Machine) where
  -- "stores its units' words in unit order of the row; slot to slot copies the list"
  abbrev pub read_at : Place → State → List ℕ
  read_at (Reg r) st = map st.regs (M.units r.0)
  read_at (Slot s) st = st.slots s.0

  abbrev pub write : Place → List ℕ → State → State
  write (Reg r) ws st = record { regs = fill (M.units r.0) ws st.regs; slots = st.slots; clock = st.clock }
  write (Slot s) ws st = record { regs = st.regs; slots = upd s.0 ws st.slots; clock = st.clock }

  -- v k to the k-th place, in order
  unfoldable pub write_all : List Place → ℕ → (ℕ → List ℕ) → State → State
  write_all [] k v st = st
  write_all (p ∷ ps) k v st = write_all ps (suc k) v (write p (v k) st)

  -- The clobbers come first, so that a clobbered unit that an operand defines holds what the operand writes.
  abbrev pub clobbered : Inst → State → State
  clobbered n st = record { regs = wash n.clobbers (M.supply st.clock) st.regs; slots = st.slots; clock = suc st.clock }

  -- what an instruction writes: all is read from the state before it
  abbrev pub results : Inst → State → ℕ → List ℕ
  results n st k = M.effect n k st.regs (map st.slots n.uses)

  -- the state after an operation: "all read first", "Definitions write, in row order"
  abbrev pub step : Op → State → State
  step (inst n) st = write_all n.defs 0 (results n st) (clobbered n st)
  step (edit (Move to p v)) st = write to (read_at p st) st
  step (edit (Remat to v)) st = write to (M.value v.0) st
  step (edit (Espill s r)) st = write (Slot s) (read_at (Reg r) st) st
  step (edit (Ereload r s)) st = write (Reg r) (read_at (Slot s) st) st
  step (edit (Misplaced to p)) st = st
  step (edit Nothing) st = st

-- an operation and the state before it
pub record Step : Type 0 where
  pub op : Op
  pub before : State

-- each operation with the state before it, and then the state after them all
unfoldable pub steps : Machine → List Op → State → List Step
steps M [] st = record { op = edit Nothing; before = st } ∷ []
steps M (o ∷ os) st = record { op = o; before = st } ∷ steps M os (step M o st)

-- at each step all registers agree, and every slot that the operation of the second run reads there
pub data Agree : List Step → List Step → Type 0 where
  done : Agree [] []
  each : {x y : Step} {xs ys : List Step} → ((u : ℕ) → x.before.regs u ≡ y.before.regs u) → ((s : ℕ) → In s (reads y.op) → x.before.slots s ≡ y.before.slots s) → Agree xs ys → Agree (x ∷ xs) (y ∷ ys)
