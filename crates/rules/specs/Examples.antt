-- Small cases: document 01's sheets C9 and C10 swept, content read round a loop, and the model run.
use Rattle.std.specs.Prelude.{◌≡◌, true, false, ℕ, ◌+◌, ◌*◌}
use mathlib.Core.List.{List, [], ◌∷◌, flat_map}
use Rattle.std.proofs.Math.Option.{none, some}
use Rattle.std.proofs.Math.Decide.{ℕ_discrete}
use Rattle.rules.specs.Sheet.{Place, Reg, Slot, Class, Def, Use, Edit, Move, Remat, Espill, Ereload, Misplaced, Nothing, Sheet, OpRow, ListRow}
use Rattle.rules.specs.{Forward.start, Sweep.sweep, Brought.BroughtOn}
use Rattle.rules.specs.Function.{Op, edit, inst, Func, ops_of, func_of}
use Rattle.rules.specs.Model.{State, Machine, choose, upd, step, steps, Agree}

-- C1's sheet with two slots, these operands and clobbers, and two edits at instruction 1
abbrev pub like : List OpRow → List ListRow → Edit → Edit → Sheet
like ops clobs e e' =
    record {
      above = 4;
      slots = 2;
      regs = record { memory = false; units = 0 ∷ [] } ∷ [];
      classes = record { slots = true; members = 0 ∷ [] } ∷ [];
      groups = [];
      values = some 0 ∷ [];
      vgroups = [];
      blocks = record { instructions = 3; idom = none; entry = true } ∷ [];
      succs = [];
      preds = [];
      params = [];
      ops = ops;
      clobs = clobs;
      edits = record { at = 1; edit = e } ∷ record { at = 1; edit = e' } ∷ [];
    }

abbrev pub r : ℕ → Place
r n = Reg (record { 0 = n })

abbrev pub s : ℕ → Place
s n = Slot (record { 0 = n })

abbrev pub move : Place → Place → Edit
move to p = Move to p (record { 0 = 0 })

abbrev pub remat : Place → ℕ → Edit
remat to v = Remat to (record { 0 = v })

-- an operand of value 0, and of class 0
abbrev pub define : ℕ → Place → OpRow
define i p = record { at = i; kind = Def (record { 0 = 0 }); constraint = Class (record { 0 = 0 }); place = p }

abbrev pub read : ℕ → Place → OpRow
read i p = record { at = i; kind = Use (record { 0 = 0 }); constraint = Class (record { 0 = 0 }); place = p }

abbrev pub c9 : Sheet
c9 = like (define 0 (r 0) ∷ []) [] (move (s 0) (r 0)) (move (s 1) (s 0))

abbrev pub c10 : Sheet
c10 = like (define 0 (r 0) ∷ read 1 (s 0) ∷ []) [] (move (s 0) (r 0)) (move (s 0) (s 0))

-- a spill that nothing reads
abbrev pub spilt : Sheet
spilt = like (define 0 (r 0) ∷ []) [] (Espill (record { 0 = 0 }) (record { 0 = 0 })) Nothing

-- instruction 2 uses slot 0, defines slot 1 and clobbers unit 0
abbrev pub last : Sheet
last = like (define 0 (r 0) ∷ read 2 (s 0) ∷ define 2 (s 1) ∷ []) (record { at = 2; list = 0 ∷ [] } ∷ []) (move (s 0) (r 0)) Nothing

-- the operations of the only block
abbrev pub only : Sheet → List Op
only sh = ops_of (func_of sh (start sh).places (start sh).edits) 0

-- a store, and a loop that reads it at each turn
abbrev pub loop : Func
loop = record {
  blocks = (edit (move (s 0) (r 0)) ∷ []) ∷ (inst (record { number = 0; uses = 0 ∷ []; defs = []; clobbers = [] }) ∷ []) ∷ [];
  succs = (1 ∷ []) ∷ (1 ∷ []) ∷ [];
}

-- Register 1 has the units 1 and 2, register 2 the units 2 and 3, any other r the unit r. A definition writes all that it may depend on: fifty more
-- than the instruction's number, the operand's, the word of unit 3, the words of the used slots. A clobbered unit tells its number and the time.
abbrev pub telling : Machine
telling =
    record {
      units = λ q. choose (ℕ_discrete q 1) (1 ∷ 2 ∷ []) (choose (ℕ_discrete q 2) (2 ∷ 3 ∷ []) (q ∷ []));
      value = λ v. v ∷ (v + 1) ∷ (v + 2) ∷ [];
      effect = λ n k regs used. (50 + n.number) ∷ k ∷ regs 3 ∷ flat_map (λ ws. ws) used;
      supply = λ c u. (c + 1) * 100 + u;
    }

-- the units hold 10, 11, 12 .., the slots (20, 30), (21, 31), (22, 32) ..
abbrev pub first : State
first = record { regs = λ u. 10 + u; slots = λ q. (20 + q) ∷ (30 + q) ∷ []; clock = 0 }

-- the same, but slot 2 holds nothing
abbrev pub other : State
other = record { regs = first.regs; slots = upd 2 [] first.slots; clock = 0 }

abbrev pub after : List Op → State → State
after [] st = st
after (o ∷ os) st = after os (step telling o st)

abbrev pub edited : Edit → State
edited e = step telling (edit e) first

-- the runs of one operation from the two states agree
abbrev pub Alike : Op → Type 0
Alike o = Agree (steps telling (o ∷ []) first) (steps telling (o ∷ []) other)

abbrev pub spill : ℕ → ℕ → Edit
spill t q = Espill (record { 0 = t }) (record { 0 = q })

abbrev pub reload : ℕ → ℕ → Edit
reload q t = Ereload (record { 0 = q }) (record { 0 = t })

-- an instruction that uses the slots 1 and 2, defines register 3, slot 1 and slot 5 twice, and clobbers the units 3 and 9
abbrev pub call : Op
call = inst (record { number = 6; uses = 1 ∷ 2 ∷ []; defs = r 3 ∷ s 1 ∷ s 5 ∷ s 5 ∷ []; clobbers = 3 ∷ 9 ∷ [] })

pub record Examples : Type 0 where
  -- C9 "both removed", C10 "both kept"
  pub both_removed : (sweep c9 (start c9)).edits ≡ Nothing ∷ Nothing ∷ []
  pub both_kept : (sweep c10 (start c10)).edits ≡ (start c10).edits
  -- "Emergency edits stay"
  pub spill_stays : (sweep spilt (start spilt)).edits ≡ (start spilt).edits
  -- what is in the slot after one turn of the loop is read at the next
  pub round : BroughtOn loop 1 1 0
  -- C10: what instruction 0 defines is in the slot at the end, and three instructions have run
  pub stored : (after (only c10) first).slots 0 ≡ 50 ∷ []
  pub ran : (after (only c10) first).clock ≡ 3
  -- an instruction has its number, used slots, definitions and clobbers from the sheet
  pub from_sheet : ((after (only last) first).slots 1 ≡ 52 ∷ 0 ∷ 13 ∷ 50 ∷ []) × ((after (only last) first).regs 0 ≡ 300)
  -- slot to register: the k-th unit has the k-th word, or 0 if short; words that are over go nowhere
  pub given : ((edited (move (r 1) (s 0))).regs 1 ≡ 20) × ((edited (move (r 1) (s 0))).regs 2 ≡ 30)
  pub short : (step telling (edit (move (r 1) (s 2))) other).regs 1 ≡ 0
  pub over : ((edited (move (r 4) (s 0))).regs 4 ≡ 20) × ((edited (move (r 4) (s 0))).regs 5 ≡ 15)
  -- register to slot: its units' words in the order of the row; so the emergency edits
  pub in_order : (edited (move (s 3) (r 2))).slots 3 ≡ 12 ∷ 13 ∷ []
  pub spilled : (edited (spill 3 2)).slots 3 ≡ 12 ∷ 13 ∷ []
  pub reloaded : ((edited (reload 2 0)).regs 2 ≡ 20) × ((edited (reload 2 0)).regs 3 ≡ 30)
  -- slot to slot: the list, and the source keeps it
  pub copied : ((edited (move (s 3) (s 0))).slots 3 ≡ 20 ∷ 30 ∷ []) × ((edited (move (s 3) (s 0))).slots 0 ≡ 20 ∷ 30 ∷ [])
  -- register to register, with unit 2 in both: all read first
  pub read_first : ((edited (move (r 2) (r 1))).regs 2 ≡ 11) × ((edited (move (r 2) (r 1))).regs 3 ≡ 12)
  -- a remat: words fixed by its value
  pub made : ((edited (remat (r 1) 60)).regs 1 ≡ 60) × ((edited (remat (r 1) 60)).regs 2 ≡ 61)
  pub made_in_slot : (edited (remat (s 3) 60)).slots 3 ≡ 60 ∷ 61 ∷ 62 ∷ []
  pub unchanged : (edited Nothing ≡ first) × (edited (Misplaced (r 1) (r 2)) ≡ first)
  -- an instruction: all is read from the state before it, and of two definitions of one place the later stays
  pub defined : (after (call ∷ []) first).regs 3 ≡ 56
  pub reads_first : (after (call ∷ []) first).slots 1 ≡ 56 ∷ 1 ∷ 13 ∷ 21 ∷ 31 ∷ 22 ∷ 32 ∷ []
  pub later_stays : (after (call ∷ []) first).slots 5 ≡ 56 ∷ 3 ∷ 13 ∷ 21 ∷ 31 ∷ 22 ∷ 32 ∷ []
  -- clobbered and not defined: what the supply has at that time
  pub clobbered : ((after (call ∷ []) first).regs 9 ≡ 109) × ((after (call ∷ call ∷ []) first).regs 9 ≡ 209)
  -- runs agree if nothing reads the slot in which they differ, and not if an instruction, a move or a reload does
  pub not_read : Alike (edit (move (s 3) (s 0)))
  pub used : Alike call → ⊥
  pub moved : Alike (edit (move (s 3) (s 2))) → ⊥
  pub put_back : Alike (edit (reload 1 2)) → ⊥
  -- registers agree after the last operation too
  pub at_the_end : Agree (steps telling (edit (move (r 1) (s 0)) ∷ []) first) (steps telling (edit Nothing ∷ []) first) → ⊥
