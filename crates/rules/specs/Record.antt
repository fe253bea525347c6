-- Document 01, "The forward rules": the record, and what each event makes of it.
-- "The record holds: which registers hold a value, the last (register, value) per unit, which slot holds its value, each value's defining block
-- and last spilled block." The first three are `writes` and `known`. `absent` stands where there is none.
use Rattle.std.specs.Prelude.{Bool, false, cond, not, ◌&&◌, ◌||◌, List, map, ℕ, eqb, length, get_or, set, replicate}
use Rattle.std.proofs.Math.Option.{Option-elim}
use Rattle.laws.specs.{Fold.run, Lists.all}
use Rattle.entity.specs.Limits.{slot_limit, reg_limit, unit_limit, value_limit}
use Rattle.rules.specs.Sheet.{Place, Reg, Slot, Edit, Move, Remat, Espill, Ereload, Misplaced, Nothing, Sheet, units_of, home_of}

-- no register, value or block; larger than each
abbrev pub absent : ℕ
absent = 65535

-- the register and the value of each unit's last write; and of those that an `espill` noted
pub record Writes : Type 0 where
  pub reg : List ℕ
  pub value : List ℕ

-- what is known, and handed from block to block: the value of each register and of each slot
pub record Known : Type 0 where
  pub held : List ℕ
  pub stored : List ℕ

-- each value's defining block and last spilled block
pub record Blocks : Type 0 where
  pub defined : List ℕ
  pub spilled : List ℕ

pub record Record : Type 0 where
  pub writes : Writes
  pub known : Known
  pub blocks : Blocks
  pub notes : Writes

abbrev pub no_writes : Writes
no_writes = record { reg = replicate unit_limit absent; value = replicate unit_limit absent }

unfoldable pub nothing : Known
nothing = record { held = replicate reg_limit absent; stored = replicate slot_limit absent }

-- the record of a fresh walk
unfoldable pub fresh : Record
fresh = let l = replicate value_limit absent in record { writes = no_writes; known = nothing; blocks = record { defined = l; spilled = l }; notes = no_writes }

-- ---- one group changed

-- unit u's write is of value v to register r
abbrev pub set_write : ℕ → ℕ → ℕ → Writes → Writes
set_write r v u w = record { reg = set w.reg u r; value = set w.value u v }

abbrev pub write_unit : ℕ → ℕ → Record → ℕ → Record
write_unit r v s u = record { writes = set_write r v u s.writes; known = s.known; blocks = s.blocks; notes = s.notes }

-- unit u's last write is noted
abbrev pub note_unit : Record → ℕ → Record
note_unit s u =
    let noted = set_write (get_or s.writes.reg u absent) (get_or s.writes.value u absent) u s.notes in
    record { writes = s.writes; known = s.known; blocks = s.blocks; notes = noted }

abbrev pub with_known : Known → Record → Record
with_known k s = record { writes = s.writes; known = k; blocks = s.blocks; notes = s.notes }

-- register r holds v
abbrev pub hold : ℕ → ℕ → Record → Record
hold r v s = with_known (record { held = set s.known.held r v; stored = s.known.stored }) s

-- slot t holds v
abbrev pub store : ℕ → ℕ → Record → Record
store t v s = with_known (record { held = s.known.held; stored = set s.known.stored t v }) s

abbrev pub with_blocks : Blocks → Record → Record
with_blocks c s = record { writes = s.writes; known = s.known; blocks = c; notes = s.notes }

-- block b is v's defining block
abbrev pub define_in : ℕ → ℕ → Record → Record
define_in b v s = with_blocks (record { defined = set s.blocks.defined v b; spilled = s.blocks.spilled }) s

-- block b is v's last spilled block
abbrev pub spill_in : ℕ → ℕ → Record → Record
spill_in b v s = with_blocks (record { defined = s.blocks.defined; spilled = set s.blocks.spilled v b }) s

-- ---- the rules

-- "A new block empties the first three only, takes in the pairs handed to it"
abbrev pub begins : Known → Record → Record
begins k s = record { writes = no_writes; known = k; blocks = s.blocks; notes = s.notes }

-- register r holds v
unfoldable pub holds : Record → ℕ → ℕ → Bool
holds s r v = eqb (get_or s.known.held r absent) v

-- r is taken from v, if it holds v
unfoldable pub take_from : ℕ → ℕ → Record → Record
take_from r v s = cond (holds s r v) (hold r absent s) s

-- "*Forgetting a unit* takes away its last write and that register from that value."
unfoldable pub forget_unit : Record → ℕ → Record
forget_unit s u = write_unit absent absent (take_from (get_or s.writes.reg u absent) (get_or s.writes.value u absent) s) u

-- no register holds v
unfoldable pub drop_value : ℕ → Record → Record
drop_value v s = with_known (record { held = map (λ x. cond (eqb x v) absent x) s.known.held; stored = s.known.stored }) s

module _ (sh : Sheet) where
  -- register r's units are forgotten, and then written with v
  unfoldable pub overwrite : ℕ → ℕ → Record → Record
  overwrite r v s = run (write_unit r v) (run forget_unit s (units_of sh r)) (units_of sh r)

  -- v's home slot holds nothing
  unfoldable pub empty_home : ℕ → Record → Record
  empty_home v s = Option-elim (home_of sh v) s (λ h. store h absent s)

  -- slot t is v's home slot
  unfoldable pub is_home : ℕ → ℕ → Bool
  is_home v t = Option-elim (home_of sh v) false (λ h. eqb h t)

  -- "*Defining* v makes this its defining block. In a register: forgets its units, writes them, makes that v's only register and empties v's
  -- home slot. In its home slot: no registers, the slot holds v, last spilled block is this one. In another slot: no registers; home slot and
  -- that slot hold nothing."
  unfoldable pub define : ℕ → ℕ → Place → Record → Record
  define b v (Reg r) s = empty_home v (hold r.0 v (drop_value v (overwrite r.0 v (define_in b v s))))
  define b v (Slot t) s =
      cond (is_home v t.0) (spill_in b v (store t.0 v (drop_value v (define_in b v s))))
      (store t.0 absent (empty_home v (drop_value v (define_in b v s))))

  -- "*A move or remat* to a register forgets, writes, adds. To the home slot: it holds v. To another slot: it holds nothing."
  unfoldable pub arrive : ℕ → Place → Record → Record
  arrive v (Reg r) s = hold r.0 v (overwrite r.0 v s)
  arrive v (Slot t) s = store t.0 (cond (is_home v t.0) v absent) s

  -- "*espill* notes the last writes of its register's units."
  unfoldable pub espill : ℕ → Record → Record
  espill r s = run note_unit s (units_of sh r)

  -- a note is written back, if there is one
  unfoldable pub write_back : Record → ℕ → Record
  write_back s u =
      let r = get_or s.notes.reg u absent in
      cond (eqb r absent) s (write_unit r (get_or s.notes.value u absent) s u)

  -- "adds a noted register where it has one unit or all its units' last writes are of that value"
  unfoldable pub add_back : Record → ℕ → Record
  add_back s u =
      let r = get_or s.notes.reg u absent in
      let v = get_or s.notes.value u absent in
      cond (not (eqb r absent) && (eqb (length (units_of sh r)) 1 || all (λ w. eqb (get_or s.writes.value w absent) v) (units_of sh r))) (hold r v s) s

  -- "*ereload* forgets those units, writes the notes back, and adds .."
  unfoldable pub ereload : ℕ → Record → Record
  ereload r s = run add_back (run write_back (run forget_unit s (units_of sh r)) (units_of sh r)) (units_of sh r)

  -- what an edit makes of the record
  unfoldable pub effect : Edit → Record → Record
  effect (Move to p v) s = arrive v.0 to s
  effect (Remat to v) s = arrive v.0 to s
  effect (Espill t r) s = espill r.0 s
  effect (Ereload r t) s = ereload r.0 s
  effect (Misplaced to p) s = s
  effect Nothing s = s
