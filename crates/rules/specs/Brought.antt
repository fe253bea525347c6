-- Document 01, *Brought on*, by walks forward, in its words: case by case, with nothing of the sweep's `target` and `reads`, so that "exactly" ties them.
use Rattle.std.specs.Prelude.{◌≡◌, ◌⊎◌, List, [], ◌∷◌, ◌++◌, ℕ, drop}
use Rattle.entity.specs.declared.numbers.{PhysReg.PhysReg, SpillSlot.SpillSlot, Value.Value}
use Rattle.rules.specs.Sheet.{Place, Reg, Slot, Move, Remat, Espill, Ereload}
use Rattle.rules.specs.Function.{Inst, Op, edit, inst, Func, ops_of, In, IsWalk, along}

-- one of the places is slot s
abbrev pub SlotIn : ℕ → List Place → Type 0
SlotIn s [] = ⊥
SlotIn s (p ∷ ps) = (p ≡ Slot (record { 0 = s })) ⊎ SlotIn s ps

-- "content in slot s is read when an instruction uses s or an edit puts s into a register"
pub data ReadBy (s : ℕ) : Op → Type 0 where
  used : {n : Inst} → In s n.uses → ReadBy s (inst n)
  loaded : {r : PhysReg} {q : SpillSlot} {v : Value} → s ≡ q.0 → ReadBy s (edit (Move (Reg r) (Slot q) v))
  reloaded : {r : PhysReg} {q : SpillSlot} → s ≡ q.0 → ReadBy s (edit (Ereload r q))

-- "an instruction's definition, or an edit into s from elsewhere, ends it in s"
pub data Ends (s : ℕ) : Op → Type 0 where
  defined : {n : Inst} → SlotIn s n.defs → Ends s (inst n)
  stored : {t : SpillSlot} {r : PhysReg} {v : Value} → s ≡ t.0 → Ends s (edit (Move (Slot t) (Reg r) v))
  copied : {t q : SpillSlot} {v : Value} → s ≡ t.0 → (s ≡ q.0 → ⊥) → Ends s (edit (Move (Slot t) (Slot q) v))
  made : {t : SpillSlot} {v : Value} → s ≡ t.0 → Ends s (edit (Remat (Slot t) v))
  spilled : {t : SpillSlot} {r : PhysReg} → s ≡ t.0 → Ends s (edit (Espill t r))

-- o is a move from slot s to slot t
pub data MovesOn (s t : ℕ) : Op → Type 0 where
  on : {d q : SpillSlot} {v : Value} → s ≡ q.0 → t ≡ d.0 → MovesOn s t (edit (Move (Slot d) (Slot q) v))

-- "a move from s to slot t lets it go on in t (and in s, if s is not overwritten)"
pub data GoesOn (o : Op) (s t : ℕ) : Type 0 where
  moved : MovesOn s t o → GoesOn o s t
  rests : (Ends s o → ⊥) → t ≡ s → GoesOn o s t

-- content in slot s is read by one of the operations, or goes on and is read by a later one. "An instruction reads before it writes."
abbrev pub ReadAlong : List Op → ℕ → Type 0
ReadAlong [] s = ⊥
ReadAlong (o ∷ os) s = ReadBy s o ⊎ ((t : ℕ) × GoesOn o s t × ReadAlong os t)

-- the content of slot s at position i of block b is read along some walk from there
abbrev pub BroughtOn : Func → ℕ → ℕ → ℕ → Type 0
BroughtOn f b i s = (w : List ℕ) × IsWalk f (b ∷ w) × ReadAlong (drop i (ops_of f b) ++ along f w) s
