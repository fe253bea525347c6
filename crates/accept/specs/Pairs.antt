-- Refusal 6 in the steps in which the code goes: the emergency spill that is not yet closed, home slots and shared units as sets, and what is asked of one edit.
use Rattle.std.specs.Prelude.{Option, None, Some, Result, Ok, Err, Bool, true, false, cond, ◌&&◌, ◌||◌, List, map, ℕ, zero, suc, eqb}
use Rattle.std.proofs.Math.Option.{none, some, Option-elim}
use Rattle.laws.specs.Lists.{all, any, is_in, from}
use Rattle.bits.specs.Sets.{set_of}
use Rattle.bits.specs.declared.sets.NumberSet.{NumberSet}
use Rattle.entity.specs.declared.forms.Edit.{Edit, TheVariants.Move, TheVariants.Remat, TheVariants.Espill, TheVariants.Ereload, TheVariants.Misplaced, TheVariants.Nothing}
use Rattle.entity.specs.declared.numbers.PhysReg.{PhysReg}
use Rattle.entity.specs.declared.numbers.SpillSlot.{SpillSlot}
use Rattle.rules.specs.Sheet.{Sheet, EditRow, reg_count, units_of}
use Rattle.rules.specs.Accept.{placed, paired, no_home, apart, pair_holds}

-- the emergency spill that is not yet closed, if any
abbrev pub Held : Type 0
Held = Option (SpillSlot × PhysReg)

-- the rest of a block's edits goes on well after these
unfoldable pub paired_by : Held → List Edit → Bool
paired_by None es = paired none es
paired_by (Some h) es = paired (some (h.0.0, h.1.0)) es

-- after one edit more; an error where the pairs are broken
unfoldable pub after_edit : Edit → Held → Result Held (Unit {0})
after_edit (Move to p v) h = Ok h
after_edit (Remat to v) h = Ok h
after_edit (Misplaced to p) h = Ok h
after_edit Nothing h = Ok h
after_edit (Espill s r) None = Ok (Some (s, r))
after_edit (Espill s r) (Some h) = Err tt
after_edit (Ereload r s) None = Err tt
after_edit (Ereload r s) (Some h) = cond (eqb h.0.0 s.0 && eqb h.1.0 r.0) (Ok None) (Err tt)

-- an emergency spill or reload, well placed or not
unfoldable pub is_emergency : Edit → Bool
is_emergency (Espill s r) = true
is_emergency (Ereload r s) = true
is_emergency (Misplaced to p) = true
is_emergency (Move to p v) = false
is_emergency (Remat to v) = false
is_emergency Nothing = false

-- what the rows say
unfoldable pub edits_of : List EditRow → List Edit
edits_of rows = map (λ e. e.edit) rows

module _ (sh : Sheet) where
  -- s is the home slot of a value
  unfoldable pub is_home_of : ℕ → Bool
  is_home_of s = any (λ h. Option-elim h false (eqb s)) sh.values

  unfoldable pub home_set : NumberSet
  home_set = set_of is_home_of

  -- u is a unit of two of the first n registers
  unfoldable pub shared_in : ℕ → ℕ → Bool
  shared_in zero u = false
  shared_in (suc n) u = shared_in n u || (any (λ q. is_in u (units_of sh q)) (from 0 n) && is_in u (units_of sh n))

  unfoldable pub shared_set : NumberSet
  shared_set = set_of (shared_in (reg_count sh))

  unfoldable pub some_emergency : Bool
  some_emergency = any (λ e. is_emergency e.edit) sh.edits

  unfoldable pub pair_apart : ℕ → ℕ → Bool
  pair_apart s r = no_home sh s && apart sh r

  unfoldable pub edit_holds : Edit → Bool
  edit_holds e = placed e && pair_holds sh e

  unfoldable pub each_holds : Bool
  each_holds = all (λ e. edit_holds e.edit) sh.edits
