-- A block begins: `begin_empty`, `take_known`, `write_held`, `write_all_held` and `take_in` of src/handed.rt make of the record what the rule
-- `take_in` says. Assumes nothing.
use mathlib.Core.Path.{◌≡◌, refl, sym, ap, ap₂, ◌∙◌}
use mathlib.Core.Bool.{Bool, true, false, cond}
use mathlib.Core.List.{List, [], ◌∷◌}
use mathlib.Core.Option
use mathlib.Core.Option.{none, some}
use Prim.Native.Nat.{ℕ, ◌+◌, ◌≤◌}
use native.Mathlib.Omega.{arith}
use lib.ListN.{length, get_or, replicate, length-replicate, get_or-replicate, get_or-eq_default}
use lib.Dec.{eqb}
use borrow.Author.Tests.{eq-eqb}
use Rattle.laws.proofs.Cases.{by_bool, by_lt}
use Rattle.laws.specs.Lists.{from}
use Rattle.laws.specs.Fold.{run}
use Rattle.entity.specs.Limits.{reg_limit, slot_limit, unit_limit, value_limit}
use Rattle.rules.specs.Sheet.{Sheet, reg_count, units_of}
use Rattle.rules.specs.Record.{Record, Known, nothing, absent, write_unit, with_known, begins}
use Rattle.rules.specs.Forward.{write_held, take_in}
use Rattle.record.specs.Layout.{defined_at, held_at, noted_reg_at, noted_value_at, record_length, spilled_at, stored_at, unit_reg_at, unit_value_at}
use Rattle.record.specs.Flat.{section, record_in}
use Rattle.record.proofs.Parts.{length-section}
use Rattle.states.specs.Layout.{known_size, state_at}
use Rattle.states.specs.States.{fits, known_at, is_set, state_in}
use Rattle.states.proofs.Spans.{Span, section_same, section_is, section_at, section_filled, run_from}
use Rattle.states.proofs.Cells.{fits_room}

-- ---- what the two loops leave of the record

module _ (rec rec' : List ℕ) (long : record_length ≤ length rec) where
  same_behind : (f : ℕ → ℕ) (at n p k : ℕ) → Span at f rec n rec' → at + n ≤ p → p + k ≤ record_length → section rec' p k ≡ section rec p k
  same_behind f at n p k s h l = section_same rec rec' p k s.long (omega arith) (λ j u. s.behind (p + j) (omega arith))

  pub begun_empty : Span 0 (λ j. absent) rec defined_at rec' → record_in rec' ≡ begins nothing (record_in rec)
  unfolding record_in nothing
  begun_empty s =
      let m : length rec' ≡ length rec = s.long in
      let e : (at k : ℕ) → at + k ≤ defined_at → section rec' at k ≡ replicate k absent
      = λ at k h. section_filled rec' at k absent (omega arith) (λ j u. ap (λ (i : ℕ). get_or rec' i 0) (omega arith) ∙ s.done (at + j) (omega arith)) in
      rw (
        e unit_reg_at unit_limit (omega arith),
        e unit_value_at unit_limit (omega arith),
        e held_at reg_limit (omega arith),
        e stored_at slot_limit (omega arith),
        same_behind (λ j. absent) 0 defined_at defined_at value_limit s (omega arith) (omega arith),
        same_behind (λ j. absent) 0 defined_at spilled_at value_limit s (omega arith) (omega arith),
        same_behind (λ j. absent) 0 defined_at noted_reg_at unit_limit s (omega arith) (omega arith),
        same_behind (λ j. absent) 0 defined_at noted_value_at unit_limit s (omega arith) (omega arith),
      )

  pub taken : (states : List ℕ) (b : ℕ) → fits states b ≡ true → Span held_at (λ j. get_or states (state_at b + j) 0) rec known_size rec'
      → record_in rec' ≡ with_known (known_at states (state_at b)) (record_in rec)
  unfolding record_in
  taken states b h s =
      let room : state_at (b + 1) ≤ length states = fits_room states b h in
      let f : ℕ → ℕ = λ j. get_or states (state_at b + j) 0 in
      let m : length rec' ≡ length rec = s.long in
      let e : section rec' held_at reg_limit ≡ section states (state_at b) reg_limit =
      section_is rec' held_at reg_limit (omega arith) (section states (state_at b) reg_limit) (length-section states (state_at b) reg_limit (omega arith))
      (λ j u. s.done j (omega arith) ∙ sym (section_at states (state_at b) reg_limit (omega arith) j u)) in
      let g : section rec' stored_at slot_limit ≡ section states (state_at b + reg_limit) slot_limit =
      section_is rec' stored_at slot_limit (omega arith) (section states (state_at b + reg_limit) slot_limit) (length-section states (state_at b + reg_limit) slot_limit (omega arith))
      (λ j u.
      ap (λ (i : ℕ). get_or rec' i 0) (omega arith) ∙ s.done (reg_limit + j) (omega arith)
      ∙ sym (section_at states (state_at b + reg_limit) slot_limit (omega arith) j u ∙ ap (λ (i : ℕ). get_or states i 0) (omega arith))) in
      let x : section rec' unit_reg_at unit_limit ≡ section rec unit_reg_at unit_limit = section_same rec rec' unit_reg_at unit_limit s.long (omega arith) (λ j u. s.before (unit_reg_at + j) (omega arith)) in
      let y : section rec' unit_value_at unit_limit ≡ section rec unit_value_at unit_limit = section_same rec rec' unit_value_at unit_limit s.long (omega arith) (λ j u. s.before (unit_value_at + j) (omega arith)) in
      rw (
        x,
        y,
        e,
        g,
        same_behind f held_at known_size defined_at value_limit s (omega arith) (omega arith),
        same_behind f held_at known_size spilled_at value_limit s (omega arith) (omega arith),
        same_behind f held_at known_size noted_reg_at unit_limit s (omega arith) (omega arith),
        same_behind f held_at known_size noted_value_at unit_limit s (omega arith) (omega arith),
      )

-- ---- what is held is its units' last write

module _ (sh : Sheet) (h : List ℕ) (s : Record) (r : ℕ) where
  write_no : eqb (get_or h r absent) absent ≡ true → write_held sh h s r ≡ s
  unfolding write_held
  write_no e = ap (λ (t : Bool). cond t s (run (write_unit r (get_or h r absent)) s (units_of sh r))) e

  write_yes : eqb (get_or h r absent) absent ≡ false → write_held sh h s r ≡ run (write_unit r (get_or h r absent)) s (units_of sh r)
  unfolding write_held
  write_yes e = ap (λ (t : Bool). cond t s (run (write_unit r (get_or h r absent)) s (units_of sh r))) e

-- last writes leave what is held
held_kept : (r v : ℕ) (s : Record) (l : List ℕ) → (run (write_unit r v) s l).known.held ≡ s.known.held
unfolding run
held_kept r v s [] = refl
held_kept r v s (u ∷ l) = held_kept r v (write_unit r v s u) l

step_kept : (sh : Sheet) (h : List ℕ) (s : Record) (r : ℕ) → (write_held sh h s r).known.held ≡ s.known.held
step_kept sh h s r =
    by_bool (eqb (get_or h r absent) absent) (λ e. ap (λ (x : Record). x.known.held) (write_no sh h s r e))
    (λ e. ap (λ (x : Record). x.known.held) (write_yes sh h s r e) ∙ held_kept r (get_or h r absent) s (units_of sh r))

all_kept : (sh : Sheet) (h : List ℕ) (s : Record) (l : List ℕ) → (run (write_held sh h) s l).known.held ≡ s.known.held
unfolding run
all_kept sh h s [] = refl
all_kept sh h s (r ∷ l) = all_kept sh h (write_held sh h s r) l ∙ step_kept sh h s r

pub writes_next : (sh : Sheet) (s₀ s s' : Record) (r : ℕ) → s ≡ run (write_held sh s₀.known.held) s₀ (from 0 r) → s' ≡ write_held sh s.known.held s r
    → s' ≡ run (write_held sh s₀.known.held) s₀ (from 0 (r + 1))
writes_next sh s₀ s s' r p q =
    let f = write_held sh s₀.known.held in
    let same : s.known.held ≡ s₀.known.held = ap (λ (x : Record). x.known.held) p ∙ all_kept sh s₀.known.held s₀ (from 0 r) in
    q ∙ ap₂ (λ (h : List ℕ) (x : Record). write_held sh h x r) same p ∙ sym (run_from f s₀ r)

-- with nothing known nothing is written
none_held : (r : ℕ) → get_or nothing.held r absent ≡ absent
unfolding nothing
none_held r =
    by_lt r reg_limit (λ h. get_or-replicate {A = ℕ} reg_limit r absent absent h)
    (λ h. get_or-eq_default (replicate reg_limit absent) absent {n = r} (let m : length (replicate reg_limit absent) ≡ reg_limit = length-replicate reg_limit absent in omega arith))

idle : (sh : Sheet) (s : Record) (l : List ℕ) → run (write_held sh nothing.held) s l ≡ s
unfolding run
idle sh s [] = refl
idle sh s (r ∷ l) =
    ap (λ (x : Record). run (write_held sh nothing.held) x l) (write_no sh nothing.held s r (eq-eqb (get_or nothing.held r absent) absent (none_held r))) ∙ idle sh s l

pub nothing_taken : (sh : Sheet) (s : Record) {x : Record} → x ≡ begins nothing s → x ≡ take_in sh nothing s
unfolding take_in
nothing_taken sh s p = p ∙ sym (idle sh (begins nothing s) (from 0 (reg_count sh)))

module _ (states : List ℕ) (n : ℕ) where
  begun_set : is_set states n ≡ true → Option.get_or (state_in states n) nothing ≡ known_at states (state_at n)
  unfolding state_in
  begun_set e = ap (λ (z : Bool). Option.get_or (cond z (some (known_at states (state_at n))) none) nothing) e

  begun_unset : is_set states n ≡ false → Option.get_or (state_in states n) nothing ≡ nothing
  unfolding state_in
  begun_unset e = ap (λ (z : Bool). Option.get_or (cond z (some (known_at states (state_at n))) none) nothing) e

module _ (sh : Sheet) (s x : Record) (states : List ℕ) (n : ℕ) where
  pub takes_nothing : is_set states n ≡ false → x ≡ begins nothing s → x ≡ take_in sh (Option.get_or (state_in states n) nothing) s
  takes_nothing e p = nothing_taken sh s p ∙ ap (λ (k : Known). take_in sh k s) (sym (begun_unset states n e))

  pub takes : (y z : Record) → is_set states n ≡ true → x ≡ begins nothing s → y ≡ with_known (known_at states (state_at n)) x
      → z ≡ run (write_held sh y.known.held) y (from 0 (reg_count sh)) → z ≡ take_in sh (Option.get_or (state_in states n) nothing) s
  unfolding take_in
  takes y z e p q r =
      let is : y ≡ begins (known_at states (state_at n)) s = q ∙ ap (with_known (known_at states (state_at n))) p in
      r ∙ ap (λ (x : Record). run (write_held sh x.known.held) x (from 0 (reg_count sh))) is ∙ ap (λ (k : Known). take_in sh k s) (sym (begun_set states n e))
