-- What methods of src/steps.rt make of the record is what their rules in rules/specs/Record.antt say, where the search does not find it. Assumes nothing.
use mathlib.Core.Path.{◌≡◌, refl, sym, ◌∙◌, ap}
use mathlib.Core.Bool.{Bool, true, false, cond, not, ◌&&◌, ◌||◌}
use mathlib.Core.List.{List, map}
use mathlib.Core.Option.{Option, none, some, Option-elim}
use Prim.Native.Nat.{ℕ, ◌<◌, ◌≤◌}
use native.Mathlib.Omega.{arith}
use lib.Dec.{eqb}
use lib.ListN.{length, get_or, set, length-map, get_or-map}
use lib.Seq.{ext_get_or, set-get_or}
use borrow.Rule.Slice.PartMut.{put_mid}
use borrow.Author.Tests.{eqb-true}
use Rattle.laws.specs.Lists.{all}
use Rattle.laws.proofs.Lists.{get_d_any, MapTo}
use Rattle.entity.specs.Limits.{reg_limit}
use Rattle.entity.specs.declared.numbers.SpillSlot.{SpillSlot}
use Rattle.rules.specs.Sheet.{Sheet, units_of, home_of}
use Rattle.rules.specs.Record.{Record, with_known, absent, hold, store, holds, drop_value, empty_home, is_home, add_back}
use Rattle.table.specs.View.{slot_found}
use Rattle.std.specs.Prelude.{Some, None}
use Rattle.std.specs.Prelude as Code
use Rattle.record.specs.Layout.{held_at, record_length}
use Rattle.record.specs.Flat.{section, record_in}
use Rattle.record.proofs.Parts.{length-section}
use Rattle.record.proofs.Sections.{held_stored}

-- ---- no register holds v: the table's entries from `held_at` to `stored_at`, one after the other

mapped : (h : ℕ → ℕ) (l m : List ℕ) (n : ℕ) → MapTo 0 (λ _. h) l n m → length l ≤ n → m ≡ map h l
mapped h l m n p e =
    let k : length m ≡ length l = p.long in
    ext_get_or 0 m (map h l) (k ∙ sym (length-map l h))
    (λ i u.
    let w : i < length (map h l) = rw (length-map l h) (omega arith) in
    p.done i (omega arith) ∙ sym (get_or-map h l i 0) ∙ get_d_any (map h l) i (h 0) 0 w)

pub dropped : (v : ℕ) (a m : List ℕ) (n : ℕ) → MapTo 0 (λ _ x. cond (eqb x v) absent x) (section a held_at reg_limit) n m → length (section a held_at reg_limit) ≤ n → record_length ≤ length a
    → record_in (put_mid held_at reg_limit a m) ≡ drop_value v (record_in a)
unfolding drop_value record_in
dropped v a m n p e l =
    let h : ℕ → ℕ = λ x. cond (eqb x v) absent x in
    held_stored a m l (p.long ∙ length-section a held_at reg_limit (omega arith)) ∙ ap (λ (x : List ℕ). with_known (record { held = x; stored = (record_in a).known.stored }) (record_in a)) (mapped h (section a held_at reg_limit) m n p e)

-- ---- home slots

found_at : (o : Option ℕ) (h : SpillSlot) → slot_found o ≡ Some h → o ≡ some h.0
unfolding slot_found
found_at none h e = cc
found_at (some s) h e = let q : record { 0 = s } ≡ h = cc in ap (λ (x : SpillSlot). some x.0) q

found_none : (o : Option ℕ) → slot_found o ≡ None → o ≡ none
unfolding slot_found
found_none none e = refl
found_none (some s) e = cc

module _ (sh : Sheet) (v : ℕ) {f : Code.Option SpillSlot} (e : f ≡ slot_found (home_of sh v)) where
  home_at : {h : SpillSlot} → f ≡ Some h → home_of sh v ≡ some h.0
  home_at {h} q = found_at (home_of sh v) h (sym e ∙ q)

  home_none : f ≡ None → home_of sh v ≡ none
  home_none q = found_none (home_of sh v) (sym e ∙ q)

  pub emptied : (s : Record) {x : Record} {h : SpillSlot} → f ≡ Some h → x ≡ store h.0 absent s → x ≡ empty_home sh v s
  unfolding empty_home Option-elim
  emptied s q p = rw (home_at q) p

  pub not_emptied : (s : Record) → f ≡ None → s ≡ empty_home sh v s
  unfolding empty_home Option-elim
  not_emptied s q = rw (home_none q)

  pub home_is : {h : SpillSlot} (s : ℕ) → f ≡ Some h → eqb h.0 s ≡ is_home sh v s
  unfolding is_home Option-elim
  home_is s q = rw (home_at q)

  pub no_home_lem : (s : ℕ) → f ≡ None → false ≡ is_home sh v s
  unfolding is_home Option-elim
  no_home_lem s q = rw (home_none q)

-- ---- emergency reloads

cond_same : {x y : Record} (b : Bool) → x ≡ y → y ≡ cond b x y
cond_same true p = sym p
cond_same false p = refl

-- where the register holds the value already, it is added or not to the same effect
pub held_already : (sh : Sheet) (s : Record) (u : ℕ) {r v : ℕ} {t : Bool} → r ≡ get_or s.notes.reg u absent → v ≡ get_or s.notes.value u absent → t ≡ holds s r v → t ≡ true → s ≡ add_back sh s u
unfolding add_back holds
held_already sh s u {r} {v} e f q k =
    let z : get_or s.known.held r absent ≡ v = eqb-true (get_or s.known.held r absent) v (sym q ∙ k) in
    let same : hold r v s ≡ s = ap (λ (h : List ℕ). with_known (record { held = h; stored = s.known.stored }) s) (ap (set s.known.held r) (sym z) ∙ set-get_or s.known.held r absent) in
    rw (← e, ← f) (cond_same (not (eqb r absent) && (eqb (length (units_of sh r)) 1 || all (λ w. eqb (get_or s.writes.value w absent) v) (units_of sh r))) same)
