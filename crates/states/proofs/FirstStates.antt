-- The first state of a block: `set_nothing`, `handed` and `first_state` of src/handed.rt store `nothing` and `first_state`. Assumes nothing.
use mathlib.Core.Path.{◌≡◌, refl, sym, ap, ◌∙◌}
use mathlib.Core.Bool.{Bool, true, false, cond}
use mathlib.Core.List.{List}
use Prim.Native.Nat.{ℕ, ◌+◌, ◌≤◌}
use native.Mathlib.Omega.{arith}
use lib.ListN.{length, get_or, replicate, length-map}
use Rattle.entity.specs.Limits.{reg_limit, slot_limit}
use Rattle.rules.specs.Sheet.{Sheet}
use Rattle.rules.specs.Record.{nothing, absent}
use Rattle.rules.specs.Forward.{skips, first_state}
use Rattle.record.specs.Layout.{held_at, stored_at, record_length}
use Rattle.record.specs.Flat.{section, record_in}
use Rattle.record.proofs.Parts.{length-section}
use Rattle.states.specs.Layout.{known_size}
use Rattle.states.specs.States.{known_at, handed_in, sole_in}
use Rattle.states.proofs.Spans.{Span, section_at, section_filled, map_at}
use Rattle.states.proofs.Cells.{known_is}

module _ (states states' : List ℕ) (at : ℕ) (fits : at + known_size ≤ length states) where
  pub nothing_known : Span at (λ j. absent) states known_size states' → known_at states' at ≡ nothing
  unfolding nothing
  nothing_known p =
      let m : length states' ≡ length states = p.long in
      let a : section states' at reg_limit ≡ replicate reg_limit absent = section_filled states' at reg_limit absent (omega arith) (λ j h. p.done j (omega arith)) in
      let b : section states' (at + reg_limit) slot_limit ≡ replicate slot_limit absent =
      section_filled states' (at + reg_limit) slot_limit absent (omega arith) (λ j h. ap (λ (i : ℕ). get_or states' i 0) (omega arith) ∙ p.done (reg_limit + j) (omega arith)) in
      rw (a, b)

  module _ (sh : Sheet) (rec : List ℕ) (long : record_length ≤ length rec) where
    is_skip : (sole : Bool) (b v : ℕ) → handed_in (record_in rec) sole b v ≡ cond (skips sh (sole_in sole b) (record_in rec) v) absent v
    unfolding skips
    is_skip true b v = refl
    is_skip false b v = refl

    pub first_known : (sole : Bool) (b : ℕ) → Span at (λ j. handed_in (record_in rec) sole b (get_or rec (held_at + j) 0)) states known_size states'
        → known_at states' at ≡ first_state sh (sole_in sole b) (record_in rec)
    unfolding first_state record_in
    first_known sole b p =
        let m : length states' ≡ length states = p.long in
        let one : length (section rec held_at reg_limit) ≡ reg_limit = length-section rec held_at reg_limit (omega arith) in
        let two : length (section rec stored_at slot_limit) ≡ slot_limit = length-section rec stored_at slot_limit (omega arith) in
        let g : ℕ → ℕ = λ v. cond (skips sh (sole_in sole b) (record_in rec) v) absent v in
        known_is states' at (first_state sh (sole_in sole b) (record_in rec)) (omega arith) (length-map (section rec held_at reg_limit) g ∙ one) (length-map (section rec stored_at slot_limit) g ∙ two)
        (λ j h.
        p.done j (omega arith) ∙ is_skip sole b (get_or rec (held_at + j) 0) ∙ ap g (sym (section_at rec held_at reg_limit (omega arith) j h))
        ∙ sym (map_at g (section rec held_at reg_limit) j (omega arith)))
        (λ j h.
        p.done (reg_limit + j) (omega arith) ∙ is_skip sole b (get_or rec (held_at + (reg_limit + j)) 0)
        ∙ ap g (ap (λ (i : ℕ). get_or rec i 0) (omega arith) ∙ sym (section_at rec stored_at slot_limit (omega arith) j h))
        ∙ sym (map_at g (section rec stored_at slot_limit) j (omega arith)))
