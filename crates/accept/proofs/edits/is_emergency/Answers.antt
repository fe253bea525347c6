use Rattle.accept.proofs.Pairing.{emergency_row}
use borrow.Author.Tests.{eq-eqb, ne_eqb}
use mathlib.Core.Path.{◌∙◌, ap}
use mathlib.Core.List.{List}
use Prim.Native.Nat.{ℕ}
use lib.ListN.{get_or}
use Rattle.accept.proofs.edits.is_emergency.Goals as goal

pub returns-then-word-eq-ESPILL : goal.returns-then-word-eq-ESPILL
returns-then-word-eq-ESPILL c =
    let e = emergency_row _ _ _ (c.read-word.ensures ∙ ap (λ (l : List ℕ). get_or l 2 0) c.row_of.ensures) in
    eq-eqb _ _ c.if-word-eq-ESPILL.true ∙ rw (eq-eqb _ _ c.if-word-eq-ESPILL.true) at e

pub returns-else-word-eq-ESPILL : goal.returns-else-word-eq-ESPILL
returns-else-word-eq-ESPILL c =
    let e = emergency_row _ _ _ (c.read-word.ensures ∙ ap (λ (l : List ℕ). get_or l 2 0) c.row_of.ensures) in
    rw (ne_eqb _ _ c.if-word-eq-ESPILL.false) at e
