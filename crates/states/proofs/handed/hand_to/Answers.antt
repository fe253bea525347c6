use mathlib.Core.Path.{refl, sym, ◌∙◌}
use Rattle.table.proofs.Loops.{never}
use Rattle.record.specs.Flat.{record_of}
use Rattle.states.proofs.HandingOn.{hand_met, hand_first}
use Rattle.states.proofs.handed.hand_to.Goals as goal

pub returns-then-meet : goal.returns-then-meet
returns-then-meet c = λ sh n a h below first lies. hand_met sh n a _ (record_of c.args.rec.now) _ _ _ _ h below lies _ (sym c.is_set.ensures ∙ c.if-is_set.true) (c.meet.ensures sh) (λ _. c.insert.ensures) (λ f. never (sym f ∙ c.if-meet.true))

pub returns-then-is_set : goal.returns-then-is_set
returns-then-is_set c = λ sh n a h below first lies. hand_met sh n a _ (record_of c.args.rec.now) _ _ _ _ h below lies _ (sym c.is_set.ensures ∙ c.if-is_set.true) (c.meet.ensures sh) (λ y. never (sym c.if-meet.false ∙ y)) (λ _. refl)

pub returns : goal.returns
returns c = λ sh n a h below first lies. hand_first sh n a _ (record_of c.args.rec.now) _ _ _ _ h below lies c.args.sole (sym c.is_set.ensures ∙ c.if-is_set.false) (c.first_state.ensures sh) first c.insert-2.ensures
