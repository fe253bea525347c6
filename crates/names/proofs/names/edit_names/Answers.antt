use borrow.Author.Rules.{rules}
use Rattle.rules.specs.Accept.{edit_names}
use Rattle.names.proofs.names.edit_names.Goals as goal

pub returns-then-place_exists-2 : goal.returns-then-place_exists-2
unfolding edit_names
returns-then-place_exists-2 c = search rules

pub returns-else-place_exists-2 : goal.returns-else-place_exists-2
unfolding edit_names
returns-else-place_exists-2 c = search rules

pub returns-then-place_exists-3 : goal.returns-then-place_exists-3
unfolding edit_names
returns-then-place_exists-3 c = search rules

pub returns-else-place_exists-3 : goal.returns-else-place_exists-3
unfolding edit_names
returns-else-place_exists-3 c = search rules

pub returns-then-slot_exists : goal.returns-then-slot_exists
unfolding edit_names
returns-then-slot_exists c = search rules

pub returns-else-slot_exists : goal.returns-else-slot_exists
unfolding edit_names
returns-else-slot_exists c = search rules

pub returns-then-reg_exists : goal.returns-then-reg_exists
unfolding edit_names
returns-then-reg_exists c = search rules

pub returns-else-reg_exists : goal.returns-else-reg_exists
unfolding edit_names
returns-else-reg_exists c = search rules

pub returns-then-place_exists-4 : goal.returns-then-place_exists-4
unfolding edit_names
returns-then-place_exists-4 c = search rules

pub returns-else-place_exists-4 : goal.returns-else-place_exists-4
unfolding edit_names
returns-else-place_exists-4 c = search rules

pub returns-in-Nothing : goal.returns-in-Nothing
unfolding edit_names
returns-in-Nothing c = search rules
