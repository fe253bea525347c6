use Rattle.bits.proofs.Members.{has_set_of, only_set}
use Rattle.bits.proofs.sets.sets_by_members.Goals as goal

pub returns : goal.returns
returns c = record { members = has_set_of; only_set = only_set }
