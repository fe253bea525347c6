use Rattle.accept.proofs.Pairing.{home_none, home_some}
use Rattle.accept.proofs.edits.with_home.Goals as goal

pub returns-in_default : goal.returns-in_default
returns-in_default c = home_none _ _ c.home.ensures c.in_default.is

pub returns : goal.returns
returns c = home_some _ _ c.home.ensures _ _ c.in-Some.is c.insert.ensures
