use Rattle.move_optimizer.proofs.Tables.{made_unset, handed_few}
use Rattle.move_optimizer.proofs.levels.walk_in.Goals as goal

pub returns : goal.returns
returns g c = λ o h. c.walk.ensures o (made_unset _ _ (handed_few c.args.level o.ready) h)
