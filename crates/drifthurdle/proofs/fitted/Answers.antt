use Rattle.drifthurdle.proofs.Fitting.{sure}
use Rattle.drifthurdle.proofs.fitted.Goals as goal

pub returns-then-most-out : goal.returns-then-most-out
returns-then-most-out c = λ w x. sure _ x (λ i. (c.type_inv.counts i).fits) c.most.ensures c.if-most-out.true (c.render.ensures w x)
