use Rattle.accept.proofs.Heads.{Loaded}
use Rattle.accept.proofs.constraints.load_heads.Given as goal

abbrev pub invariant-loop-g : goal.invariant-loop-g
invariant-loop-g l = Loaded l.t l.initial.heads l.g-end l.heads l.g
