use Rattle.graph.proofs.+dominates.Given as goal

abbrev pub decreases-dominates : goal.decreases-dominates
decreases-dominates l = l.b.0
