use Rattle.drifthurdle.proofs.Theorem.{sweep_is_safe_and_exact}
use Rattle.drifthurdle.proofs.sweep_is_safe_and_exact.Goals as goal

pub returns : goal.returns
returns c = sweep_is_safe_and_exact
