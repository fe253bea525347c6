use Rattle.drifthurdle.proofs.Refusing.{limits_refuse, limits_pass, no_limits, tabled}
use Rattle.drifthurdle.proofs.check.Goals as goal

pub returns-then-not-within_limits : goal.returns-then-not-within_limits
returns-then-not-within_limits c = λ rs x ok. (limits_refuse x c.within_limits.ensures c.if-not-within_limits.true, no_limits x c.within_limits.ensures c.if-not-within_limits.true)

pub returns : goal.returns
returns c = λ rs x ok. let l = limits_pass x c.within_limits.ensures c.if-not-within_limits.false in let b = c.build.ensures rs x l in (c.check_ready.ensures rs b.0 ok l b.1, tabled b.0 ok l b.1)
