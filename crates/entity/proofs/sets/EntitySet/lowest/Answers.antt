use Rattle.std.proofs.Common.{Option, Some, None, ℕ}
use mathlib.Core.Path.{ap, ◌∙◌}
use Rattle.laws.proofs.First.{first_map}
use Rattle.entity.proofs.sets.EntitySet.lowest.Goals as goal

-- the number found, as one of its kind
abbrev by : {E : Type 0} → (ℕ → E) → Option ℕ → Option E
by numbered (Some k) = Some (numbered k)
by numbered None = None

pub returns-in_err-k : goal.returns-in_err-k
returns-in_err-k g c = c.from_residual.ensures ∙ ap (by g.E.Entity.numbered) c.in_err-k.ensures ∙ first_map (by g.E.Entity.numbered) _ _ _ _ _

pub returns : goal.returns
returns g c = ap Some c.new.ensures ∙ ap (by g.E.Entity.numbered) c.in_ok-k.ensures ∙ first_map (by g.E.Entity.numbered) _ _ _ _ _
