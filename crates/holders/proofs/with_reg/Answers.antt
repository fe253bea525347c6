use mathlib.Core.Path.{sym, ap, ◌∙◌}
use mathlib.Core.Bool.{not}
use Rattle.holders.proofs.Holding.{with_yes}
use Rattle.holders.proofs.with_reg.Goals as goal

pub returns-else-is_memory : goal.returns-else-is_memory
returns-else-is_memory c = with_yes _ (ap not (sym c.is_memory.ensures ∙ c.if-is_memory.false)) c.insert.ensures
