use mathlib.Core.Bool.{not}
use Rattle.std.proofs.Common.{rules}
use Rattle.rules.specs.Sheet.{is_memory}
use Rattle.table.specs.Sheet.{sheet_in}
use Rattle.holders.proofs.of_all.Goals as goal

pub returns : goal.returns
returns c = c.regs_where.ensures (λ r. not (is_memory (sheet_in c.args.t.now) r)) (λ r b k. search rules)
