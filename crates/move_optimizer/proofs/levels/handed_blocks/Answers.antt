use mathlib.Core.Path.{◌∙◌}
use Rattle.table.specs.Sheet.{sheet_in}
use Rattle.table.proofs.Sheets.{blocks_counted}
use Rattle.move_optimizer.proofs.Tables.{none_handed, all_handed}
use Rattle.move_optimizer.proofs.levels.handed_blocks.Goals as goal

pub returns-in-Off : goal.returns-in-Off
returns-in-Off c = none_handed (sheet_in c.args.t.now) c.in-Off.is

pub returns-in-Forward : goal.returns-in-Forward
returns-in-Forward c = let t = c.args.t.now in blocks_counted t c.count.ensures ∙ all_handed (sheet_in t) c.in-Forward.is
