use mathlib.Core.Path.{sym, ap, ◌∙◌}
use lib.Dec.{ltb}
use Rattle.table.proofs.Sheets.{long_of, blocks_are}
use Rattle.names.proofs.names.block_exists.Goals as goal

pub returns : goal.returns
returns c = ap (ltb _) (c.count.ensures ∙ sym (long_of (blocks_are _)))
