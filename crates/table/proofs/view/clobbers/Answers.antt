use Rattle.table.proofs.Lookups.{clobbers_by}
use Rattle.table.proofs.view.clobbers.Goals as goal

pub returns : goal.returns
returns c = clobbers_by _ _ _ _ c.clob_rows.ensures c.list.ensures
