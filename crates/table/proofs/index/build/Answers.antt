use Rattle.table.proofs.Building.{builds}
use Rattle.table.proofs.index.build.Goals as goal

pub returns : goal.returns
returns c = builds _ _ _ _ _ _ _ _ c.fill_insts.ensures c.fill.ensures c.fill-2.ensures c.fill-3.ensures c.fill-4.ensures c.fill-5.ensures c.fill-6.ensures
