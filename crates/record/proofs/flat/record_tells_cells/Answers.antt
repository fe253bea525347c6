use Rattle.record.proofs.Whole.{same_cells}
use Rattle.record.proofs.flat.record_tells_cells.Goals as goal

pub returns : goal.returns
returns c = same_cells
