use Rattle.marks.proofs.Marking.{laid_out}
use Rattle.marks.proofs.mark_page.Goals as goal

pub returns : goal.returns
returns c = laid_out _ _ _ _ c.requires.1 c.listed-list.ensures c.marked-struck.ensures c.lay_out.ensures
