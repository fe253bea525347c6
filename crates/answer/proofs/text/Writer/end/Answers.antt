use Rattle.rules.specs.Text.{bytes}
use Rattle.answer.proofs.text.Writer.end.Goals as goal

pub returns : goal.returns
unfolding bytes
returns c = c.text.ensures
