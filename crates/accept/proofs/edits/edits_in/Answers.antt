use Rattle.accept.proofs.Pairing.{block_none, block_some}
use Rattle.accept.proofs.edits.edits_in.Goals as goal

pub returns-then-insts : goal.returns-then-insts
returns-then-insts c = λ g o. block_none g o _ _ c.insts_of-insts.ensures c.if-insts.true

pub returns : goal.returns
returns c = λ g o. block_some g o _ _ c.insts_of-insts.ensures _ _ c.if-insts.false c.edit_rows-first.ensures c.edit_rows-last.ensures
