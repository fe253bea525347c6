use native.Mathlib.Omega.{arith}
use Rattle.answer.proofs.Laying.{laid_as, laid_then}
use Rattle.answer.proofs.Numbers.{digits_one, digits_two, digits_more}
use Rattle.answer.proofs.text.Writer.+number.Goals as goal

pub returns-then-n-lt10 : goal.returns-then-n-lt10
returns-then-n-lt10 t c = laid_as (digits_one _ _ c.digit.ensures c.if-n-lt10.true) c.text.ensures

pub returns-then-n-lt100 : goal.returns-then-n-lt100
returns-then-n-lt100 t c =
    laid_as (digits_two c.args.n _ _ c.digit-then-n-lt100.ensures c.digit-then-n-lt100-2.ensures (omega arith) (omega arith)) c.text-then-n-lt100.ensures

pub returns-else-n-lt100 : goal.returns-else-n-lt100
returns-else-n-lt100 t c = laid_as (digits_more c.args.n _ c.digit-else-n-lt100.ensures (omega arith)) (laid_then c.number.ensures c.text-else-n-lt100.ensures)
