-- Where the mark is 0, and past the end, nothing is touched.
use mathlib.Core.Path.{sym, ap}
use lib.ListN.{set}
use lib.Seq.{set_out}
use borrow.Author.Tests.{ne_eqb}
use Rattle.marks.specs.Marks.{none_record, struck_at}
use Rattle.marks.proofs.strike.Goals as goal

pub returns-then-n-list : goal.returns-then-n-list
unfolding struck_at
returns-then-n-list c = rw (ne_eqb c.args.mark 0 c.if-mark-ne0.true) (ap (set c.args.list.now c.args.n) c.none.ensures)

pub returns-else-n-list : goal.returns-else-n-list
unfolding struck_at
returns-else-n-list c = rw (ne_eqb c.args.mark 0 c.if-mark-ne0.true) (sym (set_out c.args.list.now c.args.n none_record c.if-n-list.false))

pub returns-else-mark-ne0 : goal.returns-else-mark-ne0
unfolding struck_at
returns-else-mark-ne0 c = rw c.if-mark-ne0.false
