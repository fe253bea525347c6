-- `sheet::lexing::rows` meets its contract. The invariant is `Reading`: the rows that are whole, the cells of the row at hand, and that the
-- rest of the sheet gives the same answer; two bytes at least were read for each cell and three for each row, so there is room.
use mathlib.Core.Path.{sym, ◌∙◌, ap}
use native.Mathlib.Omega.{arith}
use Prim.Native.Nat.{◌-◌}
use lib.ListN.{length, set, length-set}
use Rattle.table.specs.Layout.{cells_at}
use Rattle.std.specs.declared.option.Option.TheVariants.{Some}
use Rattle.sheet.proofs.Reading.{MoreTurn, LastTurn, some_room, start, more_turn, last_turn, at_break, at_unread, answer_broken, answer_whole}
use Rattle.sheet.proofs.lexing.rows.Goals as goal

on_more : (c : goal.In-More) → MoreTurn c.args.s.now (set c.args.t.now (length c.args.t.now - 1) cells_at) c.loop-at.t c.loop-at.at c.loop-at.n c.loop-at.k c.in-More.c c.in-More.e
on_more c = more_turn c.loop-at.invariant _ _ (omega arith) (sym c.field.ensures ∙ c.in_ok-c.was ∙ ap Some c.in-More.is)

on_last : (c : goal.In-Last) → LastTurn c.args.s.now (set c.args.t.now (length c.args.t.now - 1) cells_at) c.loop-at.t c.loop-at.at c.loop-at.n c.loop-at.k c.in-Last.c c.in-Last.e
on_last c = last_turn c.loop-at.invariant _ _ (omega arith) (sym c.field.ensures ∙ c.in_ok-c.was ∙ ap Some c.in-Last.is)

pub overflow_sub-last : goal.overflow_sub-last
overflow_sub-last c = some_room c.args.s.now c.args.t.now c.requires.room c.requires.short

pub bounds-t-last : goal.bounds-t-last
bounds-t-last c = omega (arith, some_room c.args.s.now c.args.t.now c.requires.room c.requires.short)

pub loop-at-init : goal.loop-at-init
loop-at-init c = start _ _ c.requires.room c.requires.short

pub returns-in_err-c : goal.returns-in_err-c
returns-in_err-c c =
    let answer = answer_broken c.args.s.now c.loop-at.t (at_unread c.loop-at.invariant c.loop-at-test.true (sym c.field.ensures ∙ c.in_err-c.was)) in record { value = c.from_residual.ensures ∙ answer.0; holds = answer.1 }

pub bounds-t-n : goal.bounds-t-n
bounds-t-n c = omega (arith, on_more c)

pub overflow_add-at : goal.overflow_add-at
overflow_add-at c = omega (arith, on_more c)

pub loop-at-smaller-in-More : goal.loop-at-smaller-in-More
loop-at-smaller-in-More c = omega (arith, on_more c)

pub loop-at-preserved-in-More : goal.loop-at-preserved-in-More
loop-at-preserved-in-More c = (on_more c).3

pub bounds-t-n-in-Last : goal.bounds-t-n-in-Last
bounds-t-n-in-Last c = omega (arith, on_last c)

pub overflow_sub-t : goal.overflow_sub-t
overflow_sub-t c = omega (arith, on_last c, c.loop-at.invariant.long, length-set c.args.t.now)

pub bounds-t-last-in-Last : goal.bounds-t-last-in-Last
bounds-t-last-in-Last c = omega (arith, on_last c, c.loop-at.invariant.long, length-set c.args.t.now, length-set c.loop-at.t)

pub overflow_add-at-in-Last : goal.overflow_add-at-in-Last
overflow_add-at-in-Last c = omega (arith, on_last c)

pub loop-at-smaller : goal.loop-at-smaller
loop-at-smaller c = omega (arith, on_last c)

pub loop-at-preserved : goal.loop-at-preserved
loop-at-preserved c = (on_last c).3 _ (omega (arith, c.loop-at.invariant.long, length-set c.args.t.now))

pub returns-then-open : goal.returns-then-open
returns-then-open c = let answer = answer_broken c.args.s.now c.loop-at.t (at_break c.loop-at.invariant c.loop-at-test.false c.if-open.true) in record { value = answer.0; holds = answer.1 }

pub returns : goal.returns
returns c = let answer = answer_whole c.loop-at.invariant c.loop-at-test.false c.if-open.false in record { value = answer.0; holds = answer.1 }
