use Rattle.std.proofs.Common.{refl, ◌≡◌, ◌+◌, ◌-◌, ◌<◌, length, arith}
use Rattle.dead_spill_elimination.proofs.Settling.{good_turn, less_turn, inv_turn, inv_first, inv_last}
use Rattle.dead_spill_elimination.proofs.ends.settle.Goals as goal

pub loop-b-init : goal.loop-b-init
loop-b-init c = let p = c.requires in (record { live_len = p.many; wait_len = refl; words = λ b. omega (arith, p.none b) }, λ f h. inv_first _ _ _ _ f _ _ p.none p.all)

pub loop-b-smaller : goal.loop-b-smaller
loop-b-smaller c =
    let l = c.loop-b.invariant in
    let b = c.in-Some.b in
    let m : b < length c.args.wait.now = omega (arith, c.in-Some.ensures.within, l.0.wait_len) in
    let e : b + 1 - 1 ≡ b = omega arith in
    less_turn _ _ _ _ _ _ l.0 _ m _ c.turn.ensures (rw e at (c.in-Some.ensures.waits (omega arith)))

pub loop-b-preserved : goal.loop-b-preserved
loop-b-preserved c =
    let l = c.loop-b.invariant in
    let m : c.in-Some.b < length c.args.wait.now = omega (arith, c.in-Some.ensures.within, l.0.wait_len) in
    (good_turn _ _ _ _ _ _ l.0 _ m _ c.turn.ensures, λ f h. inv_turn _ _ _ _ _ _ l.0 _ m _ c.turn.ensures f h (l.1 f h))

pub returns : goal.returns
returns c = let l = c.loop-b.invariant in λ f h. inv_last _ _ _ _ f h _ _ (l.1 f h) (λ b m. c.in_default.ensures.above b (omega arith) (omega (arith, l.0.wait_len)))
