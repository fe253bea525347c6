-- `sheet::fields::packed` meets its contract. The invariant: what is left from k on, packed, times m and w are all, packed; m is 256 ^ k, and w is below it.
-- Assumes nothing.
use borrow.Author.Tests.{le-ltb, lt-ltb}
use mathlib.Core.Path.{refl, sym, ◌∙◌, ap}
use Prim.Native.Nat.{◌<◌, ◌-◌}
use native.Mathlib.Nat.{pow-le-pow_right}
use native.Mathlib.Omega.{arith}
use lib.ListN.{length, get_or, drop}
use lib.Dec.{ltb}
use Rattle.sheet.specs.Packing.{pack}
use Rattle.sheet.proofs.Pieces.{lead_more, lead_stop, lead_done}
use Rattle.sheet.proofs.Packing.{pack_more, pack_room, pack_grown}
use Rattle.sheet.proofs.fields.packed.Goals as goal

pub loop-k-init : goal.loop-k-init
unfolding pack
loop-k-init c = (omega arith, omega arith, refl, omega arith)

pub overflow_add-result : goal.overflow_add-result
unfolding pack
overflow_add-result c = let room = pack_room c.loop-k.k c.loop-k.m c.loop-k.w 0 (omega arith) c.loop-k.invariant.2 c.loop-k.invariant.3 (omega arith) in omega (arith, room)

pub returns-then-b-le44 : goal.returns-then-b-le44
unfolding pack
returns-then-b-le44 c = let t = c.args.t.now in let e = lead_stop (ltb 44) (7 - c.loop-k.k) t c.loop-k.k (le-ltb 44 (get_or t c.loop-k.k 0) (omega arith)) in (sym (c.loop-k.invariant.0 ∙ rw e (omega arith)), omega (arith, ap length e))

pub overflow_cast-w : goal.overflow_cast-w
unfolding pack
overflow_cast-w c = let byte : c.read-b.result < 256 = omega (arith, c.type_inv.t c.loop-k.k) in omega (arith, byte)

pub overflow_mul-w : goal.overflow_mul-w
unfolding pack
overflow_mul-w c = let byte : c.read-b.result < 256 = omega (arith, c.type_inv.t c.loop-k.k) in let room = pack_room c.loop-k.k c.loop-k.m c.loop-k.w c.read-b.result (omega arith) c.loop-k.invariant.2 c.loop-k.invariant.3 byte in omega (arith, room)

pub overflow_add-w : goal.overflow_add-w
unfolding pack
overflow_add-w c = let byte : c.read-b.result < 256 = omega (arith, c.type_inv.t c.loop-k.k) in let room = pack_room c.loop-k.k c.loop-k.m c.loop-k.w c.read-b.result (omega arith) c.loop-k.invariant.2 c.loop-k.invariant.3 byte in omega (arith, room)

pub overflow_mul-m : goal.overflow_mul-m
unfolding pack
overflow_mul-m c = let byte : c.read-b.result < 256 = omega (arith, c.type_inv.t c.loop-k.k) in let room = pack_room c.loop-k.k c.loop-k.m c.loop-k.w c.read-b.result (omega arith) c.loop-k.invariant.2 c.loop-k.invariant.3 byte in omega (arith, room)

pub loop-k-preserved : goal.loop-k-preserved
unfolding pack
loop-k-preserved c = let byte : c.read-b.result < 256 = omega (arith, c.type_inv.t c.loop-k.k) in let t = c.args.t.now in
    let r = c.read-b.ensures in
    let e = lead_more (ltb 44) 7 t c.loop-k.k refl (omega arith) (lt-ltb 44 (get_or t c.loop-k.k 0) (omega arith)) in
    let g = pack_grown c.loop-k.k c.loop-k.m c.loop-k.w c.read-b.result (omega arith) c.loop-k.invariant.2 c.loop-k.invariant.3 byte in
    (c.loop-k.invariant.0 ∙ rw (e, r) (pack_more _ _ _ _), omega (arith, ap length e), g.0, g.1)

pub overflow_add-result-2 : goal.overflow_add-result-2
unfolding pack
overflow_add-result-2 c = omega (arith, pow-le-pow_right {n = 256} (omega arith) {i = c.loop-k.k} {j = 7} (omega arith))

pub returns : goal.returns
unfolding pack
returns c = let e = lead_done (ltb 44) 7 (drop c.loop-k.k c.args.t.now) c.loop-k.k (omega arith) in (sym (c.loop-k.invariant.0 ∙ rw e (omega arith)), omega (arith, ap length e))
