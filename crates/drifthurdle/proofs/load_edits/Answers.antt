use mathlib.Core.Path.{◌≡◌}
use Prim.Native.Nat.{◌<◌}
use native.Mathlib.Omega.{arith}
use Rattle.table.specs.Rows.{count_in}
use Rattle.drifthurdle.proofs.Loading.{edits_next}
use Rattle.drifthurdle.proofs.load_edits.Goals as goal

pub loop-n-init : goal.loop-n-init
loop-n-init c = λ s r. record { exact = λ j h. absurd (omega arith); are = λ j h. absurd (omega arith) }

pub loop-n-preserved : goal.loop-n-preserved
loop-n-preserved c = λ s r. let h : c.loop-n.n < count_in c.args.t.now 12 = omega arith in
    edits_next (omega arith) (s c.loop-n.n h) c.sheet_edit.ensures c.store_edit.ensures (c.loop-n.invariant s r)

pub returns : goal.returns
returns c = λ s r. let e : c.loop-n.n ≡ count_in c.args.t.now 12 = omega arith in rw e at (c.loop-n.invariant s r)
