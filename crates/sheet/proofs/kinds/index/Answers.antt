use mathlib.Core.Path.{sym, ◌∙◌}
use Prim.Native.Nat.{◌≤◌, ◌<◌, ◌+◌}
use Rattle.rules.specs.Words.{slots_word}
use Rattle.rules.specs.Rows.{kind}
use Rattle.table.specs.Rows.{row_in}
use Rattle.sheet.proofs.Beginnings.{row_more, kind_more, all_kinds, is_before, not_before}
use native.Mathlib.Omega.{arith}
use Rattle.sheet.proofs.kinds.index.Goals as goal

pub loop-i-preserved : goal.loop-i-preserved
loop-i-preserved c =
    let here : (c.loop-i.i < c.args.n) × (kind (row_in c.loop-k.t c.loop-i.i) < slots_word + c.loop-k.k) = is_before _ _ _ _ (sym c.earlier.ensures ∙ c.loop-i-test.true) in
    (omega arith, λ rs h e up. row_more (c.loop-i.invariant.1 rs h e up) (omega arith) here.1)

pub loop-k-preserved : goal.loop-k-preserved
loop-k-preserved c =
    let not_here : c.loop-i.i < c.args.n → slots_word + c.loop-k.k ≤ kind (row_in c.loop-k.t c.loop-i.i) = not_before _ _ _ _ (sym c.earlier.ensures ∙ c.loop-i-test.false) in
    (omega arith, λ rs h e up. kind_more (c.loop-i.invariant.1 rs h e up) up (omega arith) (omega arith) (omega arith) (λ u. not_here (omega arith)))

pub returns : goal.returns
returns c = λ rs h e up. all_kinds (c.loop-k.invariant.1 rs h e up) up (omega arith)
