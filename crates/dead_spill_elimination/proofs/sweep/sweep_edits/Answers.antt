use Rattle.std.proofs.Common.{◌≡◌, ◌≤◌, refl, ◌∙◌, arith}
use Rattle.table.specs.Rows.{count_in}
use Rattle.table.proofs.Sheets.{blocks_counted}
use Rattle.dead_spill_elimination.proofs.Whole.{filled_length, filled_at, filled_zeros, blocks_are_few, edits_are_few, edits_counted}
use Rattle.dead_spill_elimination.proofs.sweep.sweep_edits.Goals as goal

pub sweep_in-requires-clause-none : goal.sweep_in-requires-clause-none
sweep_in-requires-clause-none c = λ b. filled_zeros 64 _ b

pub sweep_in-requires-clause-all : goal.sweep_in-requires-clause-all
sweep_in-requires-clause-all c =
    let n = c.min-n.result in
    let m : n ≤ 64 = omega (arith, c.min-n.ensures) in
    let o = filled_length 64 1 n m in
    λ b l e. omega (arith, filled_at 64 1 n b m (omega arith))

pub sweep_in-requires-clause-unmarked : goal.sweep_in-requires-clause-unmarked
sweep_in-requires-clause-unmarked c = λ j. filled_zeros 1024 _ j

pub returns : goal.returns
returns c = λ h.
    let m : c.min-n.result ≤ 64 = omega (arith, c.min-n.ensures) in
    let k : c.min-m.result ≤ 1024 = omega (arith, c.min-m.ensures) in
    let n : c.min-n.result ≡ count_in c.args.t.now 6 = omega (arith, c.min-n.ensures, c.count.ensures, blocks_are_few h) in
    let o : c.min-m.result ≡ count_in c.args.t.now 12 = omega (arith, c.min-m.ensures, c.count-2.ensures, edits_are_few h) in
    c.sweep_in.ensures _ c.touch_all.ensures h (filled_length 64 1 _ m ∙ n ∙ blocks_counted _ refl) (filled_length 1024 0 _ k ∙ o ∙ edits_counted _)
