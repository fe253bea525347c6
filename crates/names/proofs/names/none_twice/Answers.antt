use borrow.Author.Rules.{rules}
use Rattle.rules.specs.Accept.{none_twice}
use Rattle.names.proofs.Within.{regs_once, classes_once, groups_once, vgroups_once, succs_once, preds_once, clobs_once}
use Rattle.names.proofs.names.none_twice.Goals as goal

pub returns-then-none_twice_in-6 : goal.returns-then-none_twice_in-6
unfolding none_twice
returns-then-none_twice_in-6 c = λ w n.
    let t = c.args.t.now in
    let regs = regs_once t w in
    let classes = classes_once t w n in
    let groups = groups_once t w n in
    let values = vgroups_once t w n in
    let succs = succs_once t w n in
    let preds = preds_once t w n in
    let clobs = clobs_once t w in
    search rules

pub returns-else-none_twice_in-6 : goal.returns-else-none_twice_in-6
unfolding none_twice
returns-else-none_twice_in-6 c = λ w n.
    let t = c.args.t.now in
    let regs = regs_once t w in
    let classes = classes_once t w n in
    let groups = groups_once t w n in
    let values = vgroups_once t w n in
    let succs = succs_once t w n in
    let preds = preds_once t w n in
    search rules
