use mathlib.Core.Path.{◌∙◌, ap}
use mathlib.Core.List.{flat_map}
use Rattle.rules.specs.Accept.{operands_at}
use Rattle.rules.specs.Forward.{with_rec, early_defs, other_defs, define_all, clobber, optimise_inst}
use Rattle.table.specs.Sheet.{sheet_in}
use Rattle.definitions.specs.Definitions.{taken}
use Rattle.moves.proofs.Walks.{walked_with}
use Rattle.folding.proofs.Instructions.{early_told}
use Rattle.folding.proofs.optimise_inst.Goals as goal

pub returns : goal.returns
unfolding optimise_inst taken
returns c = λ g f edits n w x. let a = c.args in
    let sh = sheet_in a.t.now in
    let os = operands_at sh a.i.0 in
    let rows = c.op_rows-rows.ensures in
    let all = c.tell-x.ensures in
    let first = define_all sh a.b.0 (flat_map (early_defs sh) os) in
    let others = define_all sh a.b.0 (flat_map (other_defs sh) os) in
    walked_with (λ s. clobber sh a.i.0 (others s)) (c.clobber.ensures g ∙ ap (clobber sh a.i.0) (c.define_all.ensures g))
    (c.fold_all.ensures g f a.i.0 rows all edits n (with_rec first w)
    (walked_with first (c.define_early.ensures g (early_told g a.i.0 rows all)) x))
