use Rattle.folding.proofs.Folding.{not_folded, folded}
use Rattle.folding.proofs.fold.Goals as goal

pub returns-in-Some : goal.returns-in-Some
returns-in-Some c = λ g f edits m k w e x. let a = c.args in
    let found = c.fold_to.ensures g f k e in
    folded k a.n.0 x found g c.in-Some.is c.reg.ensures
    c.place_cell.ensures c.store.ensures c.tally.ensures

pub returns-in-None : goal.returns-in-None
returns-in-None c = λ g f edits m k w e x. not_folded k c.args.n.0 x (c.fold_to.ensures g f k e) c.in-None.is
