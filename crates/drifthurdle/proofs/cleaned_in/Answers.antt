use mathlib.Core.Path.{◌∙◌}
use native.Mathlib.Omega.{arith}
use Rattle.accepted.proofs.Giving.{gives}
use Rattle.drifthurdle.proofs.Loading.{storable}
use Rattle.drifthurdle.proofs.Cleaning.{optimised_written, plain_stands, swept_stands, gives_plain, gives_swept}
use Rattle.drifthurdle.proofs.cleaned_in.Goals as goal

pub returns-then-swept : goal.returns-then-swept
returns-then-swept c = λ g n f h. let a = gives _ n in
    let E = c.load_edits.ensures (storable g a) f in
    let P = c.load_places.ensures h in
    let W = optimised_written g n _ E (omega (arith, c.load_edits.auto.edits)) P (omega (arith, c.load_places.auto.places)) c.optimise.ensures in
    let l = c.optimise.auto.counts in
    gives_swept g n _ c.args.out.now c.fitted.ensures c.if-swept.true
    (swept_stands g n _ W l c.sweep_edits.ensures (c.sweep_edits.auto.counts ∙ l))

pub returns : goal.returns
returns c = λ g n f h. let a = gives _ n in
    let E = c.load_edits.ensures (storable g a) f in
    let P = c.load_places.ensures h in
    let W = optimised_written g n _ E (omega (arith, c.load_edits.auto.edits)) P (omega (arith, c.load_places.auto.places)) c.optimise.ensures in
    let l = c.optimise.auto.counts in
    gives_plain g n _ c.args.out.now c.fitted-2.ensures c.if-swept.false (plain_stands g n _ W l)
