use native.Mathlib.Omega.{arith}
use Rattle.accepted.proofs.Giving.{gives}
use Rattle.drifthurdle.proofs.Loading.{edits_fit, places_fit}
use Rattle.drifthurdle.proofs.cleaned.Goals as goal

pub returns-then-count-le64-2 : goal.returns-then-count-le64-2
returns-then-count-le64-2 c = λ g n. c.cleaned_by.ensures g n (omega (arith, c.count.ensures, c.if-count-le64.true)) (omega (arith, c.count-then-count-le64.ensures, c.if-count-le64-2.true))

pub returns : goal.returns
returns c = λ g n. let a = gives _ n in c.cleaned_by-2.ensures g n (omega (arith, edits_fit g a)) (omega (arith, places_fit g a))
