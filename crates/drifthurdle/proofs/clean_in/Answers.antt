use mathlib.Core.Path.{◌≡◌, ◌∙◌}
use Rattle.std.proofs.Common.{rules, Err}
use Rattle.drifthurdle.proofs.Refusing.{check_refused, check_accepted}
use Rattle.drifthurdle.proofs.clean_in.Goals as goal

pub returns-in_err-read_and_check : goal.returns-in_err-read_and_check
returns-in_err-read_and_check c = λ h. let r = check_refused _ _ _ (c.read_and_check.ensures h).0 _ c.in_err-read_and_check.was in
    let e : c.from_residual.result ≡ Err c.in_err-read_and_check.field-0.0 = search rules in
    (e ∙ r.0, r.1)

pub returns : goal.returns
returns c = λ h. let k = c.read_and_check.ensures h in check_accepted _ _ _ k.0 c.args.out.now c.in_ok-read_and_check.was k.1 c.cleaned.ensures
