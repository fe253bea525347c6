use mathlib.Core.Path.{◌≡◌, ◌∙◌}
use Rattle.std.proofs.Common.{rules, Some, None, Err}
use Rattle.entity.specs.declared.forms.Refusal.TheVariants.{Call}
use Rattle.drifthurdle.proofs.Refusing.{call_refused, call_passed, no_level, no_flag, level_and_flag}
use Rattle.drifthurdle.proofs.clean.Goals as goal

pub returns-in_err-level : goal.returns-in_err-level
returns-in_err-level c = let n : c.of.result ≡ None = search rules in
    let e : c.from_residual.result ≡ Err Call = search rules in
    let r = call_refused _ _ _ c.args.out.now (no_level _ c.of.ensures _ n) in
    (e ∙ r.0, r.1)

pub returns-then-sweep-gt1 : goal.returns-then-sweep-gt1
returns-then-sweep-gt1 c = let l : c.of.result ≡ Some c.in_ok-level.level = search rules in call_refused _ _ _ _ (no_flag _ c.of.ensures _ l c.if-sweep-gt1.true)

pub returns : goal.returns
returns c = let l : c.of.result ≡ Some c.in_ok-level.level = search rules in call_passed _ _ _ c.args.out.now (level_and_flag _ c.of.ensures _ l c.if-sweep-gt1.false) c.read_and_clean.ensures
