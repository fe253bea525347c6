use mathlib.Core.Path.{◌∙◌, ap}
use Rattle.accept.specs.Blocks.{as_checked}
use Rattle.sheet.proofs.Answering.{answer_true, answer_false}
use Rattle.drifthurdle.proofs.Refusing.{rows_refuse, rows_pass, rows_ok, one_rows}
use Rattle.laws.proofs.Cases.{some_ne_none}
use Rattle.drifthurdle.proofs.read_and_check.Goals as goal

pub returns-then-not-read : goal.returns-then-not-read
returns-then-not-read c = λ h. let a = c.args in
    let r = c.read in
    let n = answer_false a.sheet.now a.t.now r.new.t (r.ensures.value, r.ensures.indexed) c.if-not-read.true h in
    (rows_refuse a.sheet.now n, λ rs e f. some_ne_none e n)

pub returns : goal.returns
returns c = λ h. let a = c.args in
    let r = c.read in
    let x = answer_true a.sheet.now a.t.now r.new.t (r.ensures.value, r.ensures.indexed) c.if-not-read.false in
    let y = c.check.ensures x.0 x.2 (rows_ok a.sheet.now x.0 x.1) in
    (y.0 ∙ ap as_checked (rows_pass a.sheet.now x.0 x.1), λ rs e. one_rows a.sheet.now x.1 e y.1)
