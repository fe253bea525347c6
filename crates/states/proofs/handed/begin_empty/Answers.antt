use mathlib.Core.Path.{refl}
use native.Mathlib.Omega.{arith}
use Rattle.record.specs.Layout.{defined_at}
use Rattle.rules.specs.Record.{absent}
use Rattle.states.proofs.TakingIn.{begun_empty}
use Rattle.states.proofs.Spans.{span_filled}
use Rattle.states.proofs.handed.begin_empty.Goals as goal

pub returns : goal.returns
returns c = begun_empty _ _ (omega arith) (span_filled 0 absent c.args.rec.now.cells c.fill.new.self {n = defined_at} defined_at refl (omega arith) (c.fill.ensures.after (λ y k. k)))
