use mathlib.Core.Path.{◌≡◌}
use mathlib.Core.Bool.{not}
use lib.ListN.{drop}
use Rattle.laws.specs.Fold.{run}
use Rattle.laws.specs.Lists.{keep}
use Rattle.bits.specs.Sets.{has}
use Rattle.rules.specs.Record.{forget_unit}
use Rattle.record.specs.Flat.{record_of}
use Rattle.definitions.proofs.forget_others.Given as goal

abbrev pub invariant-loop-u : goal.invariant-loop-u
invariant-loop-u l = run forget_unit (record_of l.rec) (keep (λ u. not (has l.own.0 u)) (drop l.u-index l.us)) ≡ run forget_unit (record_of l.initial.rec) (keep (λ u. not (has l.own.0 u)) l.us)
