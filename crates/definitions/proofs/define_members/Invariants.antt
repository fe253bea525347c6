use mathlib.Core.Path.{◌≡◌}
use mathlib.Core.List.{zip_with}
use Rattle.std.specs.Iterator.Adapters.{zip_first, zip_second}
use Rattle.std.specs.Slice.Iter.{iter_rest}
use Rattle.rules.specs.Forward.{define_all}
use Rattle.rules.specs.Record.{define}
use Rattle.table.specs.Sheet.{sheet_in}
use Rattle.laws.specs.Fold.{run}
use Rattle.record.specs.Flat.{record_of}
use Rattle.definitions.specs.Definitions.{at_reg}
use Rattle.definitions.proofs.define_members.Given as goal

abbrev pub invariant-loop-v : goal.invariant-loop-v
invariant-loop-v l = run (λ s d. define (sheet_in l.t) l.b.0 d.0 d.1 s) (record_of l.rec) (zip_with at_reg (iter_rest (zip_first l.v-iterator)) (iter_rest (zip_second l.v-iterator))) ≡ define_all (sheet_in l.t) l.b.0 (zip_with at_reg l.vs l.rs) (record_of l.initial.rec)
