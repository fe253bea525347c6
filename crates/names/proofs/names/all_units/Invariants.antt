use Rattle.laws.specs.Lists.{is_in}
use Rattle.bits.specs.Sets.{set_of}
use Rattle.rules.specs.Accept.{unit_exists}
use Rattle.table.specs.Sheet.{sheet_in}
use Rattle.names.proofs.Sets.{Growing}
use Rattle.names.proofs.names.all_units.Given as goal

abbrev pub invariant-loop-r : goal.invariant-loop-r
invariant-loop-r l = Growing (λ k q. is_in k q.units) (sheet_in l.t).regs (set_of (unit_exists (sheet_in l.t))) l.r l.seen
