use Rattle.std.proofs.Common.{rules}
use Rattle.rules.specs.Record.{holds}
use Rattle.record.specs.Flat.{record_of}
use Rattle.holders.proofs.holders.Goals as goal

pub returns : goal.returns
returns c = c.regs_where.ensures (λ r. holds (record_of c.args.rec.now) r c.args.v.0) (λ r b k. search rules)
