use Rattle.table.specs.Sheet.{sheet_in}
use Rattle.record.specs.Flat.{record_of}
use Rattle.record.proofs.Rules.{emptied, not_emptied}
use Rattle.record.proofs.flat.WalkRecord.empty_home.Goals as goal

pub returns-in-Some : goal.returns-in-Some
returns-in-Some c = let a = c.args in emptied (sheet_in a.t.now) a.v.0 c.home.ensures (record_of a.self.now) c.in-Some.is c.store.ensures

pub returns-in-None : goal.returns-in-None
returns-in-None c = let a = c.args in not_emptied (sheet_in a.t.now) a.v.0 c.home.ensures (record_of a.self.now) c.in-None.is
