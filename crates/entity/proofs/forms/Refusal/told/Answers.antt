use mathlib.Core.Path.{sym, ap}
use Rattle.entity.specs.Forms.{told_of}
use Rattle.entity.proofs.forms.Refusal.told.Goals as goal

pub returns-in-Rows : goal.returns-in-Rows
returns-in-Rows c = sym (ap told_of c.in-Rows.is)

pub returns-in-Limits : goal.returns-in-Limits
returns-in-Limits c = sym (ap told_of c.in-Limits.is)

pub returns-in-Names : goal.returns-in-Names
returns-in-Names c = sym (ap told_of c.in-Names.is)

pub returns-in-NoEntry : goal.returns-in-NoEntry
returns-in-NoEntry c = sym (ap told_of c.in-NoEntry.is)

pub returns-in-Empty : goal.returns-in-Empty
returns-in-Empty c = sym (ap told_of c.in-Empty.is)

pub returns-in-Disagree : goal.returns-in-Disagree
returns-in-Disagree c = sym (ap told_of c.in-Disagree.is)

pub returns-in-Edges : goal.returns-in-Edges
returns-in-Edges c = sym (ap told_of c.in-Edges.is)

pub returns-in-NotSmaller : goal.returns-in-NotSmaller
returns-in-NotSmaller c = sym (ap told_of c.in-NotSmaller.is)

pub returns-in-NotReached : goal.returns-in-NotReached
returns-in-NotReached c = sym (ap told_of c.in-NotReached.is)

pub returns-in-Operands : goal.returns-in-Operands
returns-in-Operands c = sym (ap told_of c.in-Operands.is)

pub returns-in-Edits : goal.returns-in-Edits
returns-in-Edits c = sym (ap told_of c.in-Edits.is)

pub returns-in-Call : goal.returns-in-Call
returns-in-Call c = sym (ap told_of c.in-Call.is)

pub returns-in-Room : goal.returns-in-Room
returns-in-Room c = sym (ap told_of c.in-Room.is)
