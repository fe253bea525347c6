use Prim.Native.Nat.{◌+◌, ◌-◌, ◌*◌}
use Rattle.holders.proofs.Holding.{put_is}
use native.Mathlib.Omega.{arith}
use borrow.Author.Rules.{rules}
use Rattle.holders.proofs.put_set.Goals as goal

pub returns-then-c-le-LIMIT : goal.returns-then-c-le-LIMIT
returns-then-c-le-LIMIT c = let a = c.args in put_is a.classes.now a.s.0.words a.c.0 {n = a.c.0 * 4 + 4 - a.c.0 * 4} (omega arith) c.copy_from_slice.ensures.after (search rules)
