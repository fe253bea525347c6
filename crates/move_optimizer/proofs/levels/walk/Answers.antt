use Rattle.std.proofs.Common.{rules}
use mathlib.Core.Logic.{inl, inr}
use Prim.Native.Nat.{◌+◌}
use native.Mathlib.Omega.{arith}
use Rattle.table.specs.Sheet.{sheet_in}
use Rattle.moves.specs.Walks.{all_most, visit_most}
use Rattle.moves.proofs.Walks.{written_fewer, written_at}
use Rattle.move_optimizer.proofs.Tables.{made_blank, made_walked, all_handed}
use Rattle.move_optimizer.proofs.LevelWalks.{is_off, is_level}
use Rattle.move_optimizer.proofs.levels.walk.Goals as goal

pub returns-in-Off : goal.returns-in-Off
returns-in-Off c = λ o u n w e x. written_at (search rules) (search rules) (search rules) (is_off c.in-Off.is n w x)

pub returns-in-Local : goal.returns-in-Local
returns-in-Local c = λ o u n w e x. written_at (search rules) (search rules) (search rules) (is_level w c.in-Local.is (c.local.ensures.goes o (c.fill.ensures o.ready (made_blank 68 (omega arith))) n w (made_walked (c.fill-2.ensures.after (λ y k. k)) e (written_fewer (n + all_most) (omega arith) x))))

pub returns-in-Forward : goal.returns-in-Forward
returns-in-Forward c = λ o u n w e x. written_at (search rules) (search rules) (search rules) (is_level w c.in-Forward.is (c.forward.ensures.goes o (c.fill.ensures o.ready (made_blank 68 (omega arith))) (rw (← all_handed (sheet_in c.args.t.now) (inl c.in-Forward.is)) at u) n w (made_walked (c.fill-2.ensures.after (λ y k. k)) e (written_fewer (n + all_most) (omega arith) x))))

pub returns-in-Global : goal.returns-in-Global
returns-in-Global c = λ o u n w e x. written_at (search rules) (search rules) (search rules) (is_level w c.in-Global.is (c.global.ensures.goes o (c.fill.ensures o.ready (made_blank 68 (omega arith))) (rw (← all_handed (sheet_in c.args.t.now) (inr c.in-Global.is)) at u) n w (made_walked (c.fill-2.ensures.after (λ y k. k)) e (written_fewer (n + (all_most + visit_most)) (omega arith) x))))
