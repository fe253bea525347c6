-- For src/counts.rt and the passes that count: a count that goes up by one (`count` of rules/specs/Forward.antt). Assumes nothing.
use mathlib.Core.List.{List}
use Prim.Native.Nat.{ℕ, ◌+◌, ◌≤◌}
use native.Mathlib.Omega.{arith}
use lib.ListN.{length, get_or}
use lib.Seq.{set_out, get_or-set_same, get_or-set_other}
use Rattle.laws.proofs.Cases.{by_lt, by_eq}
use Rattle.rules.specs.Forward.{count}

pub count_more : (k j : ℕ) (cs : List ℕ) → get_or (count k cs) j 0 ≤ get_or cs j 0 + 1
unfolding count
count_more k j cs =
    by_eq j k
    (λ e.
    rw e
    (by_lt k (length cs) (λ h. rw (get_or-set_same cs k (get_or cs k 0 + 1) 0 h) (omega arith)) (λ h. rw (set_out cs k (get_or cs k 0 + 1) h) (omega arith))))
    (λ d. rw (get_or-set_other cs k j (get_or cs k 0 + 1) 0 d) (omega arith))
