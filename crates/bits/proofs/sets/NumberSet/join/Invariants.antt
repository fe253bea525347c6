use lib.Bits.{bit_or}
use lib.ListN.{get_or}
use Rattle.laws.proofs.Lists.{MapTo}
use Rattle.bits.proofs.sets.NumberSet.join.Given as goal

abbrev pub invariant-loop-i : goal.invariant-loop-i
invariant-loop-i l = MapTo 0 (λ j x. bit_or x (get_or l.other.words j 0)) l.initial.self.words l.i l.self.words
