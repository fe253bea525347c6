use mathlib.Core.Path.{◌≡◌}
use Prim.Native.Nat.{◌<◌, ◌+◌, ◌-◌, ◌^◌}
use lib.ListN.{length, drop}
use Rattle.rules.specs.Cells.{is_digit, decimal}
use Rattle.sheet.specs.Answers.{lead}
use Rattle.sheet.proofs.fields.digits.Given as goal

abbrev pub invariant-loop-k : goal.invariant-loop-k
invariant-loop-k l = (decimal 0 (lead is_digit 5 l.t) ≡ decimal l.v (lead is_digit (5 - l.k) (drop l.k l.t))) × (length (lead is_digit 5 l.t) ≡ l.k + length (lead is_digit (5 - l.k) (drop l.k l.t))) × (l.v < 10 ^ l.k)
