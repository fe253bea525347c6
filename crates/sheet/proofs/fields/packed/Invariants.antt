use mathlib.Core.Path.{◌≡◌}
use Prim.Native.Nat.{◌<◌, ◌+◌, ◌-◌, ◌*◌, ◌^◌}
use lib.ListN.{length, drop}
use lib.Dec.{ltb}
use Rattle.sheet.specs.Answers.{lead}
use Rattle.sheet.specs.Packing.{pack}
use Rattle.sheet.proofs.fields.packed.Given as goal

abbrev pub invariant-loop-k : goal.invariant-loop-k
invariant-loop-k l = (pack (lead (ltb 44) 7 l.t) ≡ pack (lead (ltb 44) (7 - l.k) (drop l.k l.t)) * l.m + l.w) × (length (lead (ltb 44) 7 l.t) ≡ l.k + length (lead (ltb 44) (7 - l.k) (drop l.k l.t))) × (l.m ≡ 256 ^ l.k) × (l.w < l.m)
