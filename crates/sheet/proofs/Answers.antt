-- For what src/fields.rt and src/lexing.rt answer with `Option`: what an answer says of the definitions' option, and back. Assumes nothing.
use mathlib.Core.Path.{◌≡◌, refl}
use mathlib.Core.Option as maybe
use mathlib.Core.Option.{none, some}
use Rattle.std.specs.declared.option.Option.{Option}
use Rattle.std.specs.declared.option.Option.TheVariants.{Some, None}
use Rattle.sheet.specs.Answers.{option_of}

pub is_some : {A : Type 0} {r : Option A} (o : maybe.Option A) (v : A) → r ≡ option_of o → r ≡ Some v → o ≡ some v
is_some none v e g = cc
is_some (some n) v e g = cc

pub is_none : {A : Type 0} {r : Option A} (o : maybe.Option A) → r ≡ option_of o → r ≡ None → o ≡ none
is_none none e g = refl
is_none (some n) e g = cc
