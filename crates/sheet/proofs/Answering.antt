-- For `read` of src/lib.rt: what it answers, and what its answer says. Assumes nothing.
use mathlib.Core.Path.{◌≡◌, refl, sym, ◌∙◌, ap}
use mathlib.Core.Bool.{Bool, true, false, cond, ◌&&◌, and-false, false≢true}
use mathlib.Core.List.{List}
use mathlib.Core.Option.{Option, none, some, bind, map, some-injective}
use Prim.Native.Nat.{ℕ, ◌<◌, ◌≤◌}
use native.Mathlib.Omega.{arith}
use lib.ListN.{length}
use lib.Dec.{leb}
use Rattle.entity.specs.Limits.{byte_limit}
use borrow.Author.Tests.{le-leb, lt-leb, leb-true}
use Rattle.laws.proofs.Cases.{and_parts, some_ne_none}
use Rattle.rules.specs.Rows.{cells_of, sheet_ok, rows_of}
use Rattle.rules.specs.Sheets.{is_some}
use Rattle.sheet.specs.Answers.{option_of}
use Rattle.table.specs.Layout.{table_length}
use Rattle.table.specs.Table.{Indexed}
use Rattle.std.specs.declared.option.Option as rust
use Rattle.std.specs.declared.option.Option.TheVariants.{Some, None}

-- ---- what `rows` answers says of the cells

pub are_rows : {r : rust.Option ℕ} (o : Option (List (List ℕ))) (n : ℕ) → r ≡ option_of (map length o) → r ≡ Some n → (rs : List (List ℕ)) × (o ≡ some rs) × (length rs ≡ n)
are_rows none n e g = cc
are_rows (some rs) n e g = (rs, refl, cc)

pub no_rows : {r : rust.Option ℕ} (o : Option (List (List ℕ))) → r ≡ option_of (map length o) → r ≡ None → o ≡ none
no_rows none e g = refl
no_rows (some rs) e g = cc

-- ---- the sheet

module _ (s : List ℕ) where
  pub rows_long : byte_limit < length s → rows_of s ≡ none
  unfolding rows_of
  rows_long h = rw (lt-leb (length s) byte_limit h)

  pub rows_broken : cells_of s ≡ none → rows_of s ≡ none
  unfolding rows_of bind
  rows_broken e = rw e (go (leb (length s) byte_limit))
    where
      go : (b : Bool) → ◌≡◌ {A = Option (List (List ℕ))} (cond b none none) none
      go true = refl
      go false = refl

  pub rows_not : (rs : List (List ℕ)) → cells_of s ≡ some rs → sheet_ok rs ≡ false → rows_of s ≡ none
  unfolding rows_of bind
  rows_not rs e g = rw (e, g) (go (leb (length s) byte_limit))
    where
      go : (b : Bool) → ◌≡◌ {A = Option (List (List ℕ))} (cond b none none) none
      go true = refl
      go false = refl

  pub rows_are : (rs : List (List ℕ)) → length s ≤ byte_limit → cells_of s ≡ some rs → sheet_ok rs ≡ true → rows_of s ≡ some rs
  unfolding rows_of bind
  rows_are rs h e g = rw (le-leb (length s) byte_limit h, e, g)

-- ---- the answer

abbrev pub Answer : List ℕ → List ℕ → List ℕ → Bool → Type 0
Answer s t₀ t a =
    (a ≡ (leb (table_length (length s)) (length t₀) && is_some (rows_of s)))
    × ((rs : List (List ℕ)) → rows_of s ≡ some rs → table_length (length s) ≤ length t₀ → Indexed rs t)

module _ (s t₀ t : List ℕ) where
  pub too_short : length t₀ < table_length (length s) → Answer s t₀ t false
  too_short h = (sym (ap (λ (b : Bool). b && is_some (rows_of s)) (lt-leb (table_length (length s)) (length t₀) h)), λ rs e l. absurd (omega arith))

  pub refused : rows_of s ≡ none → Answer s t₀ t false
  unfolding is_some
  refused e = (sym (ap (λ (o : Option (List (List ℕ))). leb (table_length (length s)) (length t₀) && is_some o) e ∙ and-false (leb (table_length (length s)) (length t₀))), λ rs g l. some_ne_none g e)

  pub accepted : (rs : List (List ℕ)) → rows_of s ≡ some rs → table_length (length s) ≤ length t₀ → Indexed rs t → Answer s t₀ t true
  unfolding is_some
  accepted rs e h x = (
    rw (le-leb (table_length (length s)) (length t₀) h, e),
    λ rs' g l. let same : rs ≡ rs' = some-injective _ _ (sym e ∙ g) in rw (← same) x,
  )

-- what the answer true says
some_is : (o : Option (List (List ℕ))) → is_some o ≡ true → (rs : List (List ℕ)) × (o ≡ some rs)
unfolding is_some
some_is none e = absurd (false≢true e)
some_is (some rs) e = (rs, refl)

pub answer_true : (s t₀ t : List ℕ) {a : Bool} → Answer s t₀ t a → a ≡ true → (rs : List (List ℕ)) × (rows_of s ≡ some rs) × Indexed rs t
answer_true s t₀ t x e =
    let b = and_parts (leb (table_length (length s)) (length t₀)) (is_some (rows_of s)) (sym x.0 ∙ e) in
    let y = some_is (rows_of s) b.1 in
    (y.0, y.1, x.1 y.0 y.1 (leb-true (table_length (length s)) (length t₀) b.0))

-- and what false says, of a table that is long enough
none_is : (o : Option (List (List ℕ))) → is_some o ≡ false → o ≡ none
unfolding is_some
none_is none e = refl
none_is (some rs) e = absurd (false≢true (sym e))

pub answer_false : (s t₀ t : List ℕ) {a : Bool} → Answer s t₀ t a → a ≡ false → table_length (length s) ≤ length t₀ → rows_of s ≡ none
answer_false s t₀ t x e h =
    none_is (rows_of s) (sym (ap (λ (b : Bool). b && is_some (rows_of s)) (le-leb (table_length (length s)) (length t₀) h)) ∙ sym x.0 ∙ e)
