-- For `check`, `read_and_check` and `clean` of src/lib.rt: what the answers of the checks say of the first refusal, and what the call then answers. Assumes nothing.
use mathlib.Core.Path.{◌≡◌, refl, sym, ◌∙◌, ap, subst}
use mathlib.Core.Bool.{Bool, true, false, cond}
use mathlib.Core.List.{List, [], ◌∷◌, ◌++◌}
use mathlib.Core.Option.{Option, none, some, bind, Option-elim}
use Prim.Native.Nat.{ℕ, zero, suc, ◌-◌, ◌≤◌, ◌<◌}
use native.Mathlib.Omega.{arith}
use lib.Dec.{leb, eqb}
use lib.IntN.{ℤ, pos, negsuc, neg_ℤ, ◌-ℤ◌}
use lib.Signed.{mag}
use mir.Facts.{to_z_pos}
use mir.Syntax.{w64}
use mir.Val.{SFits, to_z}
use lib.ListN.{length}
use borrow.Author.Tests.{lt-ltb, le-leb, lt-leb, leb-true}
use Rattle.laws.proofs.Cases.{by_bool, by_lt, by_option, some_ne_none}
use Rattle.entity.specs.Limits.{byte_limit}
use Rattle.entity.specs.Forms.{level_of, sum_of}
use Rattle.entity.specs.declared.forms.Level.{Level}
use Rattle.std.specs.Prelude.{Some, None, Ok, Err}
use Rattle.std.specs.Prelude as Code
use Rattle.entity.specs.declared.forms.Refusal.{Refusal}
use Rattle.entity.specs.declared.forms.Refusal.TheVariants.{Rows, Limits, Names, Operands, Edits, Call, Room}
use Rattle.rules.specs.Rows.{cells_of, sheet_ok, rows_of}
use Rattle.rules.specs.Sheet.{Sheet, sheet_of}
use Rattle.rules.specs.Accept.{within_limits, names_hold, operands_hold, edits_hold}
use Rattle.rules.specs.Answer.{Answer, refused, written, first_refusal, block_checks, checks, checked, called, answer, cleaned, fitted, buffer, returned}
use Rattle.table.specs.Layout.{table_length}
use Rattle.table.specs.Table.{Indexed}
use Rattle.table.specs.Sheet.{sheet_in}
use Rattle.table.specs.Index.{Built, Ready}
use Rattle.table.proofs.Parts.{room_short, room_middle, room_long}
use Rattle.table.proofs.Sheets.{sheet_in_is}
use Rattle.accept.specs.Blocks.{as_checked}
use Rattle.drifthurdle.specs.Call.{sheet_refusal, TableOf, sheet_answer, as_outcome, Gives}

-- ---- a table that has room

pub middle_enough : (n : ℕ) → n ≤ 8192 → table_length n ≤ 7384
middle_enough n h = by_lt 1024 n (λ l. omega (arith, room_middle n l h)) (λ l. omega (arith, room_short n l))

pub long_enough : (n : ℕ) → table_length n ≤ 45612
long_enough n = by_lt 8192 n (λ l. omega (arith, room_long n (omega arith) l)) (λ l. omega (arith, middle_enough n l))

-- ---- 1

pub rows_ok : (s : List ℕ) (rs : List (List ℕ)) → rows_of s ≡ some rs → sheet_ok rs ≡ true
unfolding rows_of bind
rows_ok s rs e =
    by_bool (leb (length s) byte_limit)
    (λ p. let e' : bind (cells_of s) (λ rows. cond (sheet_ok rows) (some rows) none) ≡ some rs = rw p at e in kept (cells_of s) e')
    (λ p. let e' : none ≡ some rs = rw p at e in some_ne_none e' refl)
  where
    held : (rows : List (List ℕ)) → cond (sheet_ok rows) (some rows) none ≡ some rs → sheet_ok rs ≡ true
    held rows e =
        by_bool (sheet_ok rows)
        (λ p. let e' : some rows ≡ some rs = rw p at e in let q : rows ≡ rs = cc in rw (sym q) p)
        (λ p. let e' : none ≡ some rs = rw p at e in some_ne_none e' refl)

    kept : (o : Option (List (List ℕ))) → bind o (λ rows. cond (sheet_ok rows) (some rows) none) ≡ some rs → sheet_ok rs ≡ true
    kept none e = some_ne_none e refl
    kept (some rows) e = held rows e

-- a sheet has its rows once
pub one_rows : (s : List ℕ) {rs rs' : List (List ℕ)} {t : List ℕ} → rows_of s ≡ some rs → rows_of s ≡ some rs' → (first_refusal (checks (sheet_of rs)) ≡ none → TableOf rs t)
    → first_refusal (checks (sheet_of rs')) ≡ none → TableOf rs' t
one_rows s {rs} {rs'} e f g = let z : some rs ≡ some rs' = sym e ∙ f in let q : rs ≡ rs' = cc in rw q at g

-- a sheet over 65,536 bytes
pub too_long : (s : List ℕ) (level : Level) (swept : Bool) (capacity : ℕ) (out : List ℕ) → byte_limit < length s → Gives (sheet_answer s level swept capacity) (Err Rows) out out
unfolding sheet_answer as_outcome buffer rows_of Option-elim
too_long s level swept capacity out h = let e : rows_of s ≡ none = rw (lt-leb (length s) byte_limit h) in rw e (refl, refl)

pub rows_refuse : (s : List ℕ) → rows_of s ≡ none → Err Rows ≡ as_checked (sheet_refusal s)
unfolding sheet_refusal as_checked Option-elim
rows_refuse s e = rw e

pub rows_pass : (s : List ℕ) (rs : List (List ℕ)) → rows_of s ≡ some rs → first_refusal (checks (sheet_of rs)) ≡ sheet_refusal s
unfolding sheet_refusal Option-elim
rows_pass s rs e = rw e

-- ---- 2 to 6 and 9 to 12

refused_some : {o : Option Refusal} {r : Refusal} → Err r ≡ as_checked o → o ≡ some r
unfolding as_checked
refused_some {o = none} e = let z : ◌≡◌ {A = ℕ} 0 1 = cc in absurd (omega arith)
refused_some {o = some q} e = cc

accepted_none : {o : Option Refusal} → Ok tt ≡ as_checked o → o ≡ none
unfolding as_checked
accepted_none {o = none} e = refl
accepted_none {o = some q} e = let z : ◌≡◌ {A = ℕ} 0 1 = cc in absurd (omega arith)

-- some checks, and then others
module _ (ds : List (Bool × Refusal)) where
  fails_first : (cs : List (Bool × Refusal)) {r : Refusal} → first_refusal cs ≡ some r → first_refusal (cs ++ ds) ≡ some r
  unfolding first_refusal
  fails_first [] e = some_ne_none e refl
  fails_first (c ∷ cs) e = by_bool c.0 (λ p. rw p (fails_first cs (rw p at e))) (λ p. rw p (rw p at e))

  passes_first : (cs : List (Bool × Refusal)) → first_refusal cs ≡ none → first_refusal (cs ++ ds) ≡ first_refusal ds
  unfolding first_refusal
  passes_first [] e = refl
  passes_first (c ∷ cs) e = by_bool c.0 (λ p. rw p (passes_first cs (rw p at e))) (λ p. some_ne_none {a = c.1} (rw p) e)

module _ (sh : Sheet) where
  abbrev rest : List (Bool × Refusal)
  rest = (operands_hold sh, Operands) ∷ (edits_hold sh, Edits) ∷ []

  pub limits_fail : within_limits sh ≡ false → Err Limits ≡ as_checked (first_refusal (checks sh))
  unfolding checks first_refusal as_checked
  limits_fail p = rw p

  module _ (p : within_limits sh ≡ true) where
    names_fail : names_hold sh ≡ false → Err Names ≡ as_checked (first_refusal (checks sh))
    unfolding checks first_refusal as_checked
    names_fail q = rw (p, q)

    module _ (q : names_hold sh ≡ true) where
      to_blocks : first_refusal (checks sh) ≡ first_refusal (block_checks sh ++ rest)
      unfolding checks first_refusal
      to_blocks = rw (p, q)

      blocks_fail : {r : Refusal} → first_refusal (block_checks sh) ≡ some r → Err r ≡ as_checked (first_refusal (checks sh))
      unfolding as_checked
      blocks_fail e = rw (to_blocks, fails_first rest (block_checks sh) e)

      module _ (r : first_refusal (block_checks sh) ≡ none) where
        to_operands : first_refusal (checks sh) ≡ first_refusal rest
        to_operands = to_blocks ∙ passes_first rest (block_checks sh) r

        operands_fail : operands_hold sh ≡ false → Err Operands ≡ as_checked (first_refusal (checks sh))
        unfolding first_refusal as_checked
        operands_fail s = rw (to_operands, s)

        edits_fail : operands_hold sh ≡ true → edits_hold sh ≡ false → Err Edits ≡ as_checked (first_refusal (checks sh))
        unfolding first_refusal as_checked
        edits_fail s t = rw (to_operands, s, t)

        none_fails : operands_hold sh ≡ true → edits_hold sh ≡ true → Ok tt ≡ as_checked (first_refusal (checks sh))
        unfolding first_refusal as_checked
        none_fails s t = rw (to_operands, s, t)

module _ {rs : List (List ℕ)} {t : List ℕ} (x : Indexed rs t) {w : Bool} (e : w ≡ within_limits (sheet_in t)) where
  pub limits_refuse : w ≡ false → Err Limits ≡ as_checked (first_refusal (checks (sheet_of rs)))
  limits_refuse f = limits_fail (sheet_of rs) (sym (e ∙ ap within_limits (sheet_in_is x)) ∙ f)

  pub limits_pass : w ≡ true → within_limits (sheet_of rs) ≡ true
  limits_pass f = sym (e ∙ ap within_limits (sheet_in_is x)) ∙ f

-- what the answers of the four functions say, one after the other
module _ {rs : List (List ℕ)} {t : List ℕ} (x : Indexed rs t) (ok : sheet_ok rs ≡ true) (limits : within_limits (sheet_of rs) ≡ true) (built : Built t) where
  same : sheet_in t ≡ sheet_of rs
  same = sheet_in_is x

  ready : names_hold (sheet_of rs) ≡ true → Ready t
  ready n = record { rows = rs; held = x; ok = ok; limits = rw same limits; names = rw same n; built = built }

  module _ {n : Bool} (N : within_limits (sheet_in t) ≡ true → n ≡ names_hold (sheet_in t)) where
    names_are : n ≡ names_hold (sheet_of rs)
    names_are = N (rw same limits) ∙ ap names_hold same

    pub names_refuse : n ≡ false → Err Names ≡ as_checked (first_refusal (checks (sheet_of rs)))
    names_refuse e = names_fail (sheet_of rs) limits (sym names_are ∙ e)

    module _ (n! : n ≡ true) {b : Code.Result (Unit {0}) Refusal} (B : Ready t → b ≡ as_checked (first_refusal (block_checks (sheet_in t)))) where
      named : names_hold (sheet_of rs) ≡ true
      named = sym names_are ∙ n!

      blocks_are : b ≡ as_checked (first_refusal (block_checks (sheet_of rs)))
      blocks_are = B (ready named) ∙ ap (λ (sh : Sheet). as_checked (first_refusal (block_checks sh))) same

      pub blocks_refuse : {r : Refusal} → b ≡ Err r → Err r ≡ as_checked (first_refusal (checks (sheet_of rs)))
      blocks_refuse e = blocks_fail (sheet_of rs) limits named (refused_some (sym e ∙ blocks_are))

      module _ (b! : b ≡ Ok tt) {o : Bool} (O : Ready t → o ≡ operands_hold (sheet_in t)) where
        passed : first_refusal (block_checks (sheet_of rs)) ≡ none
        passed = accepted_none (sym b! ∙ blocks_are)

        operands_are : o ≡ operands_hold (sheet_of rs)
        operands_are = O (ready named) ∙ ap operands_hold same

        pub operands_refuse : o ≡ false → Err Operands ≡ as_checked (first_refusal (checks (sheet_of rs)))
        operands_refuse e = operands_fail (sheet_of rs) limits named passed (sym operands_are ∙ e)

        module _ (o! : o ≡ true) {d : Bool} (D : Ready t → d ≡ edits_hold (sheet_in t)) where
          edits_are : d ≡ edits_hold (sheet_of rs)
          edits_are = D (ready named) ∙ ap edits_hold same

          pub edits_refuse : d ≡ false → Err Edits ≡ as_checked (first_refusal (checks (sheet_of rs)))
          edits_refuse e = edits_fail (sheet_of rs) limits named passed (sym operands_are ∙ o!) (sym edits_are ∙ e)

          pub all_pass : d ≡ true → Ok tt ≡ as_checked (first_refusal (checks (sheet_of rs)))
          all_pass e = none_fails (sheet_of rs) limits named passed (sym operands_are ∙ o!) (sym edits_are ∙ e)

-- ---- the table, where no check fails

none_named : (sh : Sheet) → within_limits sh ≡ true → first_refusal (checks sh) ≡ none → names_hold sh ≡ true
unfolding checks first_refusal
none_named sh p e = by_bool (names_hold sh) (λ q. q) (λ q. let z : some Names ≡ none = rw (p, q) at e in some_ne_none refl z)

pub no_limits : {rs : List (List ℕ)} {t t' : List ℕ} → Indexed rs t → {w : Bool} → w ≡ within_limits (sheet_in t) → w ≡ false → first_refusal (checks (sheet_of rs)) ≡ none → TableOf rs t'
unfolding checks first_refusal
no_limits {rs} x e f n =
    let p : within_limits (sheet_of rs) ≡ false = sym (e ∙ ap within_limits (sheet_in_is x)) ∙ f in
    let z : some Limits ≡ none = rw p at n in some_ne_none refl z

pub tabled : {rs : List (List ℕ)} {t : List ℕ} → Indexed rs t → sheet_ok rs ≡ true → within_limits (sheet_of rs) ≡ true → Built t → first_refusal (checks (sheet_of rs)) ≡ none → TableOf rs t
tabled {rs} x ok l b e = record { ready = ready x ok l b (none_named (sheet_of rs) l e); is = sheet_in_is x }

-- ---- 1 to 6 and 9 to 12, and the answer

-- a refusal writes nothing
gives_refused : {a : Answer} {r : Refusal} (out : List ℕ) → a ≡ refused r → Gives a (Err r) out out
unfolding as_outcome buffer
gives_refused out e = rw e (refl, refl)

module _ (sheet : List ℕ) (level : Level) (swept : Bool) where
  sheet_refused : (n : ℕ) {r : Refusal} → sheet_refusal sheet ≡ some r → sheet_answer sheet level swept n ≡ refused r
  unfolding sheet_refusal sheet_answer checked Option-elim
  sheet_refused n {r} e =
      by_option (rows_of sheet)
      (λ q. let e' : some Rows ≡ some r = rw q at e in let z : Rows ≡ r = cc in rw (q, z))
      (λ rows q. let e' : first_refusal (checks (sheet_of rows)) ≡ some r = rw q at e in rw (q, e'))

  sheet_accepted : (n : ℕ) → sheet_refusal sheet ≡ none
      → (rows : List (List ℕ)) × (rows_of sheet ≡ some rows) × (first_refusal (checks (sheet_of rows)) ≡ none) × (sheet_answer sheet level swept n ≡ fitted (cleaned (sheet_of rows) level swept) n)
  unfolding sheet_refusal sheet_answer checked Option-elim
  sheet_accepted n e =
      by_option (rows_of sheet)
      (λ q. let e' : some Rows ≡ none = rw q at e in some_ne_none refl e')
      (λ rows q. let e' : first_refusal (checks (sheet_of rows)) ≡ none = rw q at e in (rows, q, e', rw (q, e')))

  module _ {c : Code.Result (Unit {0}) Refusal} (k : c ≡ as_checked (sheet_refusal sheet)) (out : List ℕ) where
    pub check_refused : {r : Refusal} → c ≡ Err r → Gives (sheet_answer sheet level swept (length out)) (Err r) out out
    check_refused f = gives_refused out (sheet_refused (length out) (refused_some (sym f ∙ k)))

    pub check_accepted : {o : Code.Result ℕ Refusal} {new : List ℕ} {t : List ℕ} → c ≡ Ok tt
        → ((rs : List (List ℕ)) → rows_of sheet ≡ some rs → first_refusal (checks (sheet_of rs)) ≡ none → TableOf rs t)
        → (Ready t → first_refusal (checks (sheet_in t)) ≡ none → Gives (fitted (cleaned (sheet_in t) level swept) (length out)) o out new)
        → Gives (sheet_answer sheet level swept (length out)) o out new
    check_accepted f T G =
        let w = sheet_accepted (length out) (accepted_none (sym f ∙ k)) in
        let x = T w.0 w.1 w.2 in
        rw w.3 (rw x.is at (G x.ready (rw x.is w.2)))

-- ---- 7

module _ (sheet : List ℕ) (level flag : ℕ) where
  pub call_refused : (out : List ℕ) → called level flag ≡ none → Gives (answer sheet level flag (length out)) (Err Call) out out
  unfolding answer Option-elim
  call_refused out e = gives_refused out (rw e)

  pub call_passed : (out : List ℕ) {l : Level} {s : Bool} {o : Code.Result ℕ Refusal} {new : List ℕ} → called level flag ≡ some (l, s) → Gives (sheet_answer sheet l s (length out)) o out new
      → Gives (answer sheet level flag (length out)) o out new
  unfolding answer sheet_answer Option-elim
  call_passed out e k = rw e k

abbrev pub by_level : Code.Option Level → ℕ → Option (Level × Bool)
by_level (Some l) flag = cond (leb flag 1) (some (l, eqb flag 1)) none
by_level None flag = none

pub called_is : (level flag : ℕ) → called level flag ≡ by_level (level_of level) flag
unfolding called
called_is level flag = go (level_of level)
  where
    go : (f : Code.Option Level) → elim f [ Some l ↦ cond (leb flag 1) (some (l, eqb flag 1)) none | None ↦ none ] ≡ by_level f flag
    go (Some l) = refl
    go None = refl

module _ {f : Code.Option Level} (level : ℕ) (e : f ≡ level_of level) (flag : ℕ) where
  pub no_level : f ≡ None → called level flag ≡ none
  no_level g = called_is level flag ∙ ap (λ (x : Code.Option Level). by_level x flag) (sym e ∙ g)

  pub no_flag : {l : Level} → f ≡ Some l → 1 < flag → called level flag ≡ none
  no_flag {l} g h =
      called_is level flag ∙ ap (λ (x : Code.Option Level). by_level x flag) (sym e ∙ g)
      ∙ ap (λ (b : Bool). cond b (some (l, eqb flag 1)) none) (lt-leb flag 1 h)

  pub level_and_flag : {l : Level} → f ≡ Some l → flag ≤ 1 → called level flag ≡ some (l, eqb flag 1)
  level_and_flag {l} g h =
      called_is level flag ∙ ap (λ (x : Code.Option Level). by_level x flag) (sym e ∙ g)
      ∙ ap (λ (b : Bool). cond b (some (l, eqb flag 1)) none) (le-leb flag 1 h)

-- ---- a text that is written

refused_not : {C : Type 0} {a : Answer} {r : Refusal} {text : List ℕ} → a ≡ refused r → a ≡ written text → C
refused_not e f = let z : ◌≡◌ {A = ℕ} 0 1 = cc in absurd (omega arith)

-- a text that fits is the text
fitted_text : (text : List ℕ) (capacity : ℕ) {out : List ℕ} → fitted text capacity ≡ written out → (out ≡ text) × (length text ≤ capacity)
unfolding fitted
fitted_text text capacity {out} e =
    by_bool (leb (length text) capacity)
    (λ p. let e' : written text ≡ written out = rw (p, fitted) at e in (cc, leb-true _ _ p))
    (λ p. refused_not {r = Room} (rw (p, fitted)) e)

-- what is known where the answer is a text
pub record Wrote (sheet : List ℕ) (level flag capacity : ℕ) (out : List ℕ) : Type 0 where
  pub rows : List (List ℕ)
  pub named : Level
  pub rows_are : rows_of sheet ≡ some rows
  pub level_is : level_of level ≡ Some named
  pub pass : first_refusal (checks (sheet_of rows)) ≡ none
  pub text : out ≡ cleaned (sheet_of rows) named (eqb flag 1)
  pub fits : length out ≤ capacity

level_of_lem : (level flag : ℕ) (c : Level × Bool) → called level flag ≡ some c → (level_of level ≡ Some c.0) × (c.1 ≡ eqb flag 1)
level_of_lem level flag c e = go (level_of level) (sym (called_is level flag) ∙ e)
  where
    go : (f : Code.Option Level) → by_level f flag ≡ some c → (f ≡ Some c.0) × (c.1 ≡ eqb flag 1)
    go (Some l) e =
        by_bool (leb flag 1)
        (λ p.
        let e' : some (l, eqb flag 1) ≡ some c = rw p at e in
        let q : (l, eqb flag 1) ≡ c = cc in
        (ap (λ (x : Level × Bool). Some x.0) q, sym (ap (λ (x : Level × Bool). x.1) q)))
        (λ p. let e' : none ≡ some c = rw p at e in some_ne_none {a = c} refl (sym e'))
    go None e = some_ne_none e refl

pub wrote : (sheet : List ℕ) (level flag capacity : ℕ) (out : List ℕ) → answer sheet level flag capacity ≡ written out → Wrote sheet level flag capacity out
unfolding answer checked Option-elim
wrote sheet level flag capacity out e =
    by_option (called level flag) (λ p. refused_not {r = Call} (rw p) e)
    (λ c p.
    by_option (rows_of sheet) (λ q. refused_not {r = Rows} (rw (p, q)) e)
    (λ rows q.
    by_option (first_refusal (checks (sheet_of rows)))
    (λ n.
    let l = level_of_lem level flag c p in
    let e' : fitted (cleaned (sheet_of rows) c.0 c.1) capacity ≡ written out = rw (p, q, n) at e in
    let f = fitted_text (cleaned (sheet_of rows) c.0 c.1) capacity e' in
    record {
      rows = rows;
      named = c.0;
      rows_are = q;
      level_is = l.0;
      pass = n;
      text = f.0 ∙ ap (cleaned (sheet_of rows) c.0) l.1;
      fits = rw f.0 f.1;
    })
    (λ r n. refused_not {r = r} (rw (p, q, n)) e)))

-- ---- as a number

-- 0 less a number of 32 bits, at 64
zero_less : (n : ℕ) → pos 0 -ℤ pos n ≡ neg_ℤ (pos n)
zero_less zero = refl
zero_less (suc n) = ap (λ (t : Bool). cond t (negsuc (suc n - 1)) (pos (0 - suc n))) (lt-ltb 0 (suc n) (omega arith)) ∙ ap negsuc (omega arith)

pub minus_is : (n : ℕ) → n < 4294967296 → to_z w64 0 -ℤ to_z w64 n ≡ neg_ℤ (pos n)
minus_is n h = let k : n < 9223372036854775808 = omega arith in ap (λ (z : ℤ). pos 0 -ℤ z) (to_z_pos w64 {n = n} k) ∙ zero_less n

small : (n : ℕ) → n < 4294967296 → mag (neg_ℤ (pos n)) < 9223372036854775808
small zero h = omega arith
small (suc n) h = omega arith

pub minus_fits : (n : ℕ) → n < 4294967296 → SFits w64 (to_z w64 0 -ℤ to_z w64 n)
minus_fits n h = subst (λ (z : ℤ). SFits w64 z) (sym (minus_is n h)) (record { sfits = small n h })

pub outcome_refused : (a : Answer) {r : Refusal} → Err r ≡ as_outcome a → a ≡ refused r
unfolding as_outcome
outcome_refused (refused q) {r} e = let z : q ≡ r = cc in rw z
outcome_refused (written text) e = let z : ◌≡◌ {A = ℕ} 0 1 = cc in absurd (omega arith)

pub outcome_written : (a : Answer) {n : ℕ} → Ok n ≡ as_outcome a → (text : List ℕ) × (a ≡ written text) × (n ≡ length text)
unfolding as_outcome
outcome_written (refused q) e = let z : ◌≡◌ {A = ℕ} 0 1 = cc in absurd (omega arith)
outcome_written (written text) e = (text, refl, cc)

-- what is written fits the buffer
pub fits_in : (sheet : List ℕ) (level flag capacity : ℕ) {o : Code.Result ℕ Refusal} {n : ℕ} → o ≡ as_outcome (answer sheet level flag capacity) → o ≡ Ok n → n ≤ capacity
fits_in sheet level flag capacity e f =
    let w = outcome_written (answer sheet level flag capacity) (sym f ∙ e) in
    rw w.2 (wrote sheet level flag capacity w.0 w.1).fits

module _ (a : Answer) {o : Code.Result ℕ Refusal} (e : o ≡ as_outcome a) where
  pub number_refused : {r : Refusal} {z : ℤ} → o ≡ Err r → z ≡ neg_ℤ (pos (sum_of r)) → z ≡ returned a
  unfolding returned
  number_refused f g = rw (outcome_refused a (sym f ∙ e)) g

  pub number_written : {n : ℕ} {z : ℤ} → o ≡ Ok n → z ≡ pos n → z ≡ returned a
  unfolding returned
  number_written f g = let w = outcome_written a (sym f ∙ e) in rw w.1 (g ∙ ap pos w.2)
