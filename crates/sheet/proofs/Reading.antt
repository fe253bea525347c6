-- For `rows` of src/lexing.rt, its loop: which rows are whole, which cells the row at hand has, and what the rest of the sheet adds. Assumes nothing.
use mathlib.Core.Path.{◌≡◌, refl, sym, ◌∙◌, ap}
use mathlib.Core.Bool.{Bool, true, false}
use mathlib.Core.List.{List, [], ◌∷◌, ◌++◌, append_assoc, append-nil}
use mathlib.Core.Option.{Option, none, some, bind, map, some-injective}
use Prim.Native.Nat.{ℕ, ◌+◌, ◌-◌, ◌*◌, ◌<◌, ◌≤◌}
use native.Mathlib.Omega.{arith}
use lib.ListN.{length, get_or, take, drop, set, length-append, length-set}
use lib.Seq.{take-set-le, drop-set-add}
use Rattle.entity.specs.Limits.{byte_limit}
use Rattle.laws.proofs.Cases.{by_eq, some_ne_none}
use Rattle.rules.specs.Rows.{every, cut, cells_of}
use Rattle.sheet.specs.Answers.{option_of, field_at}
use Rattle.sheet.specs.declared.lexing.Piece.TheVariants.{More, Last}
use Rattle.table.specs.Layout.{cells_at, table_length}
use Rattle.table.specs.Rows.{start_in}
use Rattle.table.specs.Table.{flatten, offsets, Holds}
use Rattle.std.specs.declared.option.Option as rust
use Rattle.std.specs.declared.option.Option.TheVariants.{Some, None}
use Rattle.sheet.proofs.Lists.{drop_end}
use Rattle.sheet.proofs.Cuts.{cell_then, last_then, step_more, step_last, step_unread}
use Rattle.table.proofs.Parts.{room_enough}
use Rattle.table.proofs.Holding.{last_offset}
use Rattle.table.proofs.Beginnings.{start_kept, start_stored}
use Rattle.sheet.proofs.Buffers.{section_store, flatten_more, offsets_kept}

abbrev Cells : Type 0
Cells = Option (List (List ℕ))

-- `done` are whole rows, `cur` the cells of the row at hand ([] between rows), and x is what the rest reads as
unfoldable pub resume : List (List ℕ) → List ℕ → Cells → Cells
resume done [] none = none
resume done [] (some rs) = some (done ++ rs)
resume done (c ∷ cs) none = none
resume done (c ∷ cs) (some []) = none
resume done (c ∷ cs) (some (r ∷ rs)) = some (done ++ (((c ∷ cs) ++ r) ∷ rs))

resume_none : (done : List (List ℕ)) (cur : List ℕ) → resume done cur none ≡ none
unfolding resume
resume_none done [] = refl
resume_none done (c ∷ cs) = refl

resume_more : (done : List (List ℕ)) (cur : List ℕ) (c : ℕ) (x : Cells) → resume done cur (cell_then (some c) x) ≡ resume done (cur ++ (c ∷ [])) x
unfolding resume cell_then
resume_more done [] c none = refl
resume_more done [] c (some []) = refl
resume_more done [] c (some (r ∷ rs)) = refl
resume_more done (d ∷ cs) c none = refl
resume_more done (d ∷ cs) c (some []) = refl
resume_more done (d ∷ cs) c (some (r ∷ rs)) =
    ap (λ (l : List ℕ). some (done ++ ((d ∷ l) ∷ rs))) (sym (append_assoc cs (c ∷ []) r))

resume_last : (done : List (List ℕ)) (cur : List ℕ) (c : ℕ) (x : Cells) → resume done cur (last_then (some c) x) ≡ resume (done ++ ((cur ++ (c ∷ [])) ∷ [])) [] x
unfolding resume last_then
resume_last done [] c none = refl
resume_last done [] c (some rs) = rw append_assoc
resume_last done (d ∷ cs) c none = refl
resume_last done (d ∷ cs) c (some rs) = rw append_assoc

-- inside a row
unfoldable pub is_open : List ℕ → Bool
is_open [] = false
is_open (c ∷ cs) = true

pub record Reading (s t₀ t : List ℕ) (at n k : ℕ) (in_row : Bool) : Type 0 where
  pub done : List (List ℕ)
  pub cur : List ℕ
  pub here : at ≤ length s
  pub answer : cells_of s ≡ resume done cur (cells_of (drop at s))
  pub cells_are : take (length (flatten done ++ cur)) (drop cells_at t) ≡ flatten done ++ cur
  pub starts_are : (i : ℕ) → i ≤ k → start_in t i ≡ get_or (offsets cells_at done) i 0
  pub n_is : cells_at + length (flatten done ++ cur) ≡ n
  pub k_is : length done ≡ k
  pub in_row_lem : in_row ≡ is_open cur
  pub few_cells : 2 * n + k ≤ 2 * cells_at + at
  pub few_rows : 3 * k ≤ at
  pub long : length t ≡ length t₀
  pub enough : table_length (length s) ≤ length t
  pub small : length s ≤ byte_limit

closed : (done : List (List ℕ)) (cur : List ℕ) → is_open cur ≡ false → (resume done cur (some []) ≡ some done) × (cur ≡ [])
unfolding is_open resume
closed done [] e = (ap some (append-nil done), refl)
closed done (c ∷ cs) e = cc

broken_off : (done : List (List ℕ)) (cur : List ℕ) → is_open cur ≡ true → resume done cur (some []) ≡ none
unfolding is_open resume
broken_off done [] e = cc
broken_off done (c ∷ cs) e = refl

open_more : (cur : List ℕ) (c : ℕ) → true ≡ is_open (cur ++ (c ∷ []))
unfolding is_open
open_more [] c = refl
open_more (d ∷ cs) c = refl

resume_nil : (x : Cells) → x ≡ resume [] [] x
unfolding resume
resume_nil none = refl
resume_nil (some rs) = refl

pub some_room : (s t : List ℕ) → table_length (length s) ≤ length t → length s ≤ byte_limit → 0 < length t
some_room s t l u = omega (arith, room_enough (length s) (length t) 0 l u (omega arith))

pub start : (s t : List ℕ) → table_length (length s) ≤ length t → length s ≤ byte_limit → Reading s (set t (length t - 1) cells_at) (set t (length t - 1) cells_at) 0 cells_at 0 false
unfolding flatten offsets is_open
start s t l m =
    record {
      done = [];
      cur = [];
      here = omega arith;
      answer = resume_nil (cells_of s);
      cells_are = refl;
      starts_are = λ i u. let z : i ≡ 0 = omega arith in rw z (start_stored t (length t - 1) cells_at 0 (some_room s t l m) (omega arith));
      n_is = omega arith;
      k_is = refl;
      in_row_lem = refl;
      few_cells = omega arith;
      few_rows = omega arith;
      long = refl;
      enough = rw length-set l;
      small = m;
    }

-- what a turn of the loop needs of e, where the field ends, and leads to
abbrev pub MoreTurn : List ℕ → List ℕ → List ℕ → ℕ → ℕ → ℕ → ℕ → ℕ → Type 0
MoreTurn s t₀ t at n k c e = (at < e) × (e < length s) × (n + (k + 1) < length t) × Reading s t₀ (set t n c) (e + 1) (n + 1) k true

abbrev pub LastTurn : List ℕ → List ℕ → List ℕ → ℕ → ℕ → ℕ → ℕ → ℕ → Type 0
LastTurn s t₀ t at n k c e =
    (at < e) × (e + 1 < length s) × (n + (k + 2) < length t)
    × ((p : ℕ) → p ≡ length t - (k + 2) → Reading s t₀ (set (set t n c) p (n + 1)) (e + 2) (n + 1) (k + 1) false)

module _ {s t₀ t : List ℕ} {at n k : ℕ} {in_row : Bool} (r : Reading s t₀ t at n k in_row) where
  -- there is room for the cell at hand, and for where its row ends
  room_more : (e : ℕ) → at < e → e < length s → n + (k + 1) < length t
  room_more e a l = omega (arith, room_enough (length s) (length t) (n - cells_at + 1 + k) r.enough r.small (omega (arith, r.few_cells, r.few_rows)), r.n_is)

  room_last : (e : ℕ) → at < e → e + 1 < length s → n + (k + 2) < length t
  room_last e a l = omega (arith, room_enough (length s) (length t) (n - cells_at + 1 + (k + 1)) r.enough r.small (omega (arith, r.few_cells, r.few_rows)), r.n_is)

  room_end : n + k < length t
  room_end = omega (arith, room_enough (length s) (length t) (n - cells_at + k) r.enough r.small (omega (arith, r.here, r.few_cells, r.few_rows)), r.n_is)

  cells_more : (c : ℕ) → List ℕ
  cells_more c = flatten r.done ++ (r.cur ++ (c ∷ []))

  counted : (c : ℕ) → length (cells_more c) ≡ length (flatten r.done ++ r.cur) + 1
  unfolding cells_more
  counted c = ap length (sym (append_assoc (flatten r.done) r.cur (c ∷ []))) ∙ length-append (flatten r.done ++ r.cur) (c ∷ [])

  stored : (c : ℕ) → n < length t → take (length (cells_more c)) (drop cells_at (set t n c)) ≡ cells_more c
  unfolding cells_more
  stored c m =
      ap (λ (j : ℕ). take j (drop cells_at (set t n c))) (counted c)
      ∙ ap (λ (j : ℕ). take (length (flatten r.done ++ r.cur) + 1) (drop cells_at (set t j c))) (sym r.n_is)
      ∙ section_store t cells_at (length (flatten r.done ++ r.cur)) c (omega (arith, r.n_is))
      ∙ ap (λ (l : List ℕ). l ++ (c ∷ [])) r.cells_are ∙ append_assoc (flatten r.done) r.cur (c ∷ [])

  kept : (c i : ℕ) → n + (k + 1) < length t → i ≤ k → start_in (set t n c) i ≡ get_or (offsets cells_at r.done) i 0
  kept c i m u = start_kept t n c i (λ e. omega arith) ∙ r.starts_are i u

  more : (c e : ℕ) → at < e → e < length s → n + (k + 1) < length t → cells_of (drop at s) ≡ cell_then (some c) (cells_of (drop (e + 1) s))
      → Reading s t₀ (set t n c) (e + 1) (n + 1) k true
  unfolding cells_more
  more c e a l m g =
      record {
        done = r.done;
        cur = r.cur ++ (c ∷ []);
        here = omega arith;
        answer = r.answer ∙ ap (resume r.done r.cur) g ∙ resume_more r.done r.cur c _;
        cells_are = stored c (omega arith);
        starts_are = λ i u. kept c i m u;
        n_is = omega (arith, counted c, r.n_is);
        k_is = r.k_is;
        in_row_lem = open_more r.cur c;
        few_cells = omega (arith, r.few_cells);
        few_rows = omega (arith, r.few_rows);
        long = length-set t n c ∙ r.long;
        enough = rw length-set r.enough;
        small = r.small;
      }

  rows_more : (c : ℕ) → List (List ℕ)
  rows_more c = r.done ++ ((r.cur ++ (c ∷ [])) ∷ [])

  flat : (c : ℕ) → flatten (rows_more c) ++ [] ≡ cells_more c
  unfolding rows_more cells_more
  flat c = append-nil _ ∙ flatten_more r.done (r.cur ++ (c ∷ []))

  one_more : (c : ℕ) → length (rows_more c) ≡ k + 1
  unfolding rows_more
  one_more c = rw (length-append, r.k_is)

  -- the cells stand before p, the start that is stored there
  after : (c p : ℕ) → n + (k + 2) < length t → p ≡ length t - (k + 2) → take (length (cells_more c)) (drop cells_at (set (set t n c) p (n + 1))) ≡ cells_more c
  after c p m q =
      let z : p ≡ cells_at + (p - cells_at) = omega (arith, r.n_is) in
      ap (λ (j : ℕ). take (length (cells_more c)) (drop cells_at (set (set t n c) j (n + 1)))) z
      ∙ ap (take (length (cells_more c))) (drop-set-add cells_at (set t n c) (p - cells_at) (n + 1))
      ∙ take-set-le (length (cells_more c)) (drop cells_at (set t n c)) (p - cells_at) (n + 1) (omega (arith, counted c, r.n_is)) ∙ stored c (omega arith)

  starts_after : (c p : ℕ) → n + (k + 2) < length t → p ≡ length t - (k + 2) → (i : ℕ) → i ≤ k + 1 → start_in (set (set t n c) p (n + 1)) i ≡ get_or (offsets cells_at (rows_more c)) i 0
  unfolding rows_more
  starts_after c p m q i u =
      let long : length (set t n c) ≡ length t = length-set t n c in
      by_eq i (k + 1)
      (λ e.
      let v : n + 1 ≡ cells_at + length (flatten (rows_more c)) = omega (arith, ap length (sym (append-nil (flatten (rows_more c))) ∙ flat c), counted c, r.n_is) in
      rw e (start_stored (set t n c) p (n + 1) (k + 1) (omega arith) (omega arith) ∙ v ∙ sym (last_offset cells_at (rows_more c)) ∙ ap (λ (j : ℕ). get_or (offsets cells_at (rows_more c)) j 0) (one_more c)))
      (λ d.
      start_kept (set t n c) p (n + 1) i (λ e. d (omega arith))
      ∙ kept c i (omega arith) (omega arith) ∙ sym (offsets_kept r.done cells_at (r.cur ++ (c ∷ [])) i (omega (arith, r.k_is))))

  last : (c e p : ℕ) → at < e → e + 1 < length s → n + (k + 2) < length t → p ≡ length t - (k + 2)
      → cells_of (drop at s) ≡ last_then (some c) (cells_of (drop (e + 2) s))
      → Reading s t₀ (set (set t n c) p (n + 1)) (e + 2) (n + 1) (k + 1) false
  unfolding rows_more is_open
  last c e p a l m q g =
      record {
        done = rows_more c;
        cur = [];
        here = omega arith;
        answer = r.answer ∙ ap (resume r.done r.cur) g ∙ resume_last r.done r.cur c _;
        cells_are = rw (flat c) (after c p m q);
        starts_are = starts_after c p m q;
        n_is = omega (arith, ap length (flat c), counted c, r.n_is);
        k_is = one_more c;
        in_row_lem = refl;
        few_cells = omega (arith, r.few_cells);
        few_rows = omega (arith, r.few_rows);
        long = length-set (set t n c) p (n + 1) ∙ length-set t n c ∙ r.long;
        enough = simp length-set r.enough;
        small = r.small;
      }

  -- a field that `field` answers with: there is room for its cell, and for where its row ends
  pub more_turn : (c e : ℕ) → at < length s → field_at (drop at s) at ≡ Some (More c e) → MoreTurn s t₀ t at n k c e
  more_turn c e h g =
      let x = step_more s at h c e g in
      let room = room_more e x.1 x.2 in
      (x.1, x.2, room, more c e x.1 x.2 room x.0)

  pub last_turn : (c e : ℕ) → at < length s → field_at (drop at s) at ≡ Some (Last c e) → LastTurn s t₀ t at n k c e
  last_turn c e h g =
      let x = step_last s at h c e g in
      let room = room_last e x.1 x.2 in
      (x.1, x.2, room, λ p q. last c e p x.1 x.2 room q x.0)

  -- at the end of the sheet: between rows, the rows are all; inside one, the sheet is broken
  left_nil : length s ≤ at → cells_of (drop at s) ≡ some []
  unfolding cells_of cut every bind
  left_nil h = rw (drop_end s at h)

  pub at_end : length s ≤ at → in_row ≡ false → (cells_of s ≡ some r.done) × (r.cur ≡ [])
  at_end h z =
      let e = closed r.done r.cur (sym r.in_row_lem ∙ z) in
      (r.answer ∙ ap (resume r.done r.cur) (left_nil h) ∙ e.0, e.1)

  pub at_break : length s ≤ at → in_row ≡ true → cells_of s ≡ none
  at_break h z = r.answer ∙ ap (resume r.done r.cur) (left_nil h) ∙ broken_off r.done r.cur (sym r.in_row_lem ∙ z)

  pub at_unread : at < length s → field_at (drop at s) at ≡ None → cells_of s ≡ none
  at_unread h g = r.answer ∙ ap (resume r.done r.cur) (step_unread s at h g) ∙ resume_none r.done r.cur

-- ---- the answer

abbrev Answered : List ℕ → List ℕ → rust.Option ℕ → Type 0
Answered s t a =
    (a ≡ option_of (map length (cells_of s)))
    × ((rs : List (List ℕ)) → cells_of s ≡ some rs → Holds rs t)

pub answer_broken : (s t : List ℕ) → cells_of s ≡ none → Answered s t None
answer_broken s t e = (rw e, λ rs g. some_ne_none g e)

pub answer_whole : {s t₀ t : List ℕ} {at n k : ℕ} {in_row : Bool} → Reading s t₀ t at n k in_row → length s ≤ at → in_row ≡ false
    → Answered s t (Some k)
answer_whole {s} {t} {n} {k} r h z =
    let e = at_end r h z in
    let flat : flatten r.done ++ r.cur ≡ flatten r.done = ap (λ (c : List ℕ). flatten r.done ++ c) e.1 ∙ append-nil _ in
    let count : cells_at + length (flatten r.done) ≡ n = sym (ap (λ (l : List ℕ). cells_at + length l) flat) ∙ r.n_is in
    let held : Holds r.done t =
    record {
      cells_begin = sym (ap (λ (l : List ℕ). take (length l) (drop cells_at t)) flat) ∙ r.cells_are ∙ flat;
      starts_begin = λ i u. r.starts_are i (omega (arith, r.k_is));
      apart = omega (arith, count, r.k_is, room_end r);
      few_cells = omega (arith, count, r.few_cells, r.here);
      few_rows = omega (arith, r.k_is, r.few_rows, r.here);
    } in
    let same : (rs : List (List ℕ)) → cells_of s ≡ some rs → r.done ≡ rs = λ rs g. some-injective _ _ (sym e.0 ∙ g) in
    (rw (e.0, r.k_is), λ rs g. rw (← same rs g) held)
