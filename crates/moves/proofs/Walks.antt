-- For specs/Walks.antt: a walk in its tables may be asked to count less, and its record alone may change. Assumes nothing.
use mathlib.Core.Path.{◌≡◌, sym, ◌∙◌, ap}
use mathlib.Core.List.{List}
use Prim.Native.Nat.{ℕ, ◌≤◌}
use native.Mathlib.Omega.{arith}
use Rattle.rules.specs.Record.{Record}
use Rattle.rules.specs.Forward.{Walk, with_rec}
use Rattle.record.specs.Flat.{record_of}
use Rattle.record.specs.declared.flat.WalkRecord.{WalkRecord}
use Rattle.moves.specs.Walks.{Written, Walked}

module _ {t edits places counts : List ℕ} {w : Walk} where
  pub written_fewer : {n : ℕ} (m : ℕ) → m ≤ n → Written t edits places counts n w → Written t edits places counts m w
  written_fewer m h c = record { edit_room = c.edit_room; place_room = c.place_room; in_cells = c.in_cells; few = λ k. omega (arith, c.few k); is_counts = c.is_counts }

  pub written_at : {edits' places' counts' : List ℕ} {n : ℕ} → edits' ≡ edits → places' ≡ places → counts' ≡ counts → Written t edits places counts n w → Written t edits' places' counts' n w
  written_at p q r c = rw (p, q, r) c

  pub written_rec : {n : ℕ} (f : Record → Record) → Written t edits places counts n w → Written t edits places counts n (with_rec f w)
  written_rec f c = record { edit_room = c.edit_room; place_room = c.place_room; in_cells = c.in_cells; few = c.few; is_counts = c.is_counts }

  pub walked_fewer : {rec : WalkRecord} {n : ℕ} (m : ℕ) → m ≤ n → Walked t rec edits places counts n w → Walked t rec edits places counts m w
  walked_fewer m h x = record { is_rec = x.is_rec; cells = written_fewer m h x.cells }

  pub walked_with : {rec rec' : WalkRecord} {n : ℕ} (f : Record → Record) → record_of rec' ≡ f (record_of rec) → Walked t rec edits places counts n w
      → Walked t rec' edits places counts n (with_rec f w)
  walked_with f p x = record { is_rec = ap f x.is_rec ∙ sym p; cells = written_rec f x.cells }
