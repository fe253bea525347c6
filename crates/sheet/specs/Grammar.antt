-- `row_ok` and `pair_ok` of rules by a row's kind and first field, and the shapes of rules apart.
use Rattle.std.specs.Prelude.{ℕ, Bool, false, ◌&&◌, ◌||◌, List, eqb, ltb}
use Rattle.std.proofs.Math.Option.{Option-elim}
use Rattle.rules.specs.Rows.{Shape, number, dash, place, constraint, only, ◌up_to◌, end, ◌▸◌, fits, kinds, kind_from, begins, goes_on}

-- an operand; and the four sorts of edit
unfoldable pub plain_op : Shape
plain_op = number ▸ "def" up_to "earlyg" ▸ number ▸ constraint ▸ place ▸ end

unfoldable pub fixed_op : Shape
fixed_op = number ▸ only "fixed" ▸ dash ▸ constraint ▸ place ▸ end

unfoldable pub move_edit : Shape
move_edit = number ▸ only "move" ▸ place ▸ place ▸ number ▸ end

unfoldable pub remat_edit : Shape
remat_edit = number ▸ only "remat" ▸ place ▸ dash ▸ number ▸ end

unfoldable pub pair_edit : Shape
pair_edit = number ▸ "espill" up_to "ereload" ▸ place ▸ place ▸ dash ▸ end

unfoldable pub none_edit : Shape
none_edit = number ▸ only "none" ▸ dash ▸ dash ▸ dash ▸ end

-- cs may stand after the word c
unfoldable pub fits_kind : ℕ → List ℕ → Bool
fits_kind c cs = Option-elim (kind_from kinds c) false (λ k. fits k.shape cs)

-- a first field n of kind c, where it begins and after a first field x
unfoldable pub begins_kind : ℕ → ℕ → Bool
begins_kind c n = Option-elim (kind_from kinds c) false (λ k. begins k.order n)

unfoldable pub goes_on_kind : ℕ → ℕ → ℕ → Bool
goes_on_kind c x n = Option-elim (kind_from kinds c) false (λ k. goes_on k.order x n)

-- a row of kind c with first field n may follow one of kind p with first field x
unfoldable pub follows : ℕ → ℕ → ℕ → ℕ → Bool
follows p x c n = Option-elim (kind_from kinds c) false (λ k. (ltb p c && begins k.order n) || (eqb p c && goes_on k.order x n))
