-- Document 01, "The sweep": which slots are wanted at each position, to the smallest solution, which edits are removed, and what is counted.
-- `Wanted` and `SweptOp` say it; from `with` to `strike_blocks` the same is computed.
use Rattle.std.specs.Prelude.{◌≡◌, Bool, true, false, cond, not, ◌&&◌, ℕ, zero, suc, ◌+◌, ◌*◌, eqb, length, get_or, set}
use mathlib.Core.List.{List, [], ◌∷◌, map, zip}
use Rattle.laws.specs.Fold.{run}
use Rattle.laws.specs.Lists.{all, keep, is_in}
use Rattle.entity.specs.Limits.{slot_limit}
use Rattle.rules.specs.Sheet.{Place, Edit, Move, Remat, Espill, Ereload, Misplaced, Nothing, Sheet}
use Rattle.rules.specs.Forward.{Walk, count, dead_spill, dead_remat, blocks}
use Rattle.rules.specs.Function.{Op, edit, Func, next_of, Target, into, over, target, reads, Item, row, ins, items, look, func_of, In, Left}

-- ---- the smallest relation: of an operation that has target t and reads the slots rs

-- wanted before it whatever is wanted after: "adds slots its `use` operands read"; "reload adds its slot"; the source of a move to a register
abbrev pub Adds : Target → List ℕ → ℕ → Type 0
Adds (into d) rs s = ⊥
Adds (over ds) rs s = In s rs

-- "an instruction takes its defined slots away"; "a move or remat takes its target away"; "spill takes it away"
abbrev pub Takes : Target → ℕ → Type 0
Takes (into d) s = s ≡ d
Takes (over ds) s = In s ds

-- it puts slot s into slot e: "a move then adds its source"
abbrev pub Moves : Target → List ℕ → ℕ → ℕ → Type 0
Moves (into d) rs e s = (e ≡ d) × In s rs
Moves (over ds) rs e s = ⊥

-- s is wanted before it where e is wanted after it
pub data Sends (t : Target) (rs : List ℕ) (e s : ℕ) : Type 0 where
  moves : Moves t rs e s → Sends t rs e s
  stays : (Takes t e → ⊥) → s ≡ e → Sends t rs e s

-- slot s is wanted at position i of block b: "Backward, to the smallest solution"
pub data Wanted (f : Func) : ℕ → ℕ → ℕ → Type 0 where
  added : {b i s : ℕ} {o : Op} {os : List Op} → Left f b i (o ∷ os) → Adds (target o) (reads o) s → Wanted f b i s
  sent : {b i e s : ℕ} {o : Op} {os : List Op} → Left f b i (o ∷ os) → Sends (target o) (reads o) e s → Wanted f b (suc i) e → Wanted f b i s
  from_next : {b i t s : ℕ} → Left f b i [] → In t (next_of f b) → Wanted f t 0 s → Wanted f b i s

-- an edit into slot s
abbrev pub Into : Target → ℕ → Type 0
Into (into d) s = s ≡ d
Into (over ds) s = ⊥

-- "An edit into a slot not wanted does nothing and is removed." What becomes of the operation at position i of block b.
pub data SweptOp (f : Func) (b i : ℕ) (o o' : Op) : Type 0 where
  removed : (s : ℕ) → Into (target o) s → (Wanted f b (suc i) s → ⊥) → o' ≡ edit Nothing → SweptOp f b i o o'
  kept : ((s : ℕ) → Into (target o) s → Wanted f b (suc i) s) → o' ≡ o → SweptOp f b i o o'

-- ---- the counts

unfoldable pub is_nothing : Edit → Bool
is_nothing e = elim e [ Nothing ↦ true | Move to p v ↦ false | Remat to v ↦ false | Espill d r ↦ false | Ereload r q ↦ false | Misplaced to p ↦ false ]

-- "the sweep counts a move as dead spill, a remat as dead remat"
unfoldable pub struck : List ℕ → Edit × Edit → List ℕ
struck counts ee =
    elim (is_nothing ee.1) [
      | true ↦ elim ee.0 [ Move to p v ↦ count dead_spill counts | Remat to v ↦ count dead_remat counts | Espill d r ↦ counts | Ereload r q ↦ counts | Misplaced to p ↦ counts | Nothing ↦ counts ]
      | false ↦ counts
    ]

-- ---- the slots wanted before operations, sets of slots as lists
-- computed; proved equal to `Wanted` by run::wanted_is_computed: a reader can skip it

unfoldable pub with : ℕ → List ℕ → List ℕ
with q A = cond (is_in q A) A (q ∷ A)

unfoldable pub with_all : List ℕ → List ℕ → List ℕ
with_all qs A = run (λ B q. with q B) A qs

unfoldable pub without_all : List ℕ → List ℕ → List ℕ
without_all ds A = keep (λ s. not (is_in s ds)) A

unfoldable pub wanted_by : Target → List ℕ → List ℕ → List ℕ
wanted_by (into d) rs A = cond (is_in d A) (with_all rs (without_all (d ∷ []) A)) A
wanted_by (over ds) rs A = with_all rs (without_all ds A)

-- the slots wanted before an operation, where those of A are wanted after it
unfoldable pub wanted_before : Op → List ℕ → List ℕ
wanted_before o A = wanted_by (target o) (reads o) A

unfoldable pub wanted_at : List Op → List ℕ → List ℕ
wanted_at [] A = A
wanted_at (o ∷ os) A = wanted_before o (wanted_at os A)

-- ---- the smallest solution at the ends of blocks
-- computed; proved equal to `Wanted` at the starts of successors by run::ends_are_the_smallest: a reader can skip it

-- the slots wanted at the end of each block, where `starts` are wanted at the starts
unfoldable pub ends_from : Func → List (List ℕ) → List (List ℕ)
ends_from f starts = map (λ ts. run (λ A t. with_all (get_or starts t []) A) [] ts) f.succs

unfoldable pub starts_from : ℕ → List (List Op) → List (List ℕ) → List (List ℕ)
starts_from b [] ends = []
starts_from b (os ∷ bs) ends = wanted_at os (get_or ends b []) ∷ starts_from (suc b) bs ends

-- each set of the second list is part of that of the first
unfoldable pub no_more : List (List ℕ) → List (List ℕ) → Bool
no_more Xs [] = true
no_more [] (Y ∷ Ys) = eqb (length Y) 0 && no_more [] Ys
no_more (X ∷ Xs) (Y ∷ Ys) = all (λ s. is_in s X) Y && no_more Xs Ys

-- from nothing wanted at the ends, until nothing more is: each round but the last adds one slot to one block
unfoldable pub settle : Func → ℕ → List (List ℕ) → List (List ℕ)
settle f zero ends = ends
settle f (suc n) ends =
    let more = ends_from f (starts_from 0 f.blocks ends) in
    elim (no_more ends more) [ true ↦ ends | false ↦ settle f n more ]

unfoldable pub ends : Func → List (List ℕ)
ends f = settle f (length f.blocks * slot_limit + 1) (map (λ ts. []) f.succs)

-- ---- the rows
-- computed; proved equal to `SweptOp` by run::computed_rows_are_swept: a reader can skip it

unfoldable pub strike_by : Target → Edit → List ℕ → Edit
strike_by (into d) e A = cond (is_in d A) e Nothing
strike_by (over ds) e A = e

unfoldable pub strike : Edit → List ℕ → Edit
strike e A = strike_by (target (edit e)) e A

module _ (sh : Sheet) (places : List Place) (es : List Edit) where
  -- the rows of what is left of a block, each struck by what is wanted after it, where A is wanted at the block's end
  unfoldable pub strike_items : List Item → List ℕ → List Edit → List Edit
  strike_items [] A now = now
  strike_items (row j ∷ l) A now = set (strike_items l A now) j (strike (get_or es j Nothing) (wanted_at (map (look sh places es) l) A))
  strike_items (ins i ∷ l) A now = strike_items l A now

  unfoldable pub strike_blocks : List (List ℕ) → List Edit
  strike_blocks A = run (λ now b. strike_items (items sh b) (get_or A b []) now) es (blocks sh)

-- ---- the sweep: the edits are those swept, by run::sweep_is_computed

unfoldable pub sweep : Sheet → Walk → Walk
sweep sh w =
    let es = strike_blocks sh w.places w.edits (ends (func_of sh w.places w.edits)) in
    record { rec = w.rec; edits = es; places = w.places; counts = run struck w.counts (zip w.edits es) }
