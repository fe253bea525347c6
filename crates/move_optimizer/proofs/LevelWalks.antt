-- The walks over all blocks, and the levels: `optimise_handed`, `local`, `forward`, `global` and `optimise` of src/levels.rt do what the rules
-- `optimise_all`, `forward_block`, `global_walk` and `optimise` say. A block's own walk is BlockWalks', the visits of level `Global` are Visits'.
-- Assumes nothing.
use mathlib.Core.Path.{◌≡◌, refl, sym, ap, ◌∙◌}
use mathlib.Core.List.{List}
use mathlib.Core.Option
use mathlib.Core.Option.{Option, none}
use Prim.Native.Nat.{ℕ, ◌+◌, ◌-◌, ◌*◌, ◌≤◌, ◌<◌}
use native.Mathlib.Omega.{arith}
use lib.ListN.{get_or}
use Rattle.laws.specs.Fold.{run}
use Rattle.laws.specs.Lists.{from}
use Rattle.bits.specs.declared.sets.NumberSet.{NumberSet}
use Rattle.entity.specs.declared.forms.Edit.{Edit}
use Rattle.entity.specs.declared.forms.Level.{Level}
use Rattle.rules.specs.Sheet.{Sheet, block_count}
use Rattle.rules.specs.Record.{Record, Known, nothing}
use Rattle.rules.specs.Forward.{Walk, Handed, with_rec, take_in, enter, begun, optimise_block, prepare_block, hand_on, forward_block, forward_start, optimise_all, visits, most_visits, global_start, global_walk, optimise}
use Rattle.table.specs.Sheet.{sheet_in}
use Rattle.table.specs.Index.{Ready}
use Rattle.rules.proofs.Refusals.{in_limits}
use Rattle.record.specs.Flat.{record_of}
use Rattle.record.specs.declared.flat.WalkRecord.{WalkRecord}
use Rattle.states.specs.States.{state_in, states_in, Lies}
use Rattle.states.proofs.Cells.{states_at}
use Rattle.moves.specs.Walks.{Written, Walked, entered, optimised, prepared, all_most, block_most, walk_most}
use Rattle.move_optimizer.specs.Levels.{Stands, Rests}
use Rattle.moves.proofs.Walks.{written_fewer, walked_fewer, walked_with}
use Rattle.move_optimizer.proofs.BlockWalks.{Passing, passing_again, passing_end}

-- ---- a block, with what it begins with

module _ (sh : Sheet) (b : ℕ) (k : Known) where
  block_is : (w : Walk) → optimise_block sh b k w ≡ optimised sh b (with_rec (take_in sh k) w)
  unfolding optimise_block optimised enter entered
  block_is w = refl

  pub prepare_is : (es : List Edit) (s : Record) → prepare_block sh b es k s ≡ prepared sh b es (take_in sh k s)
  unfolding prepare_block prepared enter entered
  prepare_is es s = refl

-- what is taken in is what the block begins with
pub begun_is : (sh : Sheet) {n b : ℕ} (states : List ℕ) (h : Handed) → states_in states n ≡ h.states → b < n → Option.get_or (state_in states b) nothing ≡ begun sh h b
unfolding begun
begun_is sh {n} {b} states h e u =
    ap (λ (o : Option Known). Option.get_or o nothing) (sym (states_at states n b u) ∙ ap (λ (l : List (Option Known)). get_or l b none) e)

-- a step of the walk, within a block's budget
abbrev pub Turns : List ℕ → WalkRecord → List ℕ → List ℕ → List ℕ → WalkRecord → List ℕ → List ℕ → List ℕ → (Walk → Walk) → Type 0
Turns t rec edits places counts rec' edits' places' counts' f =
    (n : ℕ) (w : Walk) → Walked t rec edits places counts (n + block_most) w → Walked t rec' edits' places' counts' n (f w)

module _ {t : List ℕ} {rec rec' : WalkRecord} {edits places counts edits' places' counts' : List ℕ} (b : ℕ) where
  pub block_taken : {rec₁ : WalkRecord} (k : Known) → record_of rec₁ ≡ take_in (sheet_in t) k (record_of rec)
      → Turns t rec₁ edits places counts rec' edits' places' counts' (optimised (sheet_in t) b) → Turns t rec edits places counts rec' edits' places' counts' (optimise_block (sheet_in t) b k)
  block_taken k p q n w x = rw (block_is (sheet_in t) b k w) (q n (with_rec (take_in (sheet_in t) k) w) (walked_with (take_in (sheet_in t) k) p x))

  pub block_begun : {to : ℕ} (states : List ℕ) (h : Handed) → states_in states (block_count (sheet_in t)) ≡ h.states → b < to → to ≡ block_count (sheet_in t)
      → Turns t rec edits places counts rec' edits' places' counts' (optimise_block (sheet_in t) b (Option.get_or (state_in states b) nothing))
      → Turns t rec edits places counts rec' edits' places' counts' (optimise_block (sheet_in t) b (begun (sheet_in t) h b))
  block_begun states h e u d q n w x = let l : b < block_count (sheet_in t) = omega arith in rw (← begun_is (sheet_in t) states h e l) (q n w x)

-- ---- each block in turn

module _ (sh : Sheet) (k : ℕ → Known) where
  abbrev pub blockwise : Walk → ℕ → Walk
  blockwise x b = optimise_block sh b (k b) x

module _ {t : List ℕ} {rec : WalkRecord} {edits places counts : List ℕ} where
  pub block_next : (k : ℕ → Known) {rec' : WalkRecord} {edits' places' counts' : List ℕ} {n b to : ℕ} {e : Walk} → b < to
      → Turns t rec edits places counts rec' edits' places' counts' (optimise_block (sheet_in t) b (k b))
      → Passing (Walked t rec edits places counts) (blockwise (sheet_in t) k) block_most n b to e → Passing (Walked t rec' edits' places' counts') (blockwise (sheet_in t) k) block_most n (b + 1) to e
  block_next k {n = n} {b = b} {to = to} h q x = passing_again (blockwise (sheet_in t) k) block_most n b to h q x

  pub blocks_start : {to : ℕ} → Ready t → to ≡ block_count (sheet_in t) → (n : ℕ) (w : Walk) → Walked t rec edits places counts (n + all_most) w
      → Walked t rec edits places counts (n + block_most * (to - 0)) w
  blocks_start {to} g e n w x = walked_fewer (n + block_most * (to - 0)) (omega (arith, (in_limits (sheet_in t) g.limits).few_blocks)) x

  pub blocks_end : (k : ℕ → Known) {n b to : ℕ} (w : Walk) → to ≡ block_count (sheet_in t) → to ≤ b
      → Passing (Walked t rec edits places counts) (blockwise (sheet_in t) k) block_most n b to (run (blockwise (sheet_in t) k) w (from 0 (to - 0))) → Walked t rec edits places counts n (optimise_all (sheet_in t) k w)
  unfolding optimise_all
  blocks_end k {n} {b} {to} w e h x =
      let z : to - 0 ≡ block_count (sheet_in t) = omega arith in
      rw (← z) (walked_fewer n (omega arith) (passing_end (blockwise (sheet_in t) k) block_most n b to h x))

  pub is_local : {n : ℕ} (w : Walk) → Walked t rec edits places counts n (optimise_all (sheet_in t) (λ b. nothing) w) → Walked t rec edits places counts n (optimise (sheet_in t) Level.Local w)
  unfolding optimise
  is_local w x = x

pub global_end : {t : List ℕ} {rec₁ rec : WalkRecord} {states edits₁ places₁ counts₁ edits places counts : List ℕ} {n b to : ℕ} (w : Walk) → Ready t → to ≡ block_count (sheet_in t) → to ≤ b
    → Rests t rec₁ states edits₁ places₁ counts₁ (n + all_most) (visits (sheet_in t) (most_visits (sheet_in t)) (w, global_start (sheet_in t)))
    → ((h : Handed) → states_in states (block_count (sheet_in t)) ≡ h.states → (m : ℕ) (w : Walk) → Walked t rec₁ edits₁ places₁ counts₁ (m + block_most * (to - 0)) w
    → Passing (Walked t rec edits places counts) (blockwise (sheet_in t) (begun (sheet_in t) h)) block_most m b to (run (blockwise (sheet_in t) (begun (sheet_in t) h)) w (from 0 (to - 0))))
    → Walked t rec edits places counts n (optimise (sheet_in t) Level.Global w)
unfolding optimise global_walk
global_end {t} {n = n} w g d h y x =
    let wh : Walk × Handed = visits (sheet_in t) (most_visits (sheet_in t)) (w, global_start (sheet_in t)) in
    blocks_end (begun (sheet_in t) wh.1) wh.0 d h (x wh.1 y.are n wh.0 (blocks_start g d n wh.0 y.walked))

-- ---- and each hands on

module _ {t : List ℕ} {rec : WalkRecord} {states edits places counts : List ℕ} {w : NumberSet} where
  module _ {rec' : WalkRecord} {states' edits' places' counts' : List ℕ} {w' : NumberSet} {b to : ℕ} (u : b < to) (d : to ≡ block_count (sheet_in t))
      (q : Turns t rec edits places counts rec' edits' places' counts' (optimise_block (sheet_in t) b (Option.get_or (state_in states b) nothing)))
      (o : (h : Handed) → Lies (block_count (sheet_in t)) states w h → Lies (block_count (sheet_in t)) states' w' (hand_on (sheet_in t) b (record_of rec') h)) where
    forward_step : (m : ℕ) (s : Walk × Handed) → Stands t rec states edits places counts w (m + block_most) s → Stands t rec' states' edits' places' counts' w' m (forward_block (sheet_in t) s b)
    unfolding forward_block
    forward_step m s y =
        let z = block_begun b states s.1 y.lies.are u d q m s.0 y.walked in
        record { walked = z; lies = rw z.is_rec (o s.1 y.lies) }

    pub forward_next : {n : ℕ} {e : Walk × Handed} → Passing (Stands t rec states edits places counts w) (forward_block (sheet_in t)) block_most n b to e
        → Passing (Stands t rec' states' edits' places' counts' w') (forward_block (sheet_in t)) block_most n (b + 1) to e
    forward_next {n} x = passing_again (forward_block (sheet_in t)) block_most n b to u forward_step x

pub forward_begin : {t : List ℕ} {rec : WalkRecord} {states edits places counts : List ℕ} {w : NumberSet} {to : ℕ} → Ready t → to ≡ block_count (sheet_in t) → Lies (block_count (sheet_in t)) states w (forward_start (sheet_in t)) → (n : ℕ) (x : Walk)
    → Walked t rec edits places counts (n + all_most) x → Stands t rec states edits places counts w (n + block_most * (to - 0)) (x, forward_start (sheet_in t))
forward_begin {t} {to = to} g e l n x y = record { walked = walked_fewer (n + block_most * (to - 0)) (omega (arith, (in_limits (sheet_in t) g.limits).few_blocks)) y; lies = l }

pub forward_end : {t : List ℕ} {rec : WalkRecord} {states edits places counts : List ℕ} {w : NumberSet} {n b to : ℕ} (x : Walk) → to ≡ block_count (sheet_in t) → to ≤ b
    → Passing (Stands t rec states edits places counts w) (forward_block (sheet_in t)) block_most n b to (run (forward_block (sheet_in t)) (x, forward_start (sheet_in t)) (from 0 (to - 0)))
    → Walked t rec edits places counts n (optimise (sheet_in t) Level.Forward x)
unfolding optimise
forward_end {t} {n = n} {b = b} {to = to} x e h y =
    let z : to - 0 ≡ block_count (sheet_in t) = omega arith in
    rw z at (walked_fewer n (omega arith) (passing_end (forward_block (sheet_in t)) block_most n b to h y).walked)

-- ---- the levels

module _ {t edits places counts : List ℕ} {level : Level} where
  pub is_off : level ≡ Level.Off → (n : ℕ) (w : Walk) → Written t edits places counts (n + walk_most) w → Written t edits places counts n (optimise (sheet_in t) level w)
  unfolding optimise
  is_off q n w x = rw q (written_fewer n (omega arith) x)

  pub is_level : {l : Level} {rec : WalkRecord} {n : ℕ} (w : Walk) → level ≡ l → Walked t rec edits places counts n (optimise (sheet_in t) l w) → Written t edits places counts n (optimise (sheet_in t) level w)
  is_level w q x = rw q x.cells
