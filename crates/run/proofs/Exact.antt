-- For rules/specs/Brought.antt and the sweep's exactness: a slot is wanted exactly where its content is brought on.
--     adds_read, read_adds      the two ways to say that an operation reads a slot for good
--     moves_moved, moved_moves, ends_lost, lost_ends    and that it moves content on, and that it ends it
--     sends_goes, goes_sends    the two ways to say where content is after an operation
--     wanted_brought            by induction on `Wanted`
--     walk_wanted               by induction on the walk, and in it on a block's operations
use mathlib.Core.Path.{◌≡◌, refl, sym, ap}
use mathlib.Core.Logic.{inl, inr, ⊎_elim, ◌↔◌}
use mathlib.Core.List.{List, [], ◌∷◌, ◌++◌, flat_map}
use Prim.Native.Nat.{ℕ, suc}
use lib.ListN.{drop}
use native.Mathlib.Decide.{ℕ_discrete}
use native.Mathlib.Omega.{arith}
use Rattle.entity.specs.declared.forms.Place.{Place}
use Rattle.entity.specs.declared.forms.Place.TheVariants.{Reg, Slot}
use Rattle.entity.specs.declared.forms.Edit.TheVariants.{Move, Remat, Espill, Ereload, Misplaced, Nothing}
use Rattle.rules.specs.Function.{Op, edit, inst, Func, ops_of, slot_of, slots_of, Target, into, over, target, reads, In, Left, IsWalk, stop, next, along}
use Rattle.rules.specs.Sweep.{Adds, Takes, Moves, Sends, moves, stays, Wanted, added, sent, from_next}
use Rattle.rules.specs.Brought.{SlotIn, ReadBy, used, loaded, reloaded, Ends, defined, stored, copied, made, spilled, MovesOn, on, GoesOn, moved, rests, ReadAlong, BroughtOn}
use Rattle.run.proofs.Lists.{drop_next, start, rest_of}

-- what `target` and `reads` say of an operation, and what document 01 says of it in words
one : (s q : ℕ) → In s (q ∷ []) ↔ (s ≡ q)
one s q = (⊎_elim (λ e. e) (λ x. absurd x), inl)

abbrev number_of : Place → ℕ
number_of (Reg r) = 0
number_of (Slot s) = s.0

slot_in : (ps : List Place) (s : ℕ) → In s (slots_of ps) ↔ SlotIn s ps
unfolding flat_map slot_of
slot_in [] s = (λ a. a, λ a. a)
slot_in (Reg r ∷ ps) s =
    let ih = slot_in ps s in
    (λ a. inr (ih.0 a), ⊎_elim (λ q. let z : ◌≡◌ {A = ℕ} 0 1 = cc in absurd (omega arith)) ih.1)
slot_in (Slot d ∷ ps) s =
    let ih = slot_in ps s in
    (⊎_elim (λ e. inl (ap (λ n. Slot (record { 0 = n })) (sym e))) (λ a. inr (ih.0 a)), ⊎_elim (λ q. inl (ap number_of (sym q))) (λ a. inr (ih.1 a)))

adds_read : (o : Op) (s : ℕ) → Adds (target o) (reads o) s → ReadBy s o
unfolding slot_of
adds_read (inst n) s a = used a
adds_read (edit (Move (Reg r) (Reg q) v)) s a = absurd a
adds_read (edit (Move (Reg r) (Slot q) v)) s a = loaded ((one s q.0).0 a)
adds_read (edit (Move (Slot d) p v)) s a = absurd a
adds_read (edit (Remat (Reg r) v)) s a = absurd a
adds_read (edit (Remat (Slot d) v)) s a = absurd a
adds_read (edit (Espill d r)) s a = absurd a
adds_read (edit (Ereload r q)) s a = reloaded ((one s q.0).0 a)
adds_read (edit (Misplaced to p)) s a = absurd a
adds_read (edit Nothing) s a = absurd a

read_adds : {o : Op} {s : ℕ} → ReadBy s o → Adds (target o) (reads o) s
unfolding slot_of
read_adds (used h) = h
read_adds (loaded e) = inl e
read_adds (reloaded e) = inl e

moves_moved : (o : Op) (e s : ℕ) → Moves (target o) (reads o) e s → MovesOn s e o
unfolding slot_of
moves_moved (inst n) e s a = absurd a
moves_moved (edit (Move (Reg r) p v)) e s a = absurd a
moves_moved (edit (Move (Slot d) (Reg r) v)) e s a = absurd a.1
moves_moved (edit (Move (Slot d) (Slot q) v)) e s a = on ((one s q.0).0 a.1) a.0
moves_moved (edit (Remat (Reg r) v)) e s a = absurd a
moves_moved (edit (Remat (Slot d) v)) e s a = absurd a.1
moves_moved (edit (Espill d r)) e s a = absurd a
moves_moved (edit (Ereload r q)) e s a = absurd a
moves_moved (edit (Misplaced to p)) e s a = absurd a
moves_moved (edit Nothing) e s a = absurd a

moved_moves : {o : Op} {e s : ℕ} → MovesOn s e o → Moves (target o) (reads o) e s
unfolding slot_of
moved_moves (on p q) = (q, inl p)

-- content ends in a slot that is written, unless it is moved from there to there
abbrev Lost : Target → List ℕ → ℕ → Type 0
Lost (into d) rs s = (s ≡ d) × (In s rs → ⊥)
Lost (over ds) rs s = In s ds

ends_lost : {o : Op} {s : ℕ} → Ends s o → Lost (target o) (reads o) s
unfolding slot_of
ends_lost {s} (defined {n = n} h) = (slot_in n.defs s).1 h
ends_lost (stored e) = (e, λ x. x)
ends_lost {s} (copied {q = q} e n) = (e, λ x. n ((one s q.0).0 x))
ends_lost (made e) = (e, λ x. x)
ends_lost (spilled e) = inl e

lost_ends : (o : Op) (s : ℕ) → Lost (target o) (reads o) s → Ends s o
unfolding slot_of
lost_ends (inst n) s a = defined ((slot_in n.defs s).0 a)
lost_ends (edit (Move (Reg r) p v)) s a = absurd a
lost_ends (edit (Move (Slot d) (Reg r) v)) s a = stored a.0
lost_ends (edit (Move (Slot d) (Slot q) v)) s a = copied a.0 (λ x. a.1 (inl x))
lost_ends (edit (Remat (Reg r) v)) s a = absurd a
lost_ends (edit (Remat (Slot d) v)) s a = made a.0
lost_ends (edit (Espill d r)) s a = spilled ((one s d.0).0 a)
lost_ends (edit (Ereload r q)) s a = absurd a
lost_ends (edit (Misplaced to p)) s a = absurd a
lost_ends (edit Nothing) s a = absurd a

in_or_not : (s : ℕ) (qs : List ℕ) → Dec (In s qs)
in_or_not s [] = no (λ x. x)
in_or_not s (q ∷ qs) = go (ℕ_discrete s q) (in_or_not s qs)
  where
    go : Dec (s ≡ q) → Dec (In s qs) → Dec (In s (q ∷ qs))
    go (yes a) _ = yes (inl a)
    go (no n) (yes a) = yes (inr a)
    go (no n) (no m) = no (⊎_elim n m)

lost_takes : (t : Target) (rs : List ℕ) (s : ℕ) → Lost t rs s → Takes t s
lost_takes (into d) rs s h = h.0
lost_takes (over ds) rs s h = h

sends_goes : (o : Op) (e s : ℕ) → Sends (target o) (reads o) e s → GoesOn o s e
sends_goes o e s (moves m) = moved (moves_moved o e s m)
sends_goes o e s (stays n q) = rests (λ x. n (rw q at (lost_takes (target o) (reads o) s (ends_lost x)))) (sym q)

-- content that does not end in s stays there, or is moved from s to s
rests_sends : (t : Target) (rs : List ℕ) (s : ℕ) → (Lost t rs s → ⊥) → Sends t rs s s
rests_sends (over ds) rs s h = stays h refl
rests_sends (into d) rs s h = go (ℕ_discrete s d) (in_or_not s rs)
  where
    go : Dec (s ≡ d) → Dec (In s rs) → Sends (into d) rs s s
    go (no n) _ = stays n refl
    go (yes a) (yes c) = moves (a, c)
    go (yes a) (no n) = absurd (h (a, n))

goes_sends : (o : Op) (s e : ℕ) → GoesOn o s e → Sends (target o) (reads o) e s
goes_sends o s e (moved m) = moves (moved_moves m)
goes_sends o s e (rests n q) = rw q (rests_sends (target o) (reads o) s (λ x. n (lost_ends o s x)))

module _ (f : Func) where
  wanted_brought : {b i s : ℕ} → Wanted f b i s → BroughtOn f b i s
  unfolding along
  wanted_brought (added {s = s} {o = o} l a) = ([], stop, rw l (inl (adds_read o s a)))
  wanted_brought (sent {b = b} {i = i} {e = e} {s = s} {o = o} {os = os} l x y) =
      let w = wanted_brought y in
      (w.0, w.1, rw l (inr (e, sends_goes o e s x, rw (drop_next (ops_of f b) i o os l) at w.2)))
  wanted_brought (from_next {t = t} l m y) =
      let w = wanted_brought y in
      (t ∷ w.0, next m w.1, rw l w.2)

  -- what is read in the rest of a block, or in what follows it
  module _ (b : ℕ) (rs : List Op) (k : (i : ℕ) → Left f b i [] → (s : ℕ) → ReadAlong rs s → Wanted f b i s) where
    ops_wanted : (os : List Op) (i : ℕ) → Left f b i os → (s : ℕ) → ReadAlong (os ++ rs) s → Wanted f b i s
    ops_wanted [] i l s r = k i l s r
    ops_wanted (o ∷ os) i l s r =
        ⊎_elim
        (λ a. added l (read_adds a))
        (λ w. sent l (goes_sends o s w.0 w.1) (ops_wanted os (suc i) (drop_next (ops_of f b) i o os l) w.0 w.2))
        r

  walk_wanted : {w : List ℕ} → IsWalk f w → (i s : ℕ) → ReadAlong (drop i (ops_of f (start w)) ++ along f (rest_of w)) s → Wanted f (start w) i s
  unfolding along
  walk_wanted (stop {b = b}) i s r = ops_wanted b [] (λ i l s r. absurd r) (drop i (ops_of f b)) i refl s r
  walk_wanted (next {b = b} {t = t} {w = w} m x) i s r =
      let ih = walk_wanted x in
      ops_wanted b (along f (t ∷ w)) (λ i l s r. from_next l m (ih 0 s r)) (drop i (ops_of f b)) i refl s r

  pub wanted_is_brought : (b i s : ℕ) → Wanted f b i s ↔ BroughtOn f b i s
  wanted_is_brought b i s = (wanted_brought, λ w. walk_wanted w.1 i s w.2)
