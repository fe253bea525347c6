-- For `ends` of rules/specs/Sweep.antt: its rounds stop at the smallest solution, before their bound.
--     round_back     what one round finds at the end of a block
--     gap            how many slots below the limit the blocks' ends lack: it falls at each round that goes on
--     settle_ends    where the gap is below the rounds left, what the rounds give is what is wanted at the ends
use mathlib.Core.Path.{◌≡◌, refl, sym, ◌∙◌}
use mathlib.Core.Logic.{◌⊎◌, inl, inr, ⊎_elim, ◌↔◌}
use mathlib.Core.Bool.{Bool, true, false, cond}
use mathlib.Core.List.{List, [], ◌∷◌, map}
use Prim.Native.Nat.{ℕ, zero, suc, ◌+◌, ◌*◌, ◌≤◌, ◌<◌}
use native.Mathlib.Omega.{arith}
use lib.ListN.{length, get_or, length-map, get_or-map, get_or-eq_default}
use Rattle.laws.specs.Fold.{run}
use Rattle.laws.specs.Lists.{all, is_in}
use Rattle.laws.proofs.Cases.{by_bool, by_eq}
use Rattle.entity.specs.Limits.{slot_limit}
use Rattle.rules.specs.Function.{Op, Func, ops_of, next_of, In, Target, into, over, target, reads}
use Rattle.rules.specs.Sweep.{Adds, Moves, moves, stays, Wanted, added, sent, from_next, with_all, wanted_at, ends_from, starts_from, no_more, settle, ends}
use Rattle.run.specs.Swept.{WantedAtEnd, ReadsWithin}
use Rattle.run.specs.Theorem.{Agreement}
use Rattle.run.proofs.Sets.{is_in_lem, with_all_in}
use Rattle.run.proofs.Back.{BackAll, back_all_mono, at_back, Closed, end_closed, end_least}
use Rattle.run.proofs.Lists.{all_true}

-- ---- one round

starts_at : (bs : List (List Op)) (k : ℕ) (E : List (List ℕ)) (t : ℕ) → length E ≤ k + length bs → get_or (starts_from k bs E) t [] ≡ wanted_at (get_or bs t []) (get_or E (k + t) [])
unfolding starts_from wanted_at
starts_at [] k E t h = let l : length E ≤ k + t = omega arith in sym (get_or-eq_default E [] l)
starts_at (os ∷ bs) k E zero h = let e : k + 0 ≡ k = omega arith in rw e
starts_at (os ∷ bs) k E (suc t) h = let e : k + suc t ≡ suc k + t = omega arith in rw e (starts_at bs (suc k) E t (omega arith))

join_in : (starts : List (List ℕ)) (ts A : List ℕ) (s : ℕ) → In s (run (λ B t. with_all (get_or starts t []) B) A ts) ↔ (((t : ℕ) × In t ts × In s (get_or starts t [])) ⊎ In s A)
unfolding run
join_in starts [] A s = (inr, ⊎_elim (λ w. absurd w.1) (λ y. y))
join_in starts (t ∷ ts) A s =
    let e = with_all_in (get_or starts t []) A s in
    let ih = join_in starts ts (with_all (get_or starts t []) A) s in (
      λ h. ⊎_elim (λ w. inl (w.0, inr w.1, w.2)) (λ y. ⊎_elim (λ x. inl (t, inl refl, x)) inr (e.0 y)) (ih.0 h),
      ⊎_elim
          (λ w. ⊎_elim (λ q. ih.1 (inr (e.1 (inl (rw q at w.2))))) (λ m. ih.1 (inl (w.0, m, w.2))) w.1)
          (λ y. ih.1 (inr (e.1 (inr y)))),
    )

ends_at : (f : Func) (starts : List (List ℕ)) (b : ℕ) → get_or (ends_from f starts) b [] ≡ run (λ B t. with_all (get_or starts t []) B) [] (next_of f b)
unfolding ends_from run
ends_at f starts b = get_or-map (λ ts. run (λ B t. with_all (get_or starts t []) B) [] ts) f.succs b []

abbrev round : Func → List (List ℕ) → List (List ℕ)
round f E = ends_from f (starts_from 0 f.blocks E)

round_long : (f : Func) (E : List (List ℕ)) → length (round f E) ≡ length f.succs
unfolding ends_from
round_long f E = simp length-map

-- some successor wants s at its start, where E is wanted at the ends
abbrev Next : Func → List (List ℕ) → ℕ → ℕ → Type 0
Next f E b s = (t : ℕ) × In t (next_of f b) × BackAll (ops_of f t) (λ e. In e (get_or E t [])) s

round_back : (f : Func) (E : List (List ℕ)) → length E ≤ length f.blocks → (b s : ℕ) → In s (get_or (round f E) b []) ↔ Next f E b s
round_back f E h b s =
    let starts = starts_from 0 f.blocks E in
    let j = join_in starts (next_of f b) [] s in
    let at : (t : ℕ) → get_or starts t [] ≡ wanted_at (ops_of f t) (get_or E t []) = λ t. let z : 0 + t ≡ t = omega arith in rw z at (starts_at f.blocks 0 E t (omega arith)) in
    rw (ends_at f starts b) (
      λ y. ⊎_elim (λ w. (w.0, w.1, (at_back (ops_of f w.0) (get_or E w.0 []) s).0 (rw (at w.0) at w.2))) (λ x. absurd x) (j.0 y),
      λ w. j.1 (inl (w.0, w.1, rw (at w.0) ((at_back (ops_of f w.0) (get_or E w.0 []) s).1 w.2))),
    )

-- ---- the gap

-- 1 where s is not in A
abbrev lack : List ℕ → ℕ → ℕ
lack A s = cond (is_in s A) 0 1

lack_in : (A : List ℕ) (s : ℕ) → In s A → lack A s ≡ 0
lack_in A s h = rw ((is_in_lem s A).1 h)

lack_out : (A : List ℕ) (s : ℕ) → (In s A → ⊥) → lack A s ≡ 1
lack_out A s n = by_bool (is_in s A) (λ e. absurd (n ((is_in_lem s A).0 e))) (λ e. rw e)

lack_less : (A B : List ℕ) (s : ℕ) → (In s A → In s B) → lack B s ≤ lack A s
lack_less A B s h = by_bool (is_in s A) (λ e. omega (arith, lack_in B s (h ((is_in_lem s A).0 e)))) (λ e. rw e (most (is_in s B)))
  where
    most : (c : Bool) → ◌≤◌ (cond c 0 1) 1
    most true = omega arith
    most false = omega arith

-- how many of the numbers below n are not in A
unfoldable missing : List ℕ → ℕ → ℕ
missing A zero = 0
missing A (suc n) = lack A n + missing A n

missing_all : (A : List ℕ) (n : ℕ) → missing A n ≤ n
unfolding missing
missing_all A zero = omega arith
missing_all A (suc n) = omega (arith, missing_all A n, lack_less [] A n (λ x. absurd x), lack_out [] n (λ x. x))

module _ (A B : List ℕ) (h : (s : ℕ) → In s A → In s B) where
  missing_mono : (n : ℕ) → missing B n ≤ missing A n
  unfolding missing
  missing_mono zero = omega arith
  missing_mono (suc n) = omega (arith, missing_mono n, lack_less A B n (h n))

  missing_less : (s : ℕ) → In s B → (In s A → ⊥) → (n : ℕ) → s < n → missing B n < missing A n
  unfolding missing
  missing_less s x y zero l = absurd (omega arith)
  missing_less s x y (suc n) l = go (missing_less s x y n)
    where
      go : (s < n → missing B n < missing A n) → lack B n + missing B n < lack A n + missing A n
      go ih =
          by_eq s n
          (λ q. omega (arith, missing_mono n, lack_in B n (rw q at x), lack_out A n (λ z. y (rw q z))))
          (λ q. omega (arith, ih (omega arith), lack_less A B n (h n)))

unfoldable gap : ℕ → List (List ℕ) → ℕ
gap n [] = 0
gap n (A ∷ E) = missing A n + gap n E

gap_all : (n : ℕ) (E : List (List ℕ)) → gap n E ≤ length E * n
unfolding gap
gap_all n [] = omega arith
gap_all n (A ∷ E) = omega (arith, missing_all A n, gap_all n E)

all_false : (f : ℕ → Bool) (B : List ℕ) → all f B ≡ false → (s : ℕ) × In s B × (f s ≡ false)
all_false f [] e = let z : ◌≡◌ {A = ℕ} 0 1 = cc in absurd (omega arith)
all_false f (x ∷ B) e = by_bool (f x) (λ t. let w = all_false f B (rw t at e) in (w.0, inr w.1, w.2)) (λ t. (x, inl refl, t))

-- each set of X is part of that of Y
abbrev Grows : List (List ℕ) → List (List ℕ) → Type 0
Grows X Y = (b s : ℕ) → In s (get_or X b []) → In s (get_or Y b [])

module _ (n : ℕ) where
  gap_mono : (X Y : List (List ℕ)) → length X ≡ length Y → Grows X Y → gap n Y ≤ gap n X
  unfolding gap
  gap_mono [] [] l h = omega arith
  gap_mono [] (B ∷ Y) l h = absurd (omega arith)
  gap_mono (A ∷ X) [] l h = absurd (omega arith)
  gap_mono (A ∷ X) (B ∷ Y) l h = omega (arith, missing_mono A B (h 0) n, gap_mono X Y (omega arith) (λ b. h (suc b)))

  gap_less : (X Y : List (List ℕ)) → length X ≡ length Y → Grows X Y → ((b s : ℕ) → In s (get_or Y b []) → s < n) → no_more X Y ≡ false → gap n Y < gap n X
  unfolding gap no_more
  gap_less [] [] l h u e = let z : ◌≡◌ {A = ℕ} 0 1 = cc in absurd (omega arith)
  gap_less [] (B ∷ Y) l h u e = absurd (omega arith)
  gap_less (A ∷ X) [] l h u e = absurd (omega arith)
  gap_less (A ∷ X) (B ∷ Y) l h u e = go (gap_less X Y (omega arith) (λ b. h (suc b)) (λ b. u (suc b)))
    where
      go : (no_more X Y ≡ false → gap n Y < gap n X) → missing B n + gap n Y < missing A n + gap n X
      go ih =
          by_bool (all (λ s. is_in s A) B)
          (λ t. omega (arith, missing_mono A B (h 0) n, ih (rw t at e)))
          (λ t.
          let w = all_false (λ s. is_in s A) B t in
          let out : In w.0 A → ⊥ = λ y. let q : false ≡ true = sym w.2 ∙ (is_in_lem w.0 A).1 y in let z : ◌≡◌ {A = ℕ} 0 1 = cc in absurd (omega arith) in
          omega (arith, missing_less A B (h 0) w.0 w.1 out n (u 0 w.0 w.1), gap_mono X Y (omega arith) (λ b. h (suc b))))

no_more_lem : (X Y : List (List ℕ)) → length X ≡ length Y → no_more X Y ≡ true → Grows Y X
unfolding no_more
no_more_lem [] [] l e b s h = h
no_more_lem [] (B ∷ Y) l e b s h = absurd (omega arith)
no_more_lem (A ∷ X) [] l e b s h = absurd (omega arith)
no_more_lem (A ∷ X) (B ∷ Y) l e b s h =
    by_bool (all (λ s. is_in s A) B)
    (λ t. at t (no_more_lem X Y (omega arith) (rw t at e)) b s h)
    (λ t. let y : false ≡ true = rw t at e in let z : ◌≡◌ {A = ℕ} 0 1 = cc in absurd (omega arith))
  where
    at : all (λ s. is_in s A) B ≡ true → Grows Y X → Grows (B ∷ Y) (A ∷ X)
    at t ih zero s h = (is_in_lem s A).0 (all_true (λ x. is_in x A) B t s h)
    at t ih (suc b) s h = ih b s h

-- ---- the slots that are wanted are slots that an operation reads

adds_reads : (t : Target) (rs : List ℕ) (s : ℕ) → Adds t rs s → In s rs
adds_reads (into d) rs s h = absurd h
adds_reads (over ds) rs s h = h

moves_reads : (t : Target) (rs : List ℕ) (e s : ℕ) → Moves t rs e s → In s rs
moves_reads (into d) rs e s h = h.1
moves_reads (over ds) rs e s h = absurd h

module _ (f : Func) (within : ReadsWithin f) where
  wanted_within : {b i s : ℕ} → Wanted f b i s → s < slot_limit
  wanted_within (added {b = b} {i = i} {s = s} {o = o} {os = os} l a) = within b i s o os l (adds_reads (target o) (reads o) s a)
  wanted_within (sent {b = b} {i = i} {e = e} {s = s} {o = o} {os = os} l (moves m) w) = within b i s o os l (moves_reads (target o) (reads o) e s m)
  wanted_within (sent l (stays n q) w) = rw q (wanted_within w)
  wanted_within (from_next l m w) = wanted_within w

  -- ---- the rounds

  module _ (many : length f.succs ≤ length f.blocks) where
    record Inv (n : ℕ) (E : List (List ℕ)) : Type 0 where
      long : length E ≡ length f.succs
      sound : (b s : ℕ) → In s (get_or E b []) → WantedAtEnd f b s
      grows : Grows E (round f E)
      less : gap slot_limit E < n

    back : (E : List (List ℕ)) → length E ≡ length f.succs → (b s : ℕ) → In s (get_or (round f E) b []) ↔ Next f E b s
    back E l = round_back f E (omega arith)

    round_mono : (X Y : List (List ℕ)) → length X ≡ length f.succs → length Y ≡ length f.succs → Grows X Y → Grows (round f X) (round f Y)
    round_mono X Y l m h b s y =
        let w = (back X l b s).0 y in
        (back Y m b s).1 (w.0, w.1, back_all_mono (ops_of f w.0) (λ e. In e (get_or X w.0 [])) (λ e. In e (get_or Y w.0 [])) (h w.0) s w.2)

    round_sound : (E : List (List ℕ)) → length E ≡ length f.succs → ((b s : ℕ) → In s (get_or E b []) → WantedAtEnd f b s) → (b s : ℕ) → In s (get_or (round f E) b []) → WantedAtEnd f b s
    round_sound E l h b s y =
        let w = (back E l b s).0 y in
        end_closed f b w.0 s w.1 (back_all_mono (ops_of f w.0) (λ e. In e (get_or E w.0 [])) (WantedAtEnd f w.0) (h w.0) s w.2)

    round_inv : (n : ℕ) (E : List (List ℕ)) → Inv (suc n) E → no_more E (round f E) ≡ false → Inv n (round f E)
    round_inv n E v e =
        let long = round_long f E in
        let sound = round_sound E v.long v.sound in
        let u : (b s : ℕ) → In s (get_or (round f E) b []) → s < slot_limit = λ b s y. wanted_within (sound b s y).2 in
        record {
          long = long;
          sound = sound;
          grows = round_mono E (round f E) v.long long v.grows;
          less = omega (arith, v.less, gap_less slot_limit E (round f E) (v.long ∙ sym long) v.grows u e);
        }

    closed : (E : List (List ℕ)) → length E ≡ length f.succs → no_more E (round f E) ≡ true → Closed f (λ b s. In s (get_or E b []))
    closed E l e b t s m a = no_more_lem E (round f E) (l ∙ sym (round_long f E)) e b s ((back E l b s).1 (t, m, a))

    settle_stop : (n : ℕ) (E : List (List ℕ)) → no_more E (round f E) ≡ true → settle f (suc n) E ≡ E
    unfolding settle
    settle_stop n E e = rw (e, settle)

    settle_more : (n : ℕ) (E : List (List ℕ)) → no_more E (round f E) ≡ false → settle f (suc n) E ≡ settle f n (round f E)
    unfolding settle
    settle_more n E e = rw (e, settle)

    settle_ends : (n : ℕ) (E : List (List ℕ)) → Inv n E → (b s : ℕ) → In s (get_or (settle f n E) b []) ↔ WantedAtEnd f b s
    settle_ends zero E v b s = absurd (omega (arith, v.less))
    settle_ends (suc n) E v b s = go (settle_ends n (round f E))
      where
        go : (Inv n (round f E) → (b s : ℕ) → In s (get_or (settle f n (round f E)) b []) ↔ WantedAtEnd f b s) → In s (get_or (settle f (suc n) E) b []) ↔ WantedAtEnd f b s
        go ih =
            by_bool (no_more E (round f E))
            (λ e. rw (settle_stop n E e) (v.sound b s, end_least f (λ b s. In s (get_or E b [])) (closed E v.long e) b s))
            (λ e. rw (settle_more n E e) (ih (round_inv n E v e) b s))

nothing_in : (l : List (List ℕ)) (b s : ℕ) → In s (get_or (map (λ ts. []) l) b []) → ⊥
nothing_in [] b s h = h
nothing_in (x ∷ l) zero s h = h
nothing_in (x ∷ l) (suc b) s h = nothing_in l b s h

pub agreement : Agreement
unfolding ends
agreement f many within b s =
    let none : List (List ℕ) = map (λ ts. []) f.succs in
    let long : length none ≡ length f.succs = length-map f.succs (λ ts. []) in
    let no = nothing_in f.succs in
    let w =
    settle_ends f within many (length f.blocks * slot_limit + 1) none
    (record { long = long; sound = λ b s h. absurd (no b s h); grows = λ b s h. absurd (no b s h); less = omega (arith, gap_all slot_limit none) })
    b s in
    let e = is_in_lem s (get_or (settle f (length f.blocks * slot_limit + 1) none) b []) in
    (λ h. w.0 (e.0 h), λ h. e.1 (w.1 h))
