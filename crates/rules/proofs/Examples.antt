-- The small cases, by computing.
use mathlib.Core.Path.{◌≡◌, refl, ap}
use mathlib.Core.Logic.{inl, inr, ⊎_elim}
use mathlib.Core.List.{List, [], ◌∷◌}
use Prim.Native.Nat.{ℕ}
use native.Mathlib.Decide.{ℕ_discrete}
use native.Mathlib.Omega.{arith}
use Rattle.rules.proofs.Computing.{computing}
use Rattle.rules.specs.Brought.{used}
use Rattle.rules.specs.Function.{In, reads, stop, next}
use Rattle.rules.specs.Model.{upd, fill, wash, write_all, word_of, Step, steps, Agree, done, each}
use Rattle.rules.specs.Examples.{first, other, Examples}

registers : {x y : Step} {xs ys : List Step} → Agree (x ∷ xs) (y ∷ ys) → (u : ℕ) → x.before.regs u ≡ y.before.regs u
registers (each h k a) = h

slots : {x y : Step} {xs ys : List Step} → Agree (x ∷ xs) (y ∷ ys) → (s : ℕ) → In s (reads y.op) → x.before.slots s ≡ y.before.slots s
slots (each h k a) = k

rest : {x y : Step} {xs ys : List Step} → Agree (x ∷ xs) (y ∷ ys) → Agree xs ys
rest (each h k a) = a

apart : ◌≡◌ {A = List ℕ} (22 ∷ 32 ∷ []) [] → ⊥
apart q = let w = ap word_of q in omega arith

-- the two states differ in slot 2 only
at_zero : (q : ℕ) → q ≡ 0 → first.slots q ≡ other.slots q
unfolding upd ℕ_discrete
at_zero q e = rw e refl

pub examples : Examples
unfolding computing upd fill wash write_all ℕ_discrete steps
examples =
    record {
      both_removed = refl;
      both_kept = refl;
      spill_stays = refl;
      round = (1 ∷ [], next (inl refl) stop, inl (used (inl refl)));
      stored = refl;
      ran = refl;
      from_sheet = (refl, refl);
      given = (refl, refl);
      short = refl;
      over = (refl, refl);
      in_order = refl;
      spilled = refl;
      reloaded = (refl, refl);
      copied = (refl, refl);
      read_first = (refl, refl);
      made = (refl, refl);
      made_in_slot = refl;
      unchanged = (refl, refl);
      defined = refl;
      reads_first = refl;
      later_stays = refl;
      clobbered = (refl, refl);
      not_read = each (λ u. refl) (λ q. ⊎_elim (at_zero q) (λ x. absurd x)) (each (λ u. refl) (λ s x. absurd x) done);
      used = λ a. apart (slots a 2 (inr (inl refl)));
      moved = λ a. apart (slots a 2 (inl refl));
      put_back = λ a. apart (slots a 2 (inl refl));
      at_the_end = λ a. let w = registers (rest a) 1 in omega arith;
    }
