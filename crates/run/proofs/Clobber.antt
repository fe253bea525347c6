-- For `clobbered_units` of src/lib.rt: a clobbered unit that no operand defines gets its word from the supply: clobbers come first, and definitions write over them.
use mathlib.Core.Path.{◌≡◌, refl, sym, ◌∙◌, ap}
use mathlib.Core.Logic.{◌⊎◌, inl, inr, ⊎_elim}
use mathlib.Core.List.{List, [], ◌∷◌}
use Prim.Native.Nat.{ℕ, suc}
use native.Mathlib.Decide.{ℕ_discrete}
use Rattle.entity.specs.declared.forms.Place.{Place}
use Rattle.entity.specs.declared.forms.Place.TheVariants.{Reg, Slot}
use Rattle.rules.specs.Function.{In}
use Rattle.rules.specs.Model.{State, Machine, upd, fill, word_of, rest_of, wash, write, write_all, clobbered, results}
use Rattle.run.specs.Swept.{UnitIn}
use Rattle.run.specs.Theorem.{Clobbers}
use Rattle.run.proofs.Alike.{upd_same, upd_other}

fill_other : (us ws : List ℕ) (g : ℕ → ℕ) (u : ℕ) → (In u us → ⊥) → fill us ws g u ≡ g u
unfolding fill
fill_other [] ws g u n = refl
fill_other (x ∷ us) ws g u n = fill_other us (rest_of ws) (upd x (word_of ws) g) u (λ y. n (inr y)) ∙ upd_other x (word_of ws) g u (λ y. n (inl y))

wash_here : (us : List ℕ) (w g : ℕ → ℕ) (u : ℕ) → In u us ⊎ (g u ≡ w u) → wash us w g u ≡ w u
unfolding wash
wash_here [] w g u h = ⊎_elim (λ y. absurd y) (λ q. q) h
wash_here (x ∷ us) w g u h = wash_here us w (upd x (w x) g) u (go (ℕ_discrete u x) h)
  where
    go : Dec (u ≡ x) → (In u (x ∷ us) ⊎ (g u ≡ w u)) → In u us ⊎ (upd x (w x) g u ≡ w u)
    go (yes q) h = inr (upd_same x (w x) g u q ∙ ap w (sym q))
    go (no n) h = ⊎_elim (⊎_elim (λ q. absurd (n q)) inl) (λ q. inr (upd_other x (w x) g u n ∙ q)) h

write_other : (M : Machine) (ps : List Place) (k : ℕ) (v : ℕ → List ℕ) (st : State) (u : ℕ) → (UnitIn M u ps → ⊥) → (write_all M ps k v st).regs u ≡ st.regs u
unfolding write_all
write_other M [] k v st u n = refl
write_other M (Reg r ∷ ps) k v st u n =
    write_other M ps (suc k) v (write M (Reg r) (v k) st) u (λ y. n (inr y)) ∙ fill_other (M.units r.0) (v k) st.regs u (λ y. n (inl y))
write_other M (Slot s ∷ ps) k v st u n = write_other M ps (suc k) v (write M (Slot s) (v k) st) u n

pub clobbers : Clobbers
clobbers M n st u c d =
    write_other M n.defs 0 (results M n st) (clobbered M n st) u d ∙ wash_here n.clobbers (M.supply st.clock) st.regs u (inl c)
