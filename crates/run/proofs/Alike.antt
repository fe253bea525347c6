-- For the steps of rules/specs/Model.antt: two states that have the same registers, and the same slots where it matters, stay so over an operation.
--     Back t rs A         wanted before an operation with target t that reads rs, where A is wanted after it
--     Alike A st st'      the same registers and time, and the same content of the slots of A
--     step_alike          over one operation in both
--     gone_alike          over a move or remat into a slot that is not of A, in the first only
use mathlib.Core.Path.{◌≡◌, refl, sym, ◌∙◌, ap, ap₂, subst}
use mathlib.Core.Logic.{◌⊎◌, inl, inr, ⊎_elim}
use mathlib.Core.List.{List, [], ◌∷◌, map, flat_map}
use Prim.Native.Nat.{ℕ, suc}
use native.Mathlib.Decide.{ℕ_discrete}
use Rattle.entity.specs.declared.forms.Place.{Place}
use Rattle.entity.specs.declared.forms.Place.TheVariants.{Reg, Slot}
use Rattle.entity.specs.declared.forms.Edit.TheVariants.{Move, Remat, Espill, Ereload, Misplaced, Nothing}
use Rattle.rules.specs.Function.{Inst, Op, edit, inst, In, slot_of, slots_of, Target, into, over, to_place, target, reads}
use Rattle.rules.specs.Sweep.{Adds, Takes, Sends, moves, stays, Into}
use Rattle.rules.specs.Model.{State, Machine, choose, upd, fill, wash, read_at, write, write_all, clobbered, results, step}

abbrev pub Back : Target → List ℕ → (ℕ → Type 0) → ℕ → Type 0
Back t rs A s = Adds t rs s ⊎ ((e : ℕ) × A e × Sends t rs e s)

pub record Alike (A : ℕ → Type 0) (st st' : State) : Type 0 where
  pub regs : st.regs ≡ st'.regs
  pub clock : st.clock ≡ st'.clock
  pub slots : (s : ℕ) → A s → st.slots s ≡ st'.slots s

pub alike_less : {A B : ℕ → Type 0} {st st' : State} → ((s : ℕ) → B s → A s) → Alike A st st' → Alike B st st'
alike_less l h = record { regs = h.regs; clock = h.clock; slots = λ s b. h.slots s (l s b) }

choose_yes : {P T : Type 0} (d : Dec P) (a b : T) → P → choose d a b ≡ a
choose_yes (yes _) a b p = refl
choose_yes (no n) a b p = absurd (n p)

choose_no : {P T : Type 0} (d : Dec P) (a b : T) → (P → ⊥) → choose d a b ≡ b
choose_no (yes p) a b n = absurd (n p)
choose_no (no _) a b n = refl

pub upd_same : {T : Type 0} (k : ℕ) (v : T) (g : ℕ → T) (n : ℕ) → n ≡ k → upd k v g n ≡ v
unfolding upd
upd_same k v g n q = choose_yes (ℕ_discrete n k) v (g n) q

pub upd_other : {T : Type 0} (k : ℕ) (v : T) (g : ℕ → T) (n : ℕ) → (n ≡ k → ⊥) → upd k v g n ≡ g n
unfolding upd
upd_other k v g n q = choose_no (ℕ_discrete n k) v (g n) q

-- a slot is written in both
upd_both : (A : ℕ → Type 0) (d : ℕ) (ws ws' : List ℕ) (g g' : ℕ → List ℕ) → (A d → ws ≡ ws') → ((e : ℕ) → A e → (e ≡ d → ⊥) → g e ≡ g' e) → (e : ℕ) → A e → upd d ws g e ≡ upd d ws' g' e
upd_both A d ws ws' g g' w h e a = go (ℕ_discrete e d)
  where
    go : Dec (e ≡ d) → upd d ws g e ≡ upd d ws' g' e
    go (yes q) = upd_same d ws g e q ∙ w (subst A q a) ∙ sym (upd_same d ws' g' e q)
    go (no n) = upd_other d ws g e n ∙ h e a n ∙ sym (upd_other d ws' g' e n)

map_same : (g g' : ℕ → List ℕ) (xs : List ℕ) → ((x : ℕ) → In x xs → g x ≡ g' x) → map g xs ≡ map g' xs
map_same g g' [] h = refl
map_same g g' (x ∷ xs) h = ap₂ ◌∷◌ (h x (inl refl)) (map_same g g' xs (λ y m. h y (inr m)))

module _ (M : Machine) where
  write_all_lem : (A : ℕ → Type 0) (ps : List Place) (k : ℕ) (v : ℕ → List ℕ) (st st' : State) → Alike (λ e. A e × (In e (slots_of ps) → ⊥)) st st' → Alike A (write_all M ps k v st) (write_all M ps k v st')
  unfolding write_all flat_map slot_of
  write_all_lem A [] k v st st' h = alike_less (λ s a. (a, λ x. x)) h
  write_all_lem A (Reg r ∷ ps) k v st st' h =
      write_all_lem A ps (suc k) v _ _ (record { regs = ap (fill (M.units r.0) (v k)) h.regs; clock = h.clock; slots = h.slots })
  write_all_lem A (Slot d ∷ ps) k v st st' h =
      write_all_lem A ps (suc k) v _ _ (record {
        regs = h.regs;
        clock = h.clock;
        slots = upd_both (λ e. A e × (In e (slots_of ps) → ⊥)) d.0 (v k) (v k) st.slots st'.slots (λ _. refl) (λ e a n. h.slots e (a.0, ⊎_elim n a.1));
      })

  module _ (A : ℕ → Type 0) (st st' : State) where
    read_same : (p : Place) → st.regs ≡ st'.regs → ((s : ℕ) → In s (slot_of p) → st.slots s ≡ st'.slots s) → read_at M p st ≡ read_at M p st'
    unfolding slot_of
    read_same (Reg r) q h = ap (λ g. map g (M.units r.0)) q
    read_same (Slot s) q h = h s.0 (inl refl)

    -- what is wanted after an operation and not taken away by it is wanted before it
    rest : (t : Target) (rs : List ℕ) → Alike (Back t rs A) st st' → (e : ℕ) → A e → (Takes t e → ⊥) → st.slots e ≡ st'.slots e
    rest t rs h e a n = h.slots e (inr (e, a, stays n refl))

    -- words that depend on the registers and on what is read, to a place
    put : (to : Place) (rs ws ws' : List ℕ) → Alike (Back (to_place to) rs A) st st' → (st.regs ≡ st'.regs → ((s : ℕ) → In s rs → st.slots s ≡ st'.slots s) → ws ≡ ws') → Alike A (write M to ws st) (write M to ws' st')
    put (Reg r) rs ws ws' h q =
        record { regs = ap₂ (fill (M.units r.0)) (q h.regs (λ s m. h.slots s (inl m))) h.regs; clock = h.clock; slots = λ e a. rest (over []) rs h e a (λ x. x) }
    put (Slot d) rs ws ws' h q =
        record {
          regs = h.regs;
          clock = h.clock;
          slots = upd_both A d.0 ws ws' st.slots st'.slots (λ a. q h.regs (λ s m. h.slots s (inr (d.0, a, moves (refl, m))))) (rest (into d.0) rs h);
        }

    results_same : (n : Inst) → Alike (Back (target (inst n)) n.uses A) st st' → results M n st ≡ results M n st'
    results_same n h =
        let used = map_same st.slots st'.slots n.uses (λ s m. h.slots s (inl m)) in
        λ i k. M.effect n k (h.regs i) (used i)

    pub step_alike : (o : Op) → Alike (Back (target o) (reads o) A) st st' → Alike A (step M o st) (step M o st')
    step_alike (edit (Move to p v)) h = put to (slot_of p) _ _ h (read_same p)
    step_alike (edit (Remat to v)) h = put to [] _ _ h (λ _ _. refl)
    step_alike (edit (Espill d r)) h =
        record {
          regs = h.regs;
          clock = h.clock;
          slots = upd_both A d.0 _ _ st.slots st'.slots (λ _. ap (λ g. map g (M.units r.0)) h.regs) (λ e a n. rest (over (d.0 ∷ [])) [] h e a (⊎_elim n (λ x. x)));
        }
    step_alike (edit (Ereload r q)) h = put (Reg r) (q.0 ∷ []) _ _ h (λ _ m. m q.0 (inl refl))
    step_alike (edit (Misplaced to p)) h = alike_less (λ s a. inr (s, a, stays (λ x. x) refl)) h
    step_alike (edit Nothing) h = alike_less (λ s a. inr (s, a, stays (λ x. x) refl)) h
    step_alike (inst n) h =
        subst
        (λ (v : ℕ → List ℕ). Alike A (write_all M n.defs 0 (results M n st) (clobbered M n st)) (write_all M n.defs 0 v (clobbered M n st')))
        (results_same n h)
        (write_all_lem A n.defs 0 (results M n st) (clobbered M n st) (clobbered M n st')
        (record {
          regs = λ i. wash n.clobbers (M.supply (h.clock i)) (h.regs i);
          clock = ap (λ c. suc c) h.clock;
          slots = λ e a. rest (target (inst n)) n.uses h e a.0 a.1;
        }))

    gone : (to : Place) (rs ws : List ℕ) (s : ℕ) → Into (to_place to) s → (A s → ⊥) → Alike (Back (to_place to) rs A) st st' → Alike A (write M to ws st) st'
    gone (Reg r) rs ws s x n h = absurd x
    gone (Slot d) rs ws s x n h =
        record {
          regs = h.regs;
          clock = h.clock;
          slots = λ e a.
              let m : e ≡ d.0 → ⊥ = λ q. n (rw x (subst A q a)) in
              upd_other d.0 ws st.slots e m ∙ rest (into d.0) rs h e a m;
        }

    pub gone_alike : (o : Op) (s : ℕ) → Into (target o) s → (A s → ⊥) → Alike (Back (target o) (reads o) A) st st' → Alike A (step M o st) st'
    gone_alike (edit (Move to p v)) s x n h = gone to (slot_of p) _ s x n h
    gone_alike (edit (Remat to v)) s x n h = gone to [] _ s x n h
    gone_alike (edit (Espill d r)) s x n h = absurd x
    gone_alike (edit (Ereload r q)) s x n h = absurd x
    gone_alike (edit (Misplaced to p)) s x n h = absurd x
    gone_alike (edit Nothing) s x n h = absurd x
    gone_alike (inst i) s x n h = absurd x

-- what an operation reads is wanted before it, where its target is wanted after
pub reads_back : (A : ℕ → Type 0) (t : Target) (rs : List ℕ) (s : ℕ) → ((e : ℕ) → Into t e → A e) → In s rs → Back t rs A s
reads_back A (into d) rs s k x = inr (d, k d refl, moves (refl, x))
reads_back A (over ds) rs s k x = inl x
