-- For `turn` and `settle` of src/ends.rt, the worklist's loop: what it keeps, and that at the end it has what is wanted at the ends of the blocks. Assumes nothing.
--     Good, Inv     the shape of the state, and what it says of a function
--     good_turn, less_turn, inv_turn      a turn keeps them, and brings the weight down
--     inv_first, inv_last     with nothing wanted and every block waiting; with no block waiting
use mathlib.Core.Path.{◌≡◌, sym, ◌∙◌, ap}
use mathlib.Core.Logic.{⊎_elim, ◌↔◌}
use mathlib.Core.List.{List}
use Prim.Native.Nat.{ℕ, ◌^◌, ◌<◌}
use native.Mathlib.Omega.{arith}
use lib.ListN.{length, get_or, set, length-set}
use Rattle.laws.specs.Digits.{bit}
use Rattle.laws.specs.Lists.{is_in}
use Rattle.laws.proofs.Bit.{bit_zero}
use Rattle.laws.proofs.Cases.{never}
use Rattle.rules.specs.Sheet.{preds_of}
use Rattle.rules.specs.Function.{Func, ops_of, In}
use Rattle.rules.specs.Sweep.{wanted_at}
use Rattle.run.specs.Swept.{WantedAtEnd}
use Rattle.run.proofs.Sets.{is_in_lem}
use Rattle.run.proofs.Back.{BackAll, back_all_mono, at_back, end_closed, end_least}
use Rattle.bits.specs.declared.sets.NumberSet.{NumberSet}
use Rattle.table.specs.Sheet.{sheet_in}
use Rattle.table.specs.Index.{Ready}
use Rattle.dead_spill_elimination.specs.Slots.{Same, list_of, block_back, Lows}
use Rattle.dead_spill_elimination.specs.Worklist.{State, spread, Word, Turned, Facts}
use Rattle.dead_spill_elimination.proofs.Sums.{weight, weight_clear}
use Rattle.dead_spill_elimination.proofs.Given.{On, Words, set_cases, Gave, gave}
use Rattle.dead_spill_elimination.proofs.Tell.{list_of_word}

pub record Good (n : ℕ) (X W : List ℕ) : Type 0 where
  pub live_len : length X ≡ n
  pub wait_len : length W ≡ n
  pub words : Words X

module _ (t edits touched : List ℕ) (n : ℕ) where
  -- what each block that does not wait wants at its start is wanted at its predecessors' ends, and all that is wanted has to be
  pub record Inv (f : Func) (X W : List ℕ) : Type 0 where
    pub settled : (b : ℕ) → b < n → get_or W b 0 ≡ 0 → (p s : ℕ) → In p (preds_of (sheet_in t) b) → BackAll (ops_of f b) (On (get_or X b 0)) s → On (get_or X p 0) s
    pub within : (b s : ℕ) → On (get_or X b 0) s → WantedAtEnd f b s

  module _ (X W : List ℕ) (g : Good n X W) (b : ℕ) (l : b < n) (st : State) (d : Turned t edits touched b (record { live = X; wait = W }) st) where
    given : Gave d.preds d.start (record { live = X; wait = set W b 0 }) st
    given =
        let e : length X ≡ length (set W b 0) = g.live_len ∙ sym (length-set W b 0 ∙ g.wait_len) in
        rw d.gave (gave d.preds d.start (record { live = X; wait = set W b 0 }) e g.words d.word)

    pub good_turn : Good n st.live st.wait
    good_turn = record { live_len = given.live_len ∙ g.live_len; wait_len = given.wait_len ∙ length-set W b 0 ∙ g.wait_len; words = given.words }

    pub less_turn : (get_or W b 0 ≡ 0 → ⊥) → weight (2 ^ 64) st.live st.wait < weight (2 ^ 64) X W
    less_turn z = omega (arith, given.falls, weight_clear (2 ^ 64) X W b (omega (arith, g.wait_len)) z)

    module _ (f : Func) (h : Facts t edits touched f n) where
      -- what is handed back is what the definitions say
      start_back : (s : ℕ) → On d.start s ↔ BackAll (ops_of f b) (On (get_or X b 0)) s
      start_back s =
          let A : List ℕ = list_of (get_or X b 0) in
          let w : Word (get_or X b 0) A = list_of_word (get_or X b 0) (g.words b) in
          let e : bit d.start s ≡ is_in s (wanted_at (ops_of f b) A) = d.same h.lows A w s ∙ h.back b l A s in
          let i = is_in_lem s (wanted_at (ops_of f b) A) in
          let a = at_back (ops_of f b) A s in (
            λ x. back_all_mono (ops_of f b) (λ k. In k A) (On (get_or X b 0)) (λ k m. w k ∙ (is_in_lem k A).1 m) s (a.0 (i.0 (sym e ∙ x))),
            λ x. e ∙ i.1 (a.1 (back_all_mono (ops_of f b) (On (get_or X b 0)) (λ k. In k A) (λ k m. (is_in_lem k A).0 (sym (w k) ∙ m)) s x)),
          )

      pub inv_turn : Inv f X W → Inv f st.live st.wait
      inv_turn v =
          let G = given in
          let ps : d.preds ≡ preds_of (sheet_in t) b = d.preds_are h.ready in
          record {
            settled = λ c lc z p s m x.
                let q = G.quiet c z in
                let y : BackAll (ops_of f c) (On (get_or X c 0)) s = rw q.1 at x in
                ⊎_elim
                (λ w.
                let m' : In p d.preds = rw (ps, ← w.0) m in
                G.gives p s (omega (arith, g.live_len, (h.preds_in c p lc m).0)) m' ((start_back s).1 (rw w.0 at y)))
                (λ w. G.grows p s (v.settled c lc (sym w.1 ∙ q.0) p s m y))
                (set_cases W b 0 c (omega (arith, g.wait_len)));
            within = λ c s x.
                ⊎_elim (v.within c s)
                (λ w.
                let m = h.preds_in b c l (rw ps at w.0) in
                end_closed f c b s m.1 (back_all_mono (ops_of f b) (On (get_or X b 0)) (WantedAtEnd f b) (v.within b) s ((start_back s).0 w.1)))
                (G.only c s x);
          }

  pub inv_first : (f : Func) (X W : List ℕ) → ((b : ℕ) → get_or X b 0 ≡ 0) → ((b : ℕ) → b < n → get_or W b 0 ≡ 0 → ⊥) → Inv f X W
  inv_first f X W z a =
      record {
        settled = λ b l e. absurd (a b l e);
        within = λ b s x. never (sym (ap (λ (w : ℕ). bit w s) (z b) ∙ bit_zero s) ∙ x);
      }

  pub inv_last : (f : Func) → Facts t edits touched f n → (X W : List ℕ) → Inv f X W → ((b : ℕ) → b < n → get_or W b 0 ≡ 0) → (b s : ℕ) → On (get_or X b 0) s ↔ WantedAtEnd f b s
  inv_last f h X W v z b s = (
    v.within b s,
    end_least f (λ c. On (get_or X c 0)) (λ p c s m x. let w = h.succs_in p c m in v.settled c w.0 (z c w.0) p s w.1 x) b s,
  )

-- a turn, by what its calls promise
pub turned : (t edits touched : List ℕ) (b : ℕ) (X W : List ℕ) {W₁ ps : List ℕ} {st : State} {x v : ℕ} {S T : NumberSet} → x ≡ get_or X b 0 → W₁ ≡ set W b 0 → ((A : List ℕ) → Word x A → Same S A)
    → ((A : List ℕ) → Lows t edits → Same S A → Same T (block_back t edits touched b A)) → ((A : List ℕ) → Same T A → Word v A) → v < 2 ^ 64
    → (Ready t → ps ≡ preds_of (sheet_in t) b) → st ≡ spread ps v (record { live = X; wait = W₁ }) → Turned t edits touched b (record { live = X; wait = W }) st
turned t edits touched b X W {ps = ps} {v = v} ex ew s k w l p g =
    record {
      start = v;
      preds = ps;
      word = l;
      same = λ low A h. w (block_back t edits touched b A) (k A low (s A (λ k. ap (λ (y : ℕ). bit y k) ex ∙ h k)));
      preds_are = p;
      gave = g ∙ ap (λ (y : List ℕ). spread ps v (record { live = X; wait = y })) ew;
    }
