-- A later arrival: `meet` of src/handed.rt leaves of a state what the record knows too, and tells if something went (`Meets`). Assumes nothing.
use mathlib.Core.Path.{◌≡◌, refl, sym, ap, ap₂, ◌∙◌}
use mathlib.Core.Bool.{Bool, true, cond, not, ◌||◌, false}
use mathlib.Core.List.{List, [], ◌∷◌}
use Prim.Native.Nat.{ℕ, ◌+◌, ◌≤◌, ◌<◌}
use native.Mathlib.Omega.{arith}
use lib.ListN.{length, get_or, set}
use lib.Dec.{eqb}
use Rattle.entity.specs.Limits.{reg_limit, slot_limit}
use borrow.Author.Tests.{eq-eqb, eqb-true}
use Rattle.laws.proofs.Cases.{by_bool}
use Rattle.table.proofs.Loops.{never, and_left, and_right}
use Rattle.rules.specs.Text.{same}
use Rattle.rules.specs.Sheet.{Sheet}
use Rattle.rules.specs.Record.{Known, absent}
use Rattle.rules.specs.Forward.{meet, same_known}
use Rattle.record.specs.Layout.{held_at, stored_at, record_length}
use Rattle.record.specs.Flat.{section, record_in}
use Rattle.record.proofs.Parts.{length-section}
use Rattle.states.specs.Layout.{known_size, state_at}
use Rattle.states.specs.States.{known_at, is_set, met_in, Meets, fits}
use Rattle.states.proofs.Spans.{Span, span_store, Kept, kept_next, section_at, zip_long, zip_at}
use Rattle.states.proofs.Cells.{known_is, known_same, known_at_lem, stored_sets, fits_room, set_fits}

-- number j of the state at `at`, if the record knows it too
abbrev pub met_at : List ℕ → List ℕ → ℕ → ℕ → ℕ
met_at rec states at j = cond (eqb (get_or states (at + j) 0) (get_or rec (held_at + j) 0)) (get_or states (at + j) 0) absent

module _ (states states' : List ℕ) (at : ℕ) (fits : at + known_size ≤ length states) (sh : Sheet) (rec : List ℕ) (long : record_length ≤ length rec) where
  pub met_known : Span at (met_at rec states at) states known_size states'
      → known_at states' at ≡ meet sh (known_at states at) (record_in rec).known
  unfolding meet record_in
  met_known p =
      let m : length states' ≡ length states = p.long in
      let a : length (section rec held_at reg_limit) ≡ reg_limit = length-section rec held_at reg_limit (omega arith) in
      let b : length (section rec stored_at slot_limit) ≡ slot_limit = length-section rec stored_at slot_limit (omega arith) in
      let c : length (section states at reg_limit) ≡ reg_limit = length-section states at reg_limit (omega arith) in
      let d : length (section states (at + reg_limit) slot_limit) ≡ slot_limit = length-section states (at + reg_limit) slot_limit (omega arith) in
      let g : ℕ → ℕ → ℕ = λ v x. cond (eqb v x) v absent in
      known_is states' at (meet sh (known_at states at) (record_in rec).known) (omega arith)
      (zip_long g (section states at reg_limit) (section rec held_at reg_limit) (c ∙ sym a) ∙ c)
      (zip_long g (section states (at + reg_limit) slot_limit) (section rec stored_at slot_limit) (d ∙ sym b) ∙ d)
      (λ j h.
      p.done j (omega arith)
      ∙ sym (zip_at g (section states at reg_limit) (section rec held_at reg_limit) j (omega arith) (omega arith)
      ∙ ap₂ g (section_at states at reg_limit (omega arith) j h) (section_at rec held_at reg_limit (omega arith) j h)))
      (λ j h.
      p.done (reg_limit + j) (omega arith)
      ∙ sym (zip_at g (section states (at + reg_limit) slot_limit) (section rec stored_at slot_limit) j (omega arith) (omega arith)
      ∙ ap₂ g (section_at states (at + reg_limit) slot_limit (omega arith) j h ∙ ap (λ (i : ℕ). get_or states i 0) (omega arith))
      (section_at rec stored_at slot_limit (omega arith) j h ∙ ap (λ (i : ℕ). get_or rec i 0) (omega arith))))

-- ---- what went

pub same_refl : (l : List ℕ) → same l l ≡ true
unfolding same
same_refl [] = refl
same_refl (x ∷ l) = rw (eq-eqb x x refl, same_refl l)

pub same_eq : (l m : List ℕ) → same l m ≡ true → l ≡ m
unfolding same
same_eq [] [] e = refl
same_eq [] (y ∷ m) e = never e
same_eq (x ∷ l) [] e = never e
same_eq (x ∷ l) (y ∷ m) e =
    let p : x ≡ y = eqb-true x y (and_left (eqb x y) (same l m) e) in
    let q : l ≡ m = same_eq l m (and_right (eqb x y) (same l m) e) in
    cc

eta : (k l : Known) → k.held ≡ l.held → k.stored ≡ l.stored → k ≡ l
eta k l p q = ap₂ the p q
  where
    the : List ℕ → List ℕ → Known
    the a b = record { held = a; stored = b }

module _ (sh : Sheet) where
  pub known_refl : (k : Known) → same_known sh k k ≡ true
  unfolding same_known
  known_refl k = rw (same_refl k.held, same_refl k.stored)

  pub known_eq : (k l : Known) → same_known sh k l ≡ true → k ≡ l
  unfolding same_known
  known_eq k l e =
      let p : k.held ≡ l.held = same_eq k.held l.held (and_left (same k.held l.held) (same k.stored l.stored) e) in
      let q : k.stored ≡ l.stored = same_eq k.stored l.stored (and_right (same k.held l.held) (same k.stored l.stored) e) in
      eta k l p q

-- one number is met
pub met_next : (rec s : List ℕ) (at i : ℕ) (s' : List ℕ) (went : Bool) (l : ℕ) (went' : Bool) → Span at (met_at rec s at) s i s'
    → Kept (met_at rec s at) (λ j. get_or s (at + j) 0) i went → at + i < length s
    → l ≡ cond (eqb (get_or s' (at + i) 0) (get_or rec (held_at + i) 0)) (get_or s' (at + i) 0) absent → went' ≡ (went || not (eqb l (get_or s' (at + i) 0)))
    → Span at (met_at rec s at) s (i + 1) (set s' (at + i) l) × Kept (met_at rec s at) (λ j. get_or s (at + j) 0) (i + 1) went'
met_next rec s at i s' went l went' p k h e w =
    let q : get_or s' (at + i) 0 ≡ get_or s (at + i) 0 = p.behind (at + i) (omega arith) in
    let z : l ≡ met_at rec s at i = rw q at e in
    let y : went' ≡ (went || not (eqb (met_at rec s at i) (get_or s (at + i) 0))) = rw (q, z) at w in
    (span_store at (met_at rec s at) s i s' l p z h, kept_next (met_at rec s at) (λ j. get_or s (at + j) 0) i went went' k y)

-- block b's state loses what the record does not know
module _ (sh : Sheet) (rec s s' : List ℕ) (b : ℕ) (went : Bool) (long : record_length ≤ length rec) where
  pub met : is_set s b ≡ true → Span (state_at b) (met_at rec s (state_at b)) s known_size s' → Kept (met_at rec s (state_at b)) (λ j. get_or s (state_at b + j) 0) known_size went
      → Meets sh (record_in rec) s s' b went
  unfolding is_set
  met e p k =
      let fit : fits s b ≡ true = set_fits s b e in
      let room : state_at (b + 1) ≤ length s = fits_room s b fit in
      let m : length s' ≡ length s = p.long in
      let is : known_at s' (state_at b) ≡ met_in sh (record_in rec) s b = met_known s s' (state_at b) (omega arith) sh rec long p in
      record {
        sets = stored_sets (met_at rec s (state_at b)) s s s' b (met_in sh (record_in rec) s b) fit refl
            (eqb-true (get_or s b 0) 1 (and_right (fits s b) (eqb (get_or s b 0) 1) e)) (λ j d. refl) p is;
        went = by_bool went
            (λ t.
            by_bool (same_known sh (known_at s (state_at b)) (met_in sh (record_in rec) s b))
            (λ y.
            absurd (k.yes t (λ j u.
            sym (p.done j u)
            ∙ sym (known_at_lem s s' (state_at b) (omega arith) (omega arith) (known_eq sh (known_at s (state_at b)) (met_in sh (record_in rec) s b) y ∙ sym is) j u))))
            (λ n. t ∙ sym (ap not n)))
            (λ f.
            let q : known_at s' (state_at b) ≡ known_at s (state_at b) = known_same s s' (state_at b) m (omega arith) (λ j u. p.done j u ∙ k.no f j u) in
            f ∙ sym (ap not (ap (same_known sh (known_at s (state_at b))) (sym is ∙ q) ∙ known_refl sh (known_at s (state_at b)))));
      }

  pub unmet : fits s b ≡ false → is_set s b ≡ true → Meets sh (record_in rec) s s' b went
  unmet h e = never (sym h ∙ set_fits s b e)
