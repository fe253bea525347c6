-- For `count_struck` of src/sweep.rt, the counts of struck rows: in whatever order rows are struck, they come to the same. Assumes nothing.
--     struck_none      where no row is struck nothing is counted
--     count_strike     one row more
--     count_bound      each count is at most as many rows higher
use mathlib.Core.Path.{◌≡◌, refl, sym, ◌∙◌, ap}
use mathlib.Core.Bool.{true, false}
use mathlib.Core.List.{List, [], ◌∷◌, zip, zip_with}
use Prim.Native.Nat.{ℕ, zero, suc, ◌+◌, ◌≤◌, ◌<◌}
use native.Mathlib.Omega.{arith}
use lib.ListN.{length, get_or, set, length-set}
use lib.Seq.{get_or-set_same, get_or-set_other, ext_get_or}
use Rattle.laws.specs.Fold.{run}
use Rattle.laws.proofs.Cases.{by_bool, by_eq, never}
use Rattle.entity.specs.declared.numbers.Value.{Value}
use Rattle.entity.specs.declared.forms.Place.{Place}
use Rattle.entity.specs.declared.forms.Edit.{Edit}
use Rattle.entity.specs.declared.forms.Edit.TheVariants.{Move, Remat, Espill, Ereload, Misplaced, Nothing}
use Rattle.rules.specs.Forward.{count, dead_spill, dead_remat}
use Rattle.rules.specs.Sweep.{is_nothing, struck}
use Rattle.table.proofs.Counted.{count_more}

none : (k : ℕ) (cs : List ℕ) → length cs ≤ k → get_or cs k 0 ≡ 0
none k [] h = refl
none zero (x ∷ cs) h = absurd (omega arith)
none (suc k) (x ∷ cs) h = none k cs (omega arith)

-- ---- one count

count_length : (k : ℕ) (cs : List ℕ) → length (count k cs) ≡ length cs
unfolding count
count_length k cs = length-set cs k (get_or cs k 0 + 1)

count_at : (k : ℕ) (cs : List ℕ) → k < length cs → get_or (count k cs) k 0 ≡ get_or cs k 0 + 1
unfolding count
count_at k cs h = get_or-set_same cs k (get_or cs k 0 + 1) 0 h

count_other : (k i : ℕ) (cs : List ℕ) → (i ≡ k → ⊥) → get_or (count k cs) i 0 ≡ get_or cs i 0
unfolding count
count_other k i cs n = get_or-set_other cs k i (get_or cs k 0 + 1) 0 n

count_comm : (a b : ℕ) (cs : List ℕ) → count a (count b cs) ≡ count b (count a cs)
count_comm a b cs =
    by_eq a b (λ e. rw e)
    (λ n.
    ext_get_or 0 (count a (count b cs)) (count b (count a cs)) (count_length a (count b cs) ∙ count_length b cs ∙ sym (count_length b (count a cs) ∙ count_length a cs))
    (λ i l.
    let m : i < length cs = omega (arith, count_length a (count b cs), count_length b cs) in
    by_eq i a
    (λ e.
    let h : a < length (count b cs) = omega (arith, count_length b cs) in
    rw e (count_at a (count b cs) h ∙ ap (λ (x : ℕ). x + 1) (count_other b a cs n) ∙ sym (count_other b a (count a cs) n ∙ count_at a cs (omega arith))))
    (λ p.
    by_eq i b
    (λ e.
    let h : b < length (count a cs) = omega (arith, count_length a cs) in
    let n' : b ≡ a → ⊥ = λ q. n (sym q) in
    rw e (count_other a b (count b cs) n' ∙ count_at b cs (omega arith) ∙ sym (count_at b (count a cs) h ∙ ap (λ (x : ℕ). x + 1) (count_other a b cs n'))))
    (λ q. count_other a i (count b cs) p ∙ count_other b i cs q ∙ sym (count_other b i (count a cs) q ∙ count_other a i cs p)))))

-- ---- one row

-- what is counted for a row that was e and is none now
abbrev pub for : Edit → List ℕ → List ℕ
for (Move to p v) cs = count dead_spill cs
for (Remat to v) cs = count dead_remat cs
for (Espill d r) cs = cs
for (Ereload r q) cs = cs
for (Misplaced to p) cs = cs
for Nothing cs = cs

pub struck_for : (cs : List ℕ) (e : Edit) → struck cs (e, Nothing) ≡ for e cs
unfolding struck is_nothing
struck_for cs (Move to p v) = refl
struck_for cs (Remat to v) = refl
struck_for cs (Espill d r) = refl
struck_for cs (Ereload r q) = refl
struck_for cs (Misplaced to p) = refl
struck_for cs Nothing = refl

-- a row that is something now
struck_kept : (cs : List ℕ) (e x : Edit) → is_nothing x ≡ false → struck cs (e, x) ≡ cs
unfolding struck
struck_kept cs e x h = rw (h, struck)

struck_same : (cs : List ℕ) (e : Edit) → struck cs (e, e) ≡ cs
unfolding is_nothing
struck_same cs (Move to p v) = struck_kept cs _ _ refl
struck_same cs (Remat to v) = struck_kept cs _ _ refl
struck_same cs (Espill d r) = struck_kept cs _ _ refl
struck_same cs (Ereload r q) = struck_kept cs _ _ refl
struck_same cs (Misplaced to p) = struck_kept cs _ _ refl
struck_same cs Nothing = struck_for cs Nothing

is_none : (x : Edit) → is_nothing x ≡ true → x ≡ Nothing
unfolding is_nothing
is_none (Move to p v) h = never h
is_none (Remat to v) h = never h
is_none (Espill d r) h = never h
is_none (Ereload r q) h = never h
is_none (Misplaced to p) h = never h
is_none Nothing h = refl

for_count : (e : Edit) (k : ℕ) (cs : List ℕ) → for e (count k cs) ≡ count k (for e cs)
for_count (Move to p v) k cs = count_comm dead_spill k cs
for_count (Remat to v) k cs = count_comm dead_remat k cs
for_count (Espill d r) k cs = refl
for_count (Ereload r q) k cs = refl
for_count (Misplaced to p) k cs = refl
for_count Nothing k cs = refl

for_for : (e f : Edit) (cs : List ℕ) → for e (for f cs) ≡ for f (for e cs)
for_for e (Move to p v) cs = for_count e dead_spill cs
for_for e (Remat to v) cs = for_count e dead_remat cs
for_for e (Espill d r) cs = refl
for_for e (Ereload r q) cs = refl
for_for e (Misplaced to p) cs = refl
for_for e Nothing cs = refl

for_more : (e : Edit) (k : ℕ) (cs : List ℕ) → get_or (for e cs) k 0 ≤ get_or cs k 0 + 1
for_more (Move to p v) k cs = count_more dead_spill k cs
for_more (Remat to v) k cs = count_more dead_remat k cs
for_more (Espill d r) k cs = omega arith
for_more (Ereload r q) k cs = omega arith
for_more (Misplaced to p) k cs = omega arith
for_more Nothing k cs = omega arith

struck_first : (e : Edit) (cs : List ℕ) (x : Edit × Edit) → struck (for e cs) x ≡ for e (struck cs x)
struck_first e cs x =
    by_bool (is_nothing x.1)
    (λ h.
    let q : x.1 ≡ Nothing = is_none x.1 h in
    ap (λ (y : Edit). struck (for e cs) (x.0, y)) q ∙ struck_for (for e cs) x.0 ∙ for_for x.0 e cs
    ∙ sym (ap (λ (y : Edit). for e (struck cs (x.0, y))) q ∙ ap (for e) (struck_for cs x.0)))
    (λ h. struck_kept (for e cs) x.0 x.1 h ∙ sym (ap (for e) (struck_kept cs x.0 x.1 h)))

struck_more : (cs : List ℕ) (x : Edit × Edit) (k : ℕ) → get_or (struck cs x) k 0 ≤ get_or cs k 0 + 1
struck_more cs x k =
    by_bool (is_nothing x.1)
    (λ h. let q : x.1 ≡ Nothing = is_none x.1 h in rw (q, struck_for cs x.0) (for_more x.0 k cs))
    (λ h. rw (struck_kept cs x.0 x.1 h) (omega arith))

-- ---- all rows

run_first : (e : Edit) (l : List (Edit × Edit)) (cs : List ℕ) → run struck (for e cs) l ≡ for e (run struck cs l)
unfolding run
run_first e [] cs = refl
run_first e (x ∷ l) cs = rw (struck_first e cs x) (run_first e l (struck cs x))

pub struck_none : (es : List Edit) (cs : List ℕ) → run struck cs (zip es es) ≡ cs
unfolding run zip zip_with
struck_none [] cs = refl
struck_none (e ∷ es) cs = ap (λ (x : List ℕ). run struck x (zip es es)) (struck_same cs e) ∙ struck_none es cs

pub count_strike : (es c : List Edit) (j : ℕ) (cs : List ℕ) → length c ≡ length es → j < length es → get_or c j Nothing ≡ get_or es j Nothing
    → run struck cs (zip es (set c j Nothing)) ≡ struck (run struck cs (zip es c)) (get_or es j Nothing, Nothing)
unfolding run zip zip_with
count_strike [] c j cs l h q = absurd (omega arith)
count_strike (e ∷ es) [] j cs l h q = absurd (omega arith)
count_strike (e ∷ es) (x ∷ c) zero cs l h q =
    rw (q, struck_same cs e, struck_for cs e, struck_for (run struck cs (zip es c)) e) (run_first e (zip es c) cs)
count_strike (e ∷ es) (x ∷ c) (suc j) cs l h q = count_strike es c j (struck cs (e, x)) (omega arith) (omega arith) q

pub count_bound : (es c : List Edit) (k : ℕ) (cs : List ℕ) → get_or (run struck cs (zip es c)) k 0 ≤ get_or cs k 0 + length es
unfolding run zip zip_with
count_bound [] c k cs = omega arith
count_bound (e ∷ es) [] k cs = omega arith
count_bound (e ∷ es) (x ∷ c) k cs = omega (arith, struck_more cs (e, x) k, count_bound es c k (struck cs (e, x)))

-- ---- by what the code stores

pub counted_as : (cs : List ℕ) {l : List ℕ} {e f : Edit} → e ≡ f → l ≡ for f cs → l ≡ struck cs (e, Nothing)
counted_as cs {e = e} q h = h ∙ sym (struck_for cs e ∙ ap (λ (x : Edit). for x cs) q)

pub counted_none : (cs : List ℕ) (e : Edit) → ((t f : Place) (v : Value) → e ≡ Move t f v → ⊥) → ((t : Place) (v : Value) → e ≡ Remat t v → ⊥) → cs ≡ struck cs (e, Nothing)
counted_none cs (Move t f v) m r = absurd (m t f v refl)
counted_none cs (Remat t v) m r = absurd (r t v refl)
counted_none cs (Espill d r') m r = counted_as cs {e = Espill d r'} refl refl
counted_none cs (Ereload r' d) m r = counted_as cs {e = Ereload r' d} refl refl
counted_none cs (Misplaced t f) m r = counted_as cs {e = Misplaced t f} refl refl
counted_none cs Nothing m r = counted_as cs {e = Nothing} refl refl
