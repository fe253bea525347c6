-- For `packed` and `lookup` of src/fields.rt and `word` of src/lexing.rt: the words, found packed, and what no word is. Assumes nothing.
use mathlib.Core.Path.{◌≡◌, refl, sym, ◌∙◌, ap}
use mathlib.Core.Bool.{Bool, true, false, not, ◌&&◌}
use mathlib.Core.List.{List, [], ◌∷◌, map}
use mathlib.Core.Option.{none}
use Prim.Native.Nat.{ℕ, zero, suc, ◌+◌, ◌*◌, ◌^◌, ◌<◌, ◌≤◌}
use Prim.Native.String.{String}
use native.Mathlib.Nat.{pow-suc, pow-le-pow_right, add-mul, mul_assoc, mul_comm, mul-le-mul_right}
use native.Mathlib.Numerals.{add-one}
use native.Mathlib.Omega.{arith}
use lib.ListN.{length, get_or}
use lib.Dec.{leb, ltb, eqb}
use borrow.Author.Tests.{eq-eqb, ne_eqb, eqb-true, eqb-false, ltb-true}
use Rattle.laws.specs.Lists.{all}
use Rattle.laws.proofs.Cases.{by_bool, never, and_parts}
use Rattle.rules.specs.Text.{bytes, same}
use Rattle.rules.specs.Cells.{find, is_digit, words, word_of, word_mark}
use Rattle.sheet.specs.Packing.{pack, packed, find_num}

-- ---- one byte more

pub pack_more : (q b m w : ℕ) → (q * 256 + b) * m + w ≡ q * (m * 256) + (w + b * m)
pack_more q b m w =
    let e : q * 256 * m ≡ q * (m * 256) = mul_assoc q 256 m ∙ ap (λ (x : ℕ). q * x) (mul_comm 256 m) in
    rw (add-mul, e) (omega arith)

-- of at most seven: all stays below 256 ^ 7
module _ (k m w b : ℕ) (h : k < 7) (e : m ≡ 256 ^ k) (l : w < m) (u : b < 256) where
  pub pack_room : (m ≤ 281474976710656) × (b * m ≤ 255 * m)
  pack_room = (omega (arith, pow-le-pow_right {n = 256} (omega arith) {i = k} {j = 6} (omega arith)), mul-le-mul_right m (omega arith))

  pub pack_grown : (m * 256 ≡ 256 ^ (k + 1)) × (w + b * m < m * 256)
  pack_grown = (rw (add-one, pow-suc, e), omega (arith, pack_room))

-- ---- packed words are words

module _ (f : List ℕ) where
  abbrev pub Bytes : Type 0
  Bytes = (i : ℕ) → get_or f i 0 < 256

pack_pos : (f : List ℕ) → 0 < pack f
unfolding pack
pack_pos [] = omega arith
pack_pos (b ∷ bs) = omega (arith, pack_pos bs)

step : (a b x y : ℕ) → a < 256 → b < 256 → (eqb a b && eqb x y) ≡ eqb (x * 256 + a) (y * 256 + b)
step a b x y p q = go (eqb a b) (eqb x y) refl refl
  where
    go : (s t : Bool) → eqb a b ≡ s → eqb x y ≡ t → (s && t) ≡ eqb (x * 256 + a) (y * 256 + b)
    go true true e f = sym (eq-eqb (x * 256 + a) (y * 256 + b) (omega (arith, eqb-true a b e, eqb-true x y f)))
    go true false e f = sym (ne_eqb (x * 256 + a) (y * 256 + b) (λ (g : x * 256 + a ≡ y * 256 + b). eqb-false x y f (omega (arith, eqb-true a b e))))
    go false t e f = sym (ne_eqb (x * 256 + a) (y * 256 + b) (λ (g : x * 256 + a ≡ y * 256 + b). eqb-false a b e (omega arith)))

-- a list is another just where its packed number is
same_pack : (f g : List ℕ) → Bytes f → Bytes g → same f g ≡ eqb (pack f) (pack g)
unfolding same pack
same_pack [] [] p q = refl
same_pack [] (b ∷ bs) p q = sym (ne_eqb 1 (pack bs * 256 + b) (λ e. omega (arith, pack_pos bs)))
same_pack (a ∷ xs) [] p q = sym (ne_eqb (pack xs * 256 + a) 1 (λ e. omega (arith, pack_pos xs)))
same_pack (a ∷ xs) (b ∷ bs) p q =
    rw (same_pack xs bs (λ i. p (suc i)) (λ i. q (suc i)))
    (step a b (pack xs) (pack bs) (p 0) (q 0))

is_byte : ℕ → Bool
is_byte b = ltb b 256

are_bytes : (l : List ℕ) → all is_byte l ≡ true → Bytes l
unfolding is_byte
are_bytes [] t i = omega arith
are_bytes (b ∷ bs) t zero = ltb-true b 256 (and_parts (is_byte b) (all is_byte bs) t).0
are_bytes (b ∷ bs) t (suc i) = are_bytes bs (and_parts (is_byte b) (all is_byte bs) t).1 i

-- a word that is found is found packed
find_pack : (f : List ℕ) → Bytes f → (k : ℕ) (ws : List String) → all (λ w. all is_byte (bytes w)) ws ≡ true
    → find (λ w. same f (bytes w)) k ws ≡ find_num (pack f) k (map (λ w. pack (bytes w)) ws)
unfolding find find_num
find_pack f h k [] t = refl
find_pack f h k (w ∷ ws) t =
    let x = and_parts (all is_byte (bytes w)) (all (λ w. all is_byte (bytes w)) ws) t in
    rw (same_pack f (bytes w) h (are_bytes (bytes w) x.0), find_pack f h (k + 1) ws x.1)

pub word_pack : (f : List ℕ) → Bytes f → word_of f ≡ find_num (pack f) word_mark packed
unfolding word_of packed words bytes is_byte
word_pack f h = find_pack f h word_mark words refl

-- ---- the code's `match`: what its last arm knows

abbrev pub Apart : ℕ → Type 0 → List ℕ → Type 0
Apart w A [] = A
Apart w A (x ∷ xs) = Apart w (A × (w ≡ x → ⊥)) xs

apart : (w : ℕ) (A : Type 0) (k : ℕ) (xs : List ℕ) → Apart w A xs → (find_num w k xs ≡ none) × A
unfolding find_num
apart w A k [] o = (refl, o)
apart w A k (x ∷ xs) o = let r = apart w (A × (w ≡ x → ⊥)) (k + 1) xs o in (rw (ne_eqb w x r.1.1) r.0, r.1.0)

pub missing : (w : ℕ) → Apart w (Unit {0}) packed → find_num w word_mark packed ≡ none
missing w o = (apart w (Unit {0}) word_mark packed o).0

-- ---- what no word is

same_is : (f g : List ℕ) → same f g ≡ true → f ≡ g
unfolding same
same_is [] [] e = refl
same_is [] (b ∷ bs) e = never e
same_is (a ∷ xs) [] e = never e
same_is (a ∷ xs) (b ∷ bs) e =
    let x = and_parts (eqb a b) (same xs bs) e in
    let p = eqb-true a b x.0 in
    let q = same_is xs bs x.1 in
    cc

module _ (p : List ℕ → Bool) (f : List ℕ) (e : p f ≡ false) where
  not_same : (g : List ℕ) → p g ≡ true → same f g ≡ false
  not_same g h = by_bool (same f g) (λ s. never (sym e ∙ ap p (same_is f g s) ∙ h)) (λ s. s)

  not_found : (k : ℕ) (ws : List String) → all (λ w. p (bytes w)) ws ≡ true → find (λ w. same f (bytes w)) k ws ≡ none
  unfolding find
  not_found k [] t = refl
  not_found k (w ∷ ws) t =
      let x = and_parts (p (bytes w)) (all (λ w. p (bytes w)) ws) t in rw (not_same (bytes w) x.0) (not_found (k + 1) ws x.1)

pub word_out : (f : List ℕ) → (all (ltb 44) f && leb (length f) 7) ≡ false → word_of f ≡ none
unfolding word_of words bytes
word_out f e = not_found (λ g. all (ltb 44) g && leb (length g) 7) f e word_mark words refl

-- none has a digit as its first or second byte
module _ (f : List ℕ) (i : ℕ) where
  digit_out : is_digit (get_or f i 0) ≡ true → all (λ w. not (is_digit (get_or (bytes w) i 0))) words ≡ true → word_of f ≡ none
  unfolding word_of
  digit_out e t = not_found (λ g. not (is_digit (get_or g i 0))) f (rw e) word_mark words t

pub word_first : (f : List ℕ) → is_digit (get_or f 0 0) ≡ true → word_of f ≡ none
unfolding words bytes is_digit
word_first f e = digit_out f 0 e refl

pub word_second : (f : List ℕ) → is_digit (get_or f 1 0) ≡ true → word_of f ≡ none
unfolding words bytes is_digit
word_second f e = digit_out f 1 e refl
