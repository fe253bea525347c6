-- For `number` and `word` of src/lexing.rt: the piece that stands at a cursor, by the digits or the packed bytes that the code finds there. Assumes nothing.
use mathlib.Core.Path.{◌≡◌, refl, sym, ◌∙◌, ap}
use mathlib.Core.Bool.{true, false}
use mathlib.Core.List.{List}
use mathlib.Core.Option.{none, some}
use Prim.Native.Nat.{ℕ, ◌+◌, ◌-◌, ◌<◌, ◌≤◌}
use native.Mathlib.Omega.{arith}
use lib.ListN.{length, get_or, take, drop, length-drop}
use lib.Seq.{drop-drop, get_or-drop}
use lib.Dec.{ltb}
use Rattle.rules.specs.Cells.{is_digit, decimal, word_of, word_mark, number_limit}
use Rattle.sheet.specs.Answers.{comma, crlf, ended, field_by, lead, plain_head, number_from}
use Rattle.sheet.specs.Packing.{pack, packed, find_num}
use Rattle.std.specs.declared.option.Option.TheVariants.{None}
use Rattle.sheet.proofs.Lists.{part_rest}
use Rattle.sheet.proofs.Pieces.{lead_within, lead_bytes, head_unread, head_ended}
use Rattle.sheet.proofs.Numbers.{number_head, number_out, head_below}
use Rattle.sheet.proofs.Packing.{word_pack, word_out}

-- what stands from at on, as the code's part of the sheet
abbrev rest : List ℕ → ℕ → List ℕ
rest s at = take (length s - at) (drop at s)

module _ (s : List ℕ) (at base v n : ℕ) (hv : v ≡ decimal 0 (lead is_digit 5 (rest s at))) (hn : n ≡ length (lead is_digit 5 (rest s at))) where
  ev : v ≡ decimal 0 (lead is_digit 5 (drop at s))
  ev = hv ∙ ap (λ (t : List ℕ). decimal 0 (lead is_digit 5 t)) (part_rest s at)

  en : n ≡ length (lead is_digit 5 (drop at s))
  en = hn ∙ ap (λ (t : List ℕ). length (lead is_digit 5 t)) (part_rest s at)

  pub number_within : at ≤ length s → at + n ≤ length s
  number_within h = omega (arith, en, lead_within is_digit 5 (drop at s), length-drop at s)

  pub number_small : v < number_limit
  number_small = omega (arith, ev, head_below (drop at s))

  pub number_unread : plain_head (rest s at) n ≡ false → None ≡ field_by (number_from base) (drop at s) at
  unfolding number_from is_digit
  number_unread e =
      let t = drop at s in
      let p : plain_head t (length (lead is_digit 5 t)) ≡ false = ap (plain_head t) (sym en) ∙ ap (λ (l : List ℕ). plain_head l n) (sym (part_rest s at)) ∙ e in
      head_unread is_digit refl refl 5 (number_from base) (number_out base) t at (rw (number_head t, p))

  pub number_ended : plain_head (rest s at) n ≡ true → ended (some (base + v)) (comma (rest s (at + n))) (crlf (rest s (at + n))) (at + n) ≡ field_by (number_from base) (drop at s) at
  unfolding number_from is_digit
  number_ended e =
      let t = drop at s in
      let p : plain_head t (length (lead is_digit 5 t)) ≡ true = ap (plain_head t) (sym en) ∙ ap (λ (l : List ℕ). plain_head l n) (sym (part_rest s at)) ∙ e in
      let d : rest s (at + n) ≡ drop n t = part_rest s (at + n) ∙ sym (drop-drop n at s) in
      rw (d, ev, en) (head_ended is_digit refl refl 5 (number_from base) (number_out base) t at (base + decimal 0 (lead is_digit 5 t)) (rw (number_head t, p)))

module _ (s : List ℕ) (at w n : ℕ) (hw : w ≡ pack (lead (ltb 44) 7 (rest s at))) (hn : n ≡ length (lead (ltb 44) 7 (rest s at))) where
  lw : w ≡ pack (lead (ltb 44) 7 (drop at s))
  lw = hw ∙ ap (λ (t : List ℕ). pack (lead (ltb 44) 7 t)) (part_rest s at)

  ln : n ≡ length (lead (ltb 44) 7 (drop at s))
  ln = hn ∙ ap (λ (t : List ℕ). length (lead (ltb 44) 7 t)) (part_rest s at)

  pub word_within : at ≤ length s → at + n ≤ length s
  word_within h = omega (arith, ln, lead_within (ltb 44) 7 (drop at s), length-drop at s)

  module _ (bytes : (i : ℕ) → get_or s i 0 < 256) where
    cell_is : word_of (lead (ltb 44) 7 (drop at s)) ≡ find_num w word_mark packed
    cell_is =
        let b : (i : ℕ) → get_or (drop at s) i 0 < 256 = λ i. rw (get_or-drop at s i 0) (bytes (at + i)) in
        word_pack (lead (ltb 44) 7 (drop at s)) (lead_bytes (ltb 44) 256 7 (drop at s) (omega arith) b) ∙ ap (λ (x : ℕ). find_num x word_mark packed) (sym lw)

    pub word_unread : find_num w word_mark packed ≡ none → None ≡ field_by word_of (drop at s) at
    word_unread e = head_unread (ltb 44) refl refl 7 word_of word_out (drop at s) at (cell_is ∙ e)

    pub word_ended : (c : ℕ) → find_num w word_mark packed ≡ some c → ended (some c) (comma (rest s (at + n))) (crlf (rest s (at + n))) (at + n) ≡ field_by word_of (drop at s) at
    word_ended c e =
        let d : rest s (at + n) ≡ drop n (drop at s) = part_rest s (at + n) ∙ sym (drop-drop n at s) in
        rw (d, ln) (head_ended (ltb 44) refl refl 7 word_of word_out (drop at s) at c (cell_is ∙ e))
