-- A part of a list, and a part stored at once: `put_mid at k l ys` is l with ys for the k elements at `at`. Assumes nothing.
use mathlib.Core.Path.{◌≡◌, sym, ap, ◌∙◌}
use mathlib.Core.List.{List, ◌++◌}
use Prim.Native.Nat.{ℕ, ◌+◌, ◌-◌, ◌<◌, ◌≤◌}
use native.Mathlib.Omega.{arith}
use lib.ListN.{length, get_or, take, drop, replicate, length-take, length-drop, length-replicate, get_or-replicate}
use lib.Seq.{length-take-le, take-append-le, drop-append-le, drop-drop, drop_at}
use borrow.Rule.Slice.PartMut.{put_mid, mid_of, post_of}
use Rattle.std.proofs.Common.{rules}
use Rattle.std.proofs.lemmas.List.{places}
use Rattle.std.proofs.lemmas.Slice.{between_is, take-put_mid_below, drop-put_mid}
use Rattle.laws.specs.Spans.{Span}
use Rattle.record.specs.Flat.{section}

pub length-section : (l : List ℕ) (at k : ℕ) → at + k ≤ length l → length (section l at k) ≡ k
length-section l at k h = simp (length-take, length-drop) (omega arith)

inner : (p n : ℕ) (l : List ℕ) → take n (drop p l) ≡ drop p (take (p + n) l)
inner p n l = let e : p + n - p ≡ n = omega arith in rw e at (between_is l p (p + n))

-- ---- the parts of a list with a part stored at once

module _ (at k : ℕ) (rec ys : List ℕ) (l : at + k ≤ length rec) (e : length ys ≡ k) where
  pub mid_before : (p n : ℕ) → p + n ≤ at → section (put_mid at k rec ys) p n ≡ section rec p n
  mid_before p n h = inner p n (put_mid at k rec ys) ∙ ap (drop p) (take-put_mid_below at k rec ys (p + n) h (omega arith)) ∙ sym (inner p n rec)

  pub mid_behind : (p n : ℕ) → at + k ≤ p → section (put_mid at k rec ys) p n ≡ section rec p n
  mid_behind p n h = ap (take n) (drop-put_mid at k rec ys p h (omega arith) e)

  pub mid_part : (p n : ℕ) → p + n ≤ k → section (put_mid at k rec ys) (at + p) n ≡ section ys p n
  mid_part p n h =
      let rest = post_of at k rec in
      let w : n ≤ length (drop p ys) = rw (length-drop p ys) (omega arith) in
      ap (take n) (sym (drop-drop p at (put_mid at k rec ys)) ∙ ap (drop p) (drop_at (take at rec) (ys ++ rest) at (length-take-le at rec (omega arith))) ∙ drop-append-le p ys rest (omega arith))
      ∙ take-append-le n (drop p ys) rest w

-- ---- its elements

pub span_put : (at : ℕ) (f : ℕ → ℕ) (l ys : List ℕ) {n : ℕ} (k : ℕ) → n ≡ k → at + k ≤ length l → length ys ≡ k → ((j : ℕ) → j < k → get_or ys j 0 ≡ f j) → Span at f l k (put_mid at n l ys)
span_put at f l ys k e h m is =
    rw e (record {
      long = search (rules, places);
      done = λ j u.
          let z : get_or (put_mid at k l ys) (at + j) 0 ≡ get_or ys j 0 = grind (arith, places) in
          z ∙ is j u;
      before = λ j u. grind (arith, places);
      behind = λ j u. grind (arith, places);
    })

-- filled with v
pub span_filled : (at v : ℕ) (l ys : List ℕ) {n : ℕ} (k : ℕ) → n ≡ k → at + k ≤ length l → ys ≡ replicate (length (mid_of at n l)) v → Span at (λ j. v) l k (put_mid at n l ys)
span_filled at v l ys {n} k e h is =
    let m : length (mid_of at n l) ≡ k = rw e (length-section l at k h) in
    span_put at (λ j. v) l ys k e h (ap length is ∙ length-replicate (length (mid_of at n l)) v ∙ m)
    (λ j u. ap (λ (x : List ℕ). get_or x j 0) is ∙ get_or-replicate (length (mid_of at n l)) j v 0 (omega arith))
