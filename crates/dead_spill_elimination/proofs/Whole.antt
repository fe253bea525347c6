-- For `sweep_edits` of src/sweep.rt: the sweep is the definitions' sweep: the words at the ends are `ends`, and the rows struck by them are `strike_blocks`. Assumes nothing.
use mathlib.Core.Path.{◌≡◌, refl, sym, ◌∙◌, ap, subst}
use mathlib.Core.Logic.{◌↔◌}
use mathlib.Core.Bool.{true}
use mathlib.Core.List.{List, [], ◌∷◌, map}
use Prim.Native.Nat.{ℕ, zero, suc, ◌≤◌, ◌<◌}
use native.Mathlib.Omega.{arith}
use lib.ListN.{length, get_or, drop, take, replicate, length-replicate, get_or-replicate}
use lib.Seq.{drop-nil, length-take-le, take_all, get_or-take}
use Rattle.laws.specs.Digits.{bit}
use Rattle.laws.specs.Lists.{is_in}
use Rattle.laws.proofs.Cases.{same_test}
use Rattle.entity.specs.Limits.{block_limit, edit_limit}
use Rattle.entity.specs.declared.forms.Place.{Place}
use Rattle.entity.specs.declared.forms.Edit.{Edit}
use Rattle.rules.specs.Sheet.{Sheet, block_count}
use Rattle.rules.specs.Function.{Op, Func, Item, row, ins, items, look, func_of}
use Rattle.rules.specs.Sweep.{ends}
use Rattle.rules.proofs.Refusals.{in_limits}
use Rattle.run.specs.Swept.{WantedAtEnd, ReadsWithin}
use Rattle.run.proofs.Rows.{ops_look}
use Rattle.run.proofs.Settle.{agreement}
use Rattle.run.proofs.Struck.{func_many}
use Rattle.table.specs.Rows.{count_in}
use Rattle.table.specs.Sheet.{sheet_in}
use Rattle.table.specs.Edits.{edits_in}
use Rattle.table.proofs.Sheets.{blocks_are, edits_are, long_of}
use Rattle.table.proofs.Stored.{edits_length}
use Rattle.marks.specs.Marks.{applied}
use Rattle.marks.proofs.Marking.{applied_exact}
use Rattle.dead_spill_elimination.specs.Slots.{LowReads}
use Rattle.dead_spill_elimination.specs.Touched.{touched_to}
use Rattle.dead_spill_elimination.specs.Worklist.{Word, Facts}
use Rattle.dead_spill_elimination.specs.Strikes.{All, Outcome}
use Rattle.dead_spill_elimination.specs.Held.{the_edits, the_places, Held, swept_edits, Swept}
use Rattle.dead_spill_elimination.proofs.Linking.{linked, low_inst, low_row}
use Rattle.dead_spill_elimination.proofs.Facing.{facts}

module _ {t edits places counts touched : List ℕ} (h : Held t edits places counts) (told : touched ≡ touched_to t places (replicate 1024 0) (count_in t 10)) where
  abbrev sh : Sheet
  sh = sheet_in t

  abbrev ps : List Place
  ps = the_places t places

  abbrev es : List Edit
  es = the_edits t edits

  abbrev f : Func
  f = func_of sh ps es

  item_low : (x : Item) → LowReads (look sh ps es x)
  unfolding look
  item_low (row j) = low_row h j
  item_low (ins i) = low_inst h i

  left_low : (l : List Item) (i : ℕ) (o : Op) (os : List Op) → drop i (map (look sh ps es) l) ≡ o ∷ os → LowReads o
  left_low [] i o os q = let z : ◌≡◌ {A = ℕ} 0 1 = cc (drop-nil {A = Op} i) in absurd (omega arith)
  left_low (x ∷ l) zero o os q = let e : o ≡ look sh ps es x = cc in rw e (item_low x)
  left_low (x ∷ l) (suc i) o os q = left_low l i o os q

  within : ReadsWithin f
  within b i s o os l = left_low (items sh b) i o os (ap (drop i) (sym (ops_look sh ps es b)) ∙ l) s

  -- words that are what is wanted at the ends are the lists computed
  are_ends : (X : List ℕ) → ((b s : ℕ) → (bit (get_or X b 0) s ≡ true) ↔ WantedAtEnd f b s) → (b : ℕ) → Word (get_or X b 0) (get_or (ends f) b [])
  are_ends X w b k =
      let a = agreement f (func_many sh ps es) within b k in
      same_test (bit (get_or X b 0) k) (is_in k (get_or (ends f) b [])) (λ e. a.1 ((w b k).0 e)) (λ e. (w b k).1 (a.0 e))

  module _ (marks : List ℕ) (long : length marks ≡ length sh.edits) (unmarked : (j : ℕ) → get_or marks j 0 ≡ 0) where
    all_of : (X : List ℕ) → block_count sh ≡ length X → ((b s : ℕ) → (bit (get_or X b 0) s ≡ true) ↔ WantedAtEnd f b s) → All t touched edits marks counts X
    all_of X n w =
        let N : length es ≡ length sh.edits = edits_length edits (length sh.edits) in
        record {
          sheet = sh;
          places_are = ps;
          edits = es;
          after = ends f;
          linked = linked h told;
          rows = ap (edits_in edits) N;
          room = rw N h.room;
          long = omega (arith, N, long);
          unmarked = unmarked;
          blocks = n;
          words = λ b l. are_ends X w b;
        }

    done : (X : List ℕ) (n : block_count sh ≡ length X) (w : (b s : ℕ) → (bit (get_or X b 0) s ≡ true) ↔ WantedAtEnd f b s) (marks' counts' : List ℕ)
        → Outcome (all_of X n w) marks' counts' → Swept t edits places counts (applied edits marks') counts'
    unfolding all_of
    done X n w marks' counts' r =
        let N : length es ≡ length sh.edits = edits_length edits (length sh.edits) in
        record {
          edits_are = subst (λ (m : ℕ). edits_in (applied edits marks') m ≡ swept_edits t edits places) N r.struck_rows;
          counts_are = r.counted;
          cells_kept = λ j l x. applied_exact edits marks' j (omega (arith, h.room)) x;
        }

    pub swept : (n : ℕ) (X : List ℕ) {marks' cells' counts' : List ℕ} → n ≡ block_count sh → length X ≡ n
        → ((f : Func) → Facts t edits touched f n → (b s : ℕ) → (bit (get_or X b 0) s ≡ true) ↔ WantedAtEnd f b s)
        → ((g : All t touched edits marks counts X) → Outcome g marks' counts') → length marks' ≡ length marks → cells' ≡ applied edits (take edit_limit marks') → Swept t edits places counts cells' counts'
    swept n X {marks'} {cells'} {counts'} e l w k z q =
        let m : block_count sh ≡ length X = sym (l ∙ e) in
        let u : (b s : ℕ) → (bit (get_or X b 0) s ≡ true) ↔ WantedAtEnd f b s = w f (rw e (facts h told)) in
        let few : length marks' ≤ edit_limit = omega (arith, z, long, (in_limits sh h.ready.limits).few_edits) in
        rw (q ∙ ap (applied edits) (take_all edit_limit marks' few)) (done X m u marks' counts' (k (all_of X m u)))

-- as many blocks and edits as the table has
pub blocks_are_few : {t edits places counts : List ℕ} → Held t edits places counts → count_in t 6 ≤ block_limit
blocks_are_few {t} h = omega (arith, (in_limits (sheet_in t) h.ready.limits).few_blocks, long_of (blocks_are t))

pub edits_are_few : {t edits places counts : List ℕ} → Held t edits places counts → count_in t 12 ≤ edit_limit
edits_are_few {t} h = omega (arith, (in_limits (sheet_in t) h.ready.limits).few_edits, long_of (edits_are t))

pub edits_counted : (t : List ℕ) → count_in t 12 ≡ length (sheet_in t).edits
edits_counted t = sym (long_of (edits_are t))

-- ---- a part of an array that holds one value

pub filled_length : (m v n : ℕ) → n ≤ m → length (take n (replicate m v)) ≡ n
filled_length m v n h = length-take-le n (replicate m v) (rw (length-replicate m v) h)

pub filled_at : (m v n t : ℕ) → n ≤ m → t < n → get_or (take n (replicate m v)) t 0 ≡ v
filled_at m v n t h l = get_or-take n (replicate m v) t 0 l ∙ get_or-replicate m t v 0 (omega arith)

pub filled_zeros : (m n b : ℕ) → ◌≡◌ {A = ℕ} (get_or (take n (replicate m 0)) b 0) 0
filled_zeros m zero b = refl
filled_zeros zero (suc n) b = refl
filled_zeros (suc m) (suc n) zero = refl
filled_zeros (suc m) (suc n) (suc b) = filled_zeros m n b
