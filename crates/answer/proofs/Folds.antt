-- For `put_folds` of src/rows.rt: the folds that the definition takes instruction by instruction are those of the operand rows in their order. Assumes nothing.
use mathlib.Core.Path.{◌≡◌, sym, ap, ap₂, ◌∙◌}
use mathlib.Core.Bool.{◌&&◌}
use mathlib.Core.List.{List, [], map, flat_map, zip, zip_with}
use Prim.Native.Nat.{ℕ, ◌+◌, ◌-◌, ◌<◌}
use native.Mathlib.Nat.{zero-add}
use native.Mathlib.Omega.{arith}
use lib.Dec.{eqb}
use lib.ListN.{length, get_or, length-map}
use borrow.Author.Tests.{lt-ltb, ltb-true, eq-eqb, ne_eqb}
use Rattle.laws.specs.Lists.{keep, from}
use Rattle.laws.proofs.Lists.{zipped, from_long}
use Rattle.entity.specs.Limits.{inst_limit}
use Rattle.entity.specs.declared.forms.Place.{Place}
use Rattle.rules.specs.Rows.{first}
use Rattle.rules.specs.Sheet.{Sheet, OpRow, field, inst_count, place_of}
use Rattle.rules.specs.Accept.{inst_exists, subject_exists, constraint_exists, place_exists}
use Rattle.rules.specs.Forward.{Walk, indexed}
use Rattle.rules.specs.Answer.{fold_row}
use Rattle.rules.proofs.Refusals.{all_named_lem, each_named}
use Rattle.table.specs.Layout.{op_index}
use Rattle.table.specs.Rows.{count_in, kind_row}
use Rattle.table.specs.Sheet.{rows_at, sheet_in}
use Rattle.table.specs.Index.{Ready, before, range_in}
use Rattle.table.specs.Edits.{place_in, places_in}
use Rattle.table.proofs.Loops.{and_left, all_at, keep_map}
use Rattle.table.proofs.Sheets.{op_row_of, ops_are, long_of, within_of, rows_at_lem, rows_long}
use Rattle.table.proofs.Stored.{places_at}
use Rattle.table.proofs.Orders.{ready_ops}
use Rattle.table.proofs.Ranges.{before_within, before_low, before_all}
use Rattle.table.proofs.Lookups.{ops_below}
use Rattle.answer.specs.Rows.{fold_line, fold_at}
use Rattle.table.specs.Written.{PlaceCell}
use Rattle.answer.proofs.Runs.{keep_between, numbered, flat_same, stairs, before_up, before_below, before_above}
use Rattle.answer.proofs.Cells.{field_place, cell_of_place, same_place_lem}
use Rattle.answer.proofs.Ops.{op_place}

module _ {t : List ℕ} (g : Ready t) where
  abbrev sh : Sheet
  sh = sheet_in t

  abbrev rows : List (List ℕ)
  rows = rows_at t 10

  -- how many operand rows come before those of instruction i
  abbrev low : ℕ → ℕ
  low i = before i rows

  abbrev op : ℕ → OpRow
  op n = get_or sh.ops n (op_row_of [])

  abbrev with : ℕ → ℕ × OpRow
  with n = (n, op n)

  many : length sh.ops ≡ count_in t 10
  many = long_of (ops_are t)

  many_rows : length rows ≡ count_in t 10
  many_rows = rows_long t 10

  op_is : (n : ℕ) → n < count_in t 10 → op n ≡ op_row_of (kind_row t 10 n)
  op_is n h = within_of (ops_are t) n (op_row_of []) h

  op_at : (n : ℕ) → n < count_in t 10 → (op n).at ≡ first (get_or rows n [])
  op_at n h = ap (λ (o : OpRow). o.at) (op_is n h) ∙ ap first (sym (rows_at_lem t 10 n))

  -- the rows of instruction i
  of_inst : (i : ℕ) → keep (λ (jo : ℕ × OpRow). eqb jo.1.at i) (zip (from 0 (length sh.ops)) sh.ops) ≡ map with (from (low i) (low (i + 1) - low i))
  of_inst i =
      ap (keep (λ (jo : ℕ × OpRow). eqb jo.1.at i)) (zipped with (op_row_of []) 0 sh.ops (λ j u. rw (zero-add j)))
      ∙ keep_map with (λ jo. eqb jo.1.at i) (from 0 (length sh.ops))
      ∙ ap (map with)
      (keep_between (λ n. eqb (op n).at i) (length sh.ops) (length sh.ops) 0 (low i) (low (i + 1)) (zero-add (length sh.ops)) (omega arith) (before_up rows i (i + 1) (omega arith))
      (omega (arith, before_within (i + 1) rows, many, many_rows))
      (λ n x y. let u : n < count_in t 10 = omega (arith, before_within (i + 1) rows, many_rows) in
      eq-eqb (op n).at i (omega (arith, op_at n u, before_below rows (i + 1) n y, before_above rows (ready_ops g) i n x (omega (arith, many_rows)))))
      (λ n x y. let u : n < count_in t 10 = omega (arith, before_within i rows, many_rows) in
      ne_eqb (op n).at i (λ e. omega (arith, op_at n u, before_below rows i n y)))
      (λ n x y. let u : n < count_in t 10 = omega (arith, many) in
      ne_eqb (op n).at i (λ e. omega (arith, op_at n u, before_above rows (ready_ops g) (i + 1) n x (omega (arith, many_rows))))))

  -- where the index says that they begin
  begin_is : (x : ℕ) → x < inst_limit → (range_in t op_index inst_limit x).from ≡ low x
  unfolding range_in
  begin_is x h = rw (lt-ltb x inst_limit h) (g.built.ops x (omega arith))

  -- every row is of an instruction
  insts_hold : low (inst_count sh) ≡ count_in t 10
  insts_hold =
      before_all (inst_count sh) rows
      (λ j u.
      let o : OpRow = op j in
      let p = all_at (λ (o : OpRow). inst_exists sh o.at && subject_exists sh o.kind && constraint_exists sh o.constraint && place_exists sh o.place) (op_row_of []) sh.ops (each_named sh (all_named_lem sh g.names)).ops j (omega (arith, many, many_rows)) in
      omega (
        arith,
        op_at j (omega (arith, many_rows)),
        ltb-true o.at (inst_count sh)
            (and_left (inst_exists sh o.at) (subject_exists sh o.kind)
            (and_left (inst_exists sh o.at && subject_exists sh o.kind) (constraint_exists sh o.constraint)
            (and_left (inst_exists sh o.at && subject_exists sh o.kind && constraint_exists sh o.constraint) (place_exists sh o.place) p))),
      ))
      ∙ many_rows

  module _ (w : Walk) (places : List ℕ) (e : w.places ≡ places_in places (length sh.ops)) (ok : (n : ℕ) → n < length sh.ops → PlaceCell (get_or places n 0)) where
    place_is : (n : ℕ) (d : Place) → n < count_in t 10 → get_or w.places n d ≡ place_of (get_or places n 0)
    unfolding place_in
    place_is n d h = ap (λ (l : List Place). get_or l n d) e ∙ places_at places (length sh.ops) n d (omega (arith, many))

    -- one row
    fold_is : (n i : ℕ) → n < count_in t 10 → first (get_or rows n []) ≡ i → fold_row w (n - low i, n, op n) ≡ fold_at t places n
    unfolding fold_row fold_at fold_line
    fold_is n i h q =
        let row : List ℕ = kind_row t 10 n in
        let c : ℕ = get_or places n 0 in
        let s : field 1 row ≡ i = ap first (sym (rows_at_lem t 10 n)) ∙ q in
        let u : field 1 row < inst_limit = omega (arith, ops_below g n (omega (arith, many_rows))) in
        let b : (range_in t op_index inst_limit (field 1 row)).from ≡ low i = begin_is (field 1 row) u ∙ ap low s in
        let k : PlaceCell c = ok n (omega (arith, many)) in
        let f : PlaceCell (field 5 row) = op_place g n h in
        ap (λ (o : OpRow). fold_row w (n - low i, n, o)) (op_is n h)
        ∙ rw (place_is n (place_of (field 5 row)) h, same_place_lem c (field 5 row) k.0 f.0, cell_of_place c k.0, field_place c k, b)

    inst_is : (i : ℕ) → flat_map (fold_row w) (indexed sh i) ≡ flat_map (fold_at t places) (from (low i) (low (i + 1) - low i))
    unfolding indexed
    inst_is i =
        let c : ℕ = low (i + 1) - low i in
        let h : ℕ → ℕ × OpRow → ℕ × ℕ × OpRow = λ k jo. (k, jo.0, jo.1) in
        ap (λ (l : List (ℕ × OpRow)). flat_map (fold_row w) (zip_with h (from 0 (length l)) l)) (of_inst i)
        ∙ ap (λ (m : ℕ). flat_map (fold_row w) (zip_with h (from 0 m) (map with (from (low i) c)))) (length-map (from (low i) c) with ∙ from_long (low i) c)
        ∙ numbered (fold_row w) h with (fold_at t places) (low i) c 0 (low i) (omega arith)
        (λ j u v.
        let n : ℕ = low i + j in
        let z : n - low i ≡ j = omega arith in
        let y : n < low (i + 1) = omega arith in
        let x : n < length rows = omega (arith, before_within (i + 1) rows) in
        ap (λ (k : ℕ). fold_row w (k, n, op n)) (sym z)
        ∙ fold_is n i (omega (arith, many_rows)) (omega (arith, before_below rows (i + 1) n y, before_above rows (ready_ops g) i n (omega arith) x)))

    -- ALL OF THEM
    pub folds_are : flat_map (λ i. flat_map (fold_row w) (indexed sh i)) (from 0 (inst_count sh)) ≡ flat_map (fold_at t places) (from 0 (count_in t 10))
    folds_are =
        let m : ℕ = inst_count sh in
        let z : low 0 ≡ 0 = before_low 0 rows (λ j u. omega arith) in
        let y : low (0 + m) - low 0 ≡ count_in t 10 = rw (zero-add m) (omega (arith, insts_hold, z)) in
        flat_same (λ i. flat_map (fold_row w) (indexed sh i)) (λ i. flat_map (fold_at t places) (from (low i) (low (i + 1) - low i))) (from 0 m) inst_is
        ∙ stairs (fold_at t places) low (before_up rows) m 0 ∙ ap₂ (λ (a n : ℕ). flat_map (fold_at t places) (from a n)) z y
