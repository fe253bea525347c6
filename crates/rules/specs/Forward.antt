-- Document 01, "The forward rules": the walks over a block, and the four levels.
use Rattle.std.specs.Prelude.{Bool, true, false, cond, not, ◌&&◌, ◌||◌, ℕ, zero, suc, ◌+◌, ◌*◌, eqb, leb, ltb, length, get_or, set, replicate}
use mathlib.Core.List.{List, [], ◌∷◌, map, flat_map, zip, zip_with}
use Rattle.std.proofs.Math.Option
use Rattle.std.proofs.Math.Option.{Option, none, some, Option-elim}
use Rattle.laws.specs.{First.first, Fold.run}
use Rattle.laws.specs.Lists.{any, keep, is_in, from}
use Rattle.entity.specs.Limits.{slot_limit, reg_limit}
use Rattle.entity.specs.declared.forms.Level.{Level}
use Rattle.entity.specs.declared.forms.Level.TheVariants.{Off, Local, Forward, Global}
use Rattle.rules.specs.Text.{same}
use Rattle.rules.specs.Sheet.{Place, Reg, Slot, Class, Fixed, Reuse, Def, Use, EarlyDef, DefGroup, UseGroup, EarlyDefGroup, NonAllocatable, Edit, Move, Remat, Espill, Ereload, Misplaced, Nothing, Sheet, OpRow, EditRow, reg_count, block_count, block_row, class_row, values_of, units_of, is_memory, succs_of, preds_of, clobbers_of, insts_of, is_use, is_early, subject_of}
use Rattle.rules.specs.Accept.{is_entry, headed_by, class_for, operands_at}
use Rattle.rules.specs.Record.{Record, Known, absent, nothing, fresh, begins, write_unit, spill_in, holds, forget_unit, is_home, define, effect}

-- "one `count` row: blocks_preprocessed_for_optimizer, optimized_redundant_reload, _move, _remat, _spill, optimized_reload_to_move,
-- optimized_stack_use, eliminated_dead_spill, eliminated_dead_remat"
abbrev pub preprocessed : ℕ
preprocessed = 0

abbrev pub redundant_reload : ℕ
redundant_reload = 1

abbrev pub redundant_move : ℕ
redundant_move = 2

abbrev pub redundant_remat : ℕ
redundant_remat = 3

abbrev pub redundant_spill : ℕ
redundant_spill = 4

abbrev pub reload_to_move : ℕ
reload_to_move = 5

abbrev pub stack_use : ℕ
stack_use = 6

abbrev pub dead_spill : ℕ
dead_spill = 7

abbrev pub dead_remat : ℕ
dead_remat = 8

unfoldable pub count : ℕ → List ℕ → List ℕ
count k counts = set counts k (get_or counts k 0 + 1)

-- a walk: the record, the edits, the operands' places, the counts
pub record Walk : Type 0 where
  pub rec : Record
  pub edits : List Edit
  pub places : List Place
  pub counts : List ℕ

abbrev pub with_rec : (Record → Record) → Walk → Walk
with_rec f w = record { rec = f w.rec; edits = w.edits; places = w.places; counts = w.counts }

-- what is handed to each block so far, and the blocks that wait
pub record Handed : Type 0 where
  pub states : List (Option Known)
  pub waiting : List ℕ

module _ (sh : Sheet) where
  -- "Dominance climbs from block to idom, the block number falling at each call; a block dominates itself."
  unfoldable pub climbs : ℕ → ℕ → ℕ → Bool
  climbs zero a b = eqb a b
  climbs (suc n) a b = eqb a b || Option-elim (block_row sh b).idom false (λ i. ltb i b && climbs n a i)

  unfoldable pub dominates : ℕ → ℕ → Bool
  dominates a b = climbs b a b

  -- ---- a block begins

  -- "(a register pair also as its units' last writes)"
  unfoldable pub write_held : List ℕ → Record → ℕ → Record
  write_held held s r = let v = get_or held r absent in cond (eqb v absent) s (run (write_unit r v) s (units_of sh r))

  unfoldable pub take_in : Known → Record → Record
  take_in k s = run (write_held k.held) (begins k s) (from 0 (reg_count sh))

  -- "then each of its parameter rows defines its value at its place"
  unfoldable pub enter : ℕ → Known → Record → Record
  enter b k s = run (λ t p. define sh b p.value p.place t) (take_in k s) (keep (λ p. eqb p.at b) sh.params)

  -- ---- an instruction

  -- the registers of the group of class c that begins with register r
  unfoldable pub group_regs : ℕ → ℕ → List ℕ
  group_regs c r = flat_map (λ g. g.regs) (keep (headed_by c r) sh.groups)

  -- "Group definitions define member by member.": the values of group g, each at its register of the group that o begins
  unfoldable pub members : OpRow → ℕ → List (ℕ × Place)
  members o g =
      elim o.place [
        | Reg r ↦ zip_with (λ v q. (v, Reg (record { 0 = q }))) (values_of sh g) (group_regs (Option.get_or (class_for sh o) 0) r.0)
        | Slot t ↦ []
      ]

  -- the values that an operand defines, each at its place; and those of early definitions, and of the others
  unfoldable pub all_defs : OpRow → List (ℕ × Place)
  all_defs o =
      elim o.kind [
        | Def v ↦ (v.0, o.place) ∷ []
        | EarlyDef v ↦ (v.0, o.place) ∷ []
        | DefGroup g ↦ members o g.0
        | EarlyDefGroup g ↦ members o g.0
        | Use v ↦ []
        | UseGroup g ↦ []
        | NonAllocatable ↦ []
      ]

  abbrev pub early_defs : OpRow → List (ℕ × Place)
  early_defs o = cond (is_early o.kind) (all_defs o) []

  abbrev pub other_defs : OpRow → List (ℕ × Place)
  other_defs o = cond (is_early o.kind) [] (all_defs o)

  unfoldable pub define_all : ℕ → List (ℕ × Place) → Record → Record
  define_all b ds s = run (λ t d. define sh b d.0 d.1 t) s ds

  unfoldable pub place_units : Place → List ℕ
  place_units (Reg r) = units_of sh r.0
  place_units (Slot t) = []

  -- "*An instruction* then forgets clobbered units that it did not itself define."
  unfoldable pub clobber : ℕ → Record → Record
  clobber i s =
      let own = flat_map (λ o. flat_map (λ d. place_units d.1) (all_defs o)) (operands_at sh i) in
      run forget_unit s (keep (λ u. not (is_in u own)) (clobbers_of sh i))

  -- "a slot or a register flagged memory"
  unfoldable pub in_memory : Place → Bool
  in_memory (Reg r) = is_memory sh r.0
  in_memory (Slot t) = true

  -- the lowest non-memory register that holds v and is one of those of which f is true
  unfoldable pub lowest_holding : (ℕ → Bool) → ℕ → Record → Option ℕ
  lowest_holding f v s = first some none (λ r. f r && not (is_memory sh r) && holds s r v) 0 (reg_count sh)

  -- operand k of instruction i is reused
  unfoldable pub reused : ℕ → ℕ → Bool
  reused i k = any (λ o. elim o.constraint [ Class c ↦ false | Fixed r ↦ false | Reuse n ↦ eqb n.0 k ]) (operands_at sh i)

  -- "Folding: a `use` in memory, class constraint, index not reused, gets the lowest non-memory class register holding v." "each fold stack_use"
  unfoldable pub fold_to : OpRow → ℕ → Record → Option ℕ
  fold_to o k s =
      elim (is_use o.kind && in_memory o.place && not (reused o.at k)) [
        | true ↦ elim o.constraint [ Class c ↦ lowest_holding (λ r. is_in r (class_row sh c.0).members) (subject_of o.kind) s | Fixed r ↦ none | Reuse n ↦ none ]
        | false ↦ none
      ]

  -- the operands of instruction i, each with its index there and the number of its row
  unfoldable pub indexed : ℕ → List (ℕ × ℕ × OpRow)
  indexed i =
      let rows = keep (λ (jo : ℕ × OpRow). eqb jo.1.at i) (zip (from 0 (length sh.ops)) sh.ops) in
      zip_with (λ k jo. (k, jo.0, jo.1)) (from 0 (length rows)) rows

  unfoldable pub fold : Walk → ℕ × ℕ × OpRow → Walk
  fold w x =
      Option-elim (fold_to x.2 x.0 w.rec) w (λ r.
      record { rec = w.rec; edits = w.edits; places = set w.places x.1 (Reg (record { 0 = r })); counts = count stack_use w.counts })

  -- "In the optimising walk, early definitions come first, then folding, then the others"
  unfoldable pub optimise_inst : ℕ → Walk → ℕ → Walk
  optimise_inst b w i =
      let os = operands_at sh i in
      let early = with_rec (define_all b (flat_map early_defs os)) w in
      with_rec (λ s. clobber i (define_all b (flat_map other_defs os) s)) (run fold early (indexed i))

  -- "the preparing walk of `Global` alters no edit or place and takes operands in row order"
  unfoldable pub prepare_inst : ℕ → Record → ℕ → Record
  prepare_inst b s i = clobber i (define_all b (flat_map all_defs (operands_at sh i)) s)

  -- ---- an edit

  -- "An edit to a register that already holds v, or a slot that does, is removed."
  unfoldable pub already : Place → ℕ → Record → Bool
  already (Reg r) v s = holds s r.0 v
  already (Slot t) v s = eqb (get_or s.known.stored t.0 absent) v

  unfoldable pub to_home : Place → ℕ → Bool
  to_home (Reg r) v = false
  to_home (Slot t) v = is_home sh v t.0

  -- "So is one to v's home slot if v's last spilled block dominates this one (and the slot is then not noted)"
  unfoldable pub spilled_above : ℕ → Place → ℕ → Record → Bool
  spilled_above b to v s = let a = get_or s.blocks.spilled v absent in to_home to v && not (eqb a absent) && dominates a b

  -- "else that block becomes this one"
  unfoldable pub note_spill : ℕ → Place → ℕ → Record → Record
  note_spill b to v s = cond (to_home to v) (spill_in b v s) s

  -- "a removal into a register is _reload for a move from memory, _move for another move, _remat for a remat; any removal into a slot is _spill"
  unfoldable pub removal : Place → Option Place → ℕ
  removal (Slot t) p = redundant_spill
  removal (Reg r) none = redundant_remat
  removal (Reg r) (some p) = cond (in_memory p) redundant_reload redundant_move

  -- "A surviving move from memory (a slot or a register flagged memory) takes the lowest non-memory register holding v, if any." "each source so
  -- replaced is reload_to_move"
  unfoldable pub new_source : Place → ℕ → Record → Option ℕ
  new_source p v s = cond (in_memory p) (lowest_holding (λ r. true) v s) none

  -- row j of the edits becomes e, and e has its effect on the record s
  abbrev pub becomes : ℕ → Edit → List ℕ → Record → Walk → Walk
  becomes j e counts s w = record { rec = effect sh e s; edits = set w.edits j e; places = w.places; counts = counts }

  -- a move or remat to `to`, from p if it is a move
  unfoldable pub optimise_move : ℕ → ℕ → Place → Option Place → ℕ → Edit → Walk → Walk
  optimise_move b j to p v e w =
      elim (already to v w.rec || spilled_above b to v w.rec) [
        | true ↦ becomes j Nothing (count (removal to p) w.counts) w.rec w
        | false ↦
            let s = note_spill b to v w.rec in
            Option-elim (Option-elim p none (λ q. new_source q v s)) (becomes j e w.counts s w) (λ r.
            becomes j (Move to (Reg (record { 0 = r })) (record { 0 = v })) (count reload_to_move w.counts) s w)
      ]

  unfoldable pub optimise_edit : ℕ → Walk → ℕ → Walk
  optimise_edit b w j =
      elim (get_or w.edits j Nothing) [
        | Move to p v ↦ optimise_move b j to (some p) v.0 (Move to p v) w
        | Remat to v ↦ optimise_move b j to none v.0 (Remat to v) w
        | Espill t r ↦ with_rec (effect sh (Espill t r)) w
        | Ereload r t ↦ with_rec (effect sh (Ereload r t)) w
        | Misplaced to p ↦ w
        | Nothing ↦ w
      ]

  -- ---- a block

  -- the numbers of the edit rows at instruction i: "Edits at instruction i come before i, in list order."
  unfoldable pub edits_at : ℕ → List ℕ
  edits_at i = map (λ (je : ℕ × EditRow). je.0) (keep (λ (je : ℕ × EditRow). eqb je.1.at i) (zip (from 0 (length sh.edits)) sh.edits))

  unfoldable pub optimise_block : ℕ → Known → Walk → Walk
  optimise_block b k w = run (λ x i. optimise_inst b (run (optimise_edit b) x (edits_at i)) i) (with_rec (enter b k) w) (insts_of sh b)

  unfoldable pub prepare_block : ℕ → List Edit → Known → Record → Record
  prepare_block b es k s = run (λ t i. prepare_inst b (run (λ u j. effect sh (get_or es j Nothing) u) t (edits_at i)) i) (enter b k s) (insts_of sh b)

  -- ---- handing on

  -- "The first state handed to successors takes all known pairs, but with a sole successor skips values whose defining block is not smaller
  -- than it; a value never defined counts as largest."
  unfoldable pub skips : List ℕ → Record → ℕ → Bool
  skips succs s v = eqb (length succs) 1 && leb (get_or succs 0 0) (get_or s.blocks.defined v absent)

  unfoldable pub first_state : List ℕ → Record → Known
  first_state succs s =
      let handed = map (λ v. cond (skips succs s v) absent v) in
      record { held = handed s.known.held; stored = handed s.known.stored }

  -- "Later arrivals take away pairs not now known"
  unfoldable pub meet : Known → Known → Known
  meet k l =
      let both = zip_with (λ v x. cond (eqb v x) v absent) in
      record { held = both k.held l.held; stored = both k.stored l.stored }

  unfoldable pub same_known : Known → Known → Bool
  same_known k l = same k.held l.held && same k.stored l.stored

  -- "successors wait after the first, and again if some went"
  unfoldable pub hand_to : ℕ → Record → Handed → ℕ → Handed
  hand_to b s h t =
      Option-elim (get_or h.states t none)
      (record { states = set h.states t (some (first_state (succs_of sh b) s)); waiting = t ∷ h.waiting })
      (λ k.
      let l = meet k s.known in
      record { states = set h.states t (some l); waiting = cond (same_known k l) h.waiting (t ∷ h.waiting) })

  unfoldable pub hand_on : ℕ → Record → Handed → Handed
  hand_on b s h = run (hand_to b s) h (succs_of sh b)

  -- ---- the levels

  abbrev pub blocks : List ℕ
  blocks = from 0 (block_count sh)

  -- what block b begins with
  unfoldable pub begun : Handed → ℕ → Known
  begun h b = Option.get_or (get_or h.states b none) nothing

  -- "`Forward` gives an empty entry to entries and to blocks with several predecessors, one not smaller than the block."
  unfoldable pub begins_empty : ℕ → Bool
  begins_empty b = is_entry sh b || (ltb 1 (length (preds_of sh b)) && any (λ p. leb b p) (preds_of sh b))

  unfoldable pub forward_start : Handed
  forward_start = record { states = map (λ b. cond (begins_empty b) (some nothing) none) blocks; waiting = [] }

  unfoldable pub forward_block : Walk × Handed → ℕ → Walk × Handed
  forward_block wh b = let w = optimise_block b (begun wh.1 b) wh.0 in (w, hand_on b w.rec wh.1)

  -- "`Global` starts from the entries with nothing"
  unfoldable pub global_start : Handed
  global_start = record { states = map (λ b. cond (is_entry sh b) (some nothing) none) blocks; waiting = keep (is_entry sh) blocks }

  -- "an exit block is not counted or walked"; "each visit of the preparing walk blocks_preprocessed"
  unfoldable pub visit : Walk × Handed → ℕ → Walk × Handed
  visit wh b =
      let h : Handed = record { states = wh.1.states; waiting = keep (λ t. not (eqb t b)) wh.1.waiting } in
      elim (eqb (length (succs_of sh b)) 0) [
        | true ↦ (wh.0, h)
        | false ↦
            let s = prepare_block b wh.0.edits (begun h b) wh.0.rec in
            (record { rec = s; edits = wh.0.edits; places = wh.0.places; counts = count preprocessed wh.0.counts }, hand_on b s h)
      ]

  -- "and visits the smallest waiting block"
  unfoldable pub visits : ℕ → Walk × Handed → Walk × Handed
  visits zero wh = wh
  visits (suc n) wh = Option-elim (first some none (λ b. is_in b wh.1.waiting) 0 (block_count sh)) wh (λ b. visits n (visit wh b))

  -- A block waits at first if it is an entry, once when its state is first set, and again only when that lost one of its pairs, of which there is
  -- at most one for each register and slot.
  unfoldable pub most_visits : ℕ
  most_visits = block_count sh * (reg_limit + slot_limit + 2)

  -- each block is optimised in turn; "Last spilled blocks survive from the preparing walk into the optimising one."
  unfoldable pub optimise_all : (ℕ → Known) → Walk → Walk
  optimise_all k w = run (λ x b. optimise_block b (k b) x) w blocks

  unfoldable pub global_walk : Walk × Handed → Walk
  global_walk wh = optimise_all (begun wh.1) wh.0

  -- "Levels: 0 `Off`, 1 per block (each block starts with nothing known), 2 `Forward`, 3 `Global`." "`Off` touches nothing."
  unfoldable pub optimise : Level → Walk → Walk
  optimise Off w = w
  optimise Local w = optimise_all (λ b. nothing) w
  optimise Forward w = (run forward_block (w, forward_start) blocks).0
  optimise Global w = global_walk (visits most_visits (w, global_start))

  -- the walk before the first block
  unfoldable pub start : Walk
  start = record { rec = fresh; edits = map (λ e. e.edit) sh.edits; places = map (λ o. o.place) sh.ops; counts = replicate 9 0 }
