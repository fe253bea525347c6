-- A sheet by its rows: what each row of each kind says, in the words of document 01's "Rows". Fields that name something are numbers; places,
-- constraints, operand kinds and edits are the enums of `entity`.
use Rattle.std.specs.Prelude.{Bool, true, false, cond, ℕ, ◌+◌, ◌-◌, eqb, ltb, length, get_or, drop}
use mathlib.Core.List.{List, [], ◌∷◌, map, flat_map}
use Rattle.std.proofs.Math.Option.{Option, none, some}
use Prim.Native.String.{String}
use Rattle.laws.specs.Lists.{keep, from}
pub use Rattle.entity.specs.declared.forms.Place.{Place}
pub use Rattle.entity.specs.declared.forms.Place.TheVariants.{Reg, Slot}
pub use Rattle.entity.specs.declared.forms.Constraint.{Constraint}
pub use Rattle.entity.specs.declared.forms.Constraint.TheVariants.{Class, Fixed, Reuse}
pub use Rattle.entity.specs.declared.forms.OperandKind.{OperandKind}
pub use Rattle.entity.specs.declared.forms.OperandKind.TheVariants.{Def, Use, EarlyDef, DefGroup, UseGroup, EarlyDefGroup, NonAllocatable}
pub use Rattle.entity.specs.declared.forms.Edit.{Edit}
pub use Rattle.entity.specs.declared.forms.Edit.TheVariants.{Move, Remat, Espill, Ereload, Misplaced, Nothing}
use Rattle.rules.specs.Cells.{word, class_mark, fixed_mark, reg_mark, reuse_mark, slot_mark}

-- `reg,r,memory,unit..`
pub record RegRow : Type 0 where
  pub memory : Bool
  pub units : List ℕ

-- `class,c,slots,reg..`
pub record ClassRow : Type 0 where
  pub slots : Bool
  pub members : List ℕ

-- `group,g,class,reg..`
pub record GroupRow : Type 0 where
  pub class : ℕ
  pub regs : List ℕ

-- `block,b,instructions,idom,entry`
pub record BlockRow : Type 0 where
  pub instructions : ℕ
  pub idom : Option ℕ
  pub entry : Bool

-- `succ,b,block..`, `pred,b,block..` and `clob,inst,unit..`
pub record ListRow : Type 0 where
  pub at : ℕ
  pub list : List ℕ

-- `param,b,value,place`
pub record ParamRow : Type 0 where
  pub at : ℕ
  pub value : ℕ
  pub place : Place

-- `op,inst,kind,subject,constraint,place`
pub record OpRow : Type 0 where
  pub at : ℕ
  pub kind : OperandKind
  pub constraint : Constraint
  pub place : Place

-- `edit,inst,kind,to,from,value`
pub record EditRow : Type 0 where
  pub at : ℕ
  pub edit : Edit

-- `values` has each value's home slot, `vgroups` each group's values; `above` is how many rows stand before the `block` rows
pub record Sheet : Type 0 where
  pub above : ℕ
  pub slots : ℕ
  pub regs : List RegRow
  pub classes : List ClassRow
  pub groups : List GroupRow
  pub values : List (Option ℕ)
  pub vgroups : List (List ℕ)
  pub blocks : List BlockRow
  pub succs : List ListRow
  pub preds : List ListRow
  pub params : List ParamRow
  pub ops : List OpRow
  pub clobs : List ListRow
  pub edits : List EditRow

-- ---- from the cells of a row

-- "Flags are 0 or 1."
unfoldable pub flag_of : ℕ → Bool
flag_of c = eqb c 1

-- "`-` also stands for no home slot and no idom"
unfoldable pub maybe : ℕ → Option ℕ
maybe c = cond (eqb c (word "-")) none (some c)

-- "Places: `r3`, `s0`."
unfoldable pub place_of : ℕ → Place
place_of c = cond (ltb c slot_mark) (Reg (record { 0 = c - reg_mark })) (Slot (record { 0 = c - slot_mark }))

-- "Constraints: `c0`, `f3`, `u1` (reuse of operand 1)."
unfoldable pub constraint_of : ℕ → Constraint
constraint_of c =
    cond (ltb c fixed_mark) (Class (record { 0 = c - class_mark }))
    (cond (ltb c reuse_mark) (Fixed (record { 0 = c - fixed_mark }))
    (Reuse (record { 0 = c - reuse_mark })))

-- "Operand kinds: `def use early defg useg earlyg fixed`, the last being `NonAllocatable`, subject `-`."
unfoldable pub kind_of : ℕ → ℕ → OperandKind
kind_of k v =
    cond (eqb k (word "def")) (Def (record { 0 = v }))
    (cond (eqb k (word "use")) (Use (record { 0 = v }))
    (cond (eqb k (word "early")) (EarlyDef (record { 0 = v }))
    (cond (eqb k (word "defg")) (DefGroup (record { 0 = v }))
    (cond (eqb k (word "useg")) (UseGroup (record { 0 = v }))
    (cond (eqb k (word "earlyg")) (EarlyDefGroup (record { 0 = v }))
    NonAllocatable)))))

-- a `use`; a `useg`; an early definition, `early` or `earlyg`
unfoldable pub is_use : OperandKind → Bool
is_use k = elim k [ Use v ↦ true | Def v ↦ false | EarlyDef v ↦ false | DefGroup g ↦ false | UseGroup g ↦ false | EarlyDefGroup g ↦ false | NonAllocatable ↦ false ]

unfoldable pub is_use_group : OperandKind → Bool
is_use_group k = elim k [ UseGroup g ↦ true | Def v ↦ false | Use v ↦ false | EarlyDef v ↦ false | DefGroup g ↦ false | EarlyDefGroup g ↦ false | NonAllocatable ↦ false ]

unfoldable pub is_early : OperandKind → Bool
is_early k = elim k [ EarlyDef v ↦ true | EarlyDefGroup g ↦ true | Def v ↦ false | Use v ↦ false | DefGroup g ↦ false | UseGroup g ↦ false | NonAllocatable ↦ false ]

-- the value or group that an operand names
unfoldable pub subject_of : OperandKind → ℕ
subject_of k = elim k [ Def v ↦ v.0 | Use v ↦ v.0 | EarlyDef v ↦ v.0 | DefGroup g ↦ g.0 | UseGroup g ↦ g.0 | EarlyDefGroup g ↦ g.0 | NonAllocatable ↦ 0 ]

-- an emergency spill goes from a register to a slot, an emergency reload from a slot to a register; anything else is misplaced
unfoldable pub espill_of : Place → Place → Edit
espill_of (Slot s) (Reg r) = Espill s r
espill_of (Slot s) (Slot q) = Misplaced (Slot s) (Slot q)
espill_of (Reg r) p = Misplaced (Reg r) p

unfoldable pub ereload_of : Place → Place → Edit
ereload_of (Reg r) (Slot s) = Ereload r s
ereload_of (Reg r) (Reg q) = Misplaced (Reg r) (Reg q)
ereload_of (Slot s) p = Misplaced (Slot s) p

-- "Edit kinds: `move`; `remat` (from `-`); `espill` and `ereload` (value `-`); `none` (three `-`)."
unfoldable pub edit_of : ℕ → ℕ → ℕ → ℕ → Edit
edit_of k to p v =
    cond (eqb k (word "move")) (Move (place_of to) (place_of p) (record { 0 = v }))
    (cond (eqb k (word "remat")) (Remat (place_of to) (record { 0 = v }))
    (cond (eqb k (word "espill")) (espill_of (place_of to) (place_of p))
    (cond (eqb k (word "ereload")) (ereload_of (place_of to) (place_of p))
    Nothing)))

-- ---- from the rows

-- field i of a row, 0 being its kind
abbrev pub field : ℕ → List ℕ → ℕ
field i r = get_or r i 0

unfoldable pub list_row : List ℕ → ListRow
list_row r = record { at = field 1 r; list = drop 2 r }

-- what a sheet says whose rows of each kind are these, so many of them before the `block` rows
unfoldable pub sheet_by : ℕ → (String → List (List ℕ)) → Sheet
sheet_by above rows =
    record {
      above = above;
      slots = get_or (map (field 1) (rows "slots")) 0 0;
      regs = map (λ r. record { memory = flag_of (field 2 r); units = drop 3 r }) (rows "reg");
      classes = map (λ r. record { slots = flag_of (field 2 r); members = drop 3 r }) (rows "class");
      groups = map (λ r. record { class = field 2 r; regs = drop 3 r }) (rows "group");
      values = map (λ r. maybe (field 2 r)) (rows "value");
      vgroups = map (drop 2) (rows "vgroup");
      blocks = map (λ r. record { instructions = field 2 r; idom = maybe (field 3 r); entry = flag_of (field 4 r) }) (rows "block");
      succs = map list_row (rows "succ");
      preds = map list_row (rows "pred");
      params = map (λ r. record { at = field 1 r; value = field 2 r; place = place_of (field 3 r) }) (rows "param");
      ops = map (λ r. record { at = field 1 r; kind = kind_of (field 2 r) (field 3 r); constraint = constraint_of (field 4 r); place = place_of (field 5 r) }) (rows "op");
      clobs = map list_row (rows "clob");
      edits = map (λ r. record { at = field 1 r; edit = edit_of (field 2 r) (field 3 r) (field 4 r) (field 5 r) }) (rows "edit");
    }

unfoldable pub sheet_of : List (List ℕ) → Sheet
sheet_of rows = sheet_by (length (keep (λ r. ltb (field 0 r) (word "block")) rows)) (λ kind. keep (λ r. eqb (field 0 r) (word kind)) rows)

-- ---- what a sheet says

unfoldable pub total_of : List BlockRow → ℕ
total_of [] = 0
total_of (b ∷ bs) = b.instructions + total_of bs

module _ (sh : Sheet) where
  abbrev pub reg_count : ℕ
  reg_count = length sh.regs

  abbrev pub block_count : ℕ
  block_count = length sh.blocks

  -- the instructions of all blocks
  abbrev pub inst_count : ℕ
  inst_count = total_of sh.blocks

  abbrev pub reg_row : ℕ → RegRow
  reg_row r = get_or sh.regs r (record { memory = false; units = [] })

  abbrev pub class_row : ℕ → ClassRow
  class_row c = get_or sh.classes c (record { slots = false; members = [] })

  abbrev pub block_row : ℕ → BlockRow
  block_row b = get_or sh.blocks b (record { instructions = 0; idom = none; entry = false })

  abbrev pub home_of : ℕ → Option ℕ
  home_of v = get_or sh.values v none

  abbrev pub values_of : ℕ → List ℕ
  values_of g = get_or sh.vgroups g []

  abbrev pub units_of : ℕ → List ℕ
  units_of r = (reg_row r).units

  abbrev pub is_memory : ℕ → Bool
  is_memory r = (reg_row r).memory

  -- "An absent `succ`, `pred` or `clob` row means none."
  unfoldable pub list_at : List ListRow → ℕ → List ℕ
  list_at rows b = flat_map (λ r. r.list) (keep (λ r. eqb r.at b) rows)

  abbrev pub succs_of : ℕ → List ℕ
  succs_of b = list_at sh.succs b

  abbrev pub preds_of : ℕ → List ℕ
  preds_of b = list_at sh.preds b

  abbrev pub clobbers_of : ℕ → List ℕ
  clobbers_of i = list_at sh.clobs i

  -- "Blocks take instructions in turn."
  unfoldable pub insts_from : ℕ → List BlockRow → List (List ℕ)
  insts_from i [] = []
  insts_from i (b ∷ bs) = from i b.instructions ∷ insts_from (i + b.instructions) bs

  abbrev pub insts_of : ℕ → List ℕ
  insts_of b = get_or (insts_from 0 sh.blocks) b []
