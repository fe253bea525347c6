-- Sheets that are read and sheets that refusal 1 refuses.
use Rattle.std.specs.Prelude.{ℕ, ◌≤◌, ◌<◌, ◌≡◌, Bool, true, false, cond, eqb, length}
use Prim.Native.Char.{code}
use Prim.Native.String.{String}
use mathlib.Core.List.{List, [], ◌∷◌, ◌++◌, map, flat_map}
use Rattle.std.proofs.Math.Option.{Option, none, some, bind}
use Rattle.rules.specs.Text.{bytes}
use Rattle.laws.specs.Lists.{all}
use Rattle.rules.specs.Cells.{is_digit, decimal, no_leading_zero, cell_of, field_of, digits_of}
use Rattle.rules.specs.Rows.{cells_of, sheet_ok, rows_of, row_text}

-- a text in which `|` stands for CR LF
unfoldable pub sheet : String → List ℕ
unfolding bytes flat_map
sheet t = flat_map (λ b. cond (eqb b (code "|")) (bytes "\r\n") (b ∷ [])) (bytes t)

unfoldable pub is_some : {A : Type 0} → Option A → Bool
is_some none = false
is_some (some a) = true

abbrev pub c1 : String
c1 = "slots,1|reg,0,0,0|class,0,1,0|value,0,0|block,0,3,-,1|op,0,def,0,c0,r0|op,1,use,0,c0,s0|edit,1,move,s0,r0,0|"

-- texts, `true` for those that are read and `false` for those that are refused; and so of rows that stand behind the row `slots,1`
abbrev pub texts : Bool → List String → List (List ℕ × Bool)
texts isRead ts = map (λ t. (sheet t, isRead)) ts

abbrev pub rows : Bool → List String → List (List ℕ × Bool)
rows isRead ts = map (λ t. (sheet "slots,1|" ++ sheet t, isRead)) ts

abbrev pub table : List (List ℕ × Bool)
table =
    -- the worked sheet; the empty sheet; all the kinds
    texts true (c1 ∷ "slots,1|" ∷ [])
    ++ texts false ("" ∷ [])
    ++ rows true ("reg,0,0,0|class,0,1,0|group,0,0,0|value,0,-|vgroup,0,0|block,0,1,-,1|succ,0,0|pred,0,0|param,0,0,r0|op,0,def,0,c0,r0|clob,0,0|edit,0,none,-,-,-|" ∷ [])
    -- "Rows follow RFC 4180 without quotes; every row ends in CR LF."
    ++ texts false ("slots,1" ∷ "slots,1\r" ∷ "slots,1\n" ∷ "slots,1\r|" ∷ "slots,1\n|" ∷ "slots,1\r\r" ∷ "slots,1\r0|"
    ∷ "|slots,1|" ∷ "\"slots\",1|" ∷ "slots,\"1\"|" ∷ [])
    ++ rows false ("|" ∷ "\r" ∷ "," ∷ "0" ∷ "class,0,0" ∷ "class,0,0," ∷ "class,0\r,0|" ∷ "class,0\n,0|" ∷ [])
    -- "Numbers are decimal, no leading zero, at most five digits", in a place or a constraint too
    ++ texts true ("slots,0|" ∷ "slots,99999|" ∷ [])
    ++ texts false ("slots,100000|" ∷ "slots,01|" ∷ "slots,00|" ∷ "slots,|" ∷ "slots,-|" ∷ "slots,+1|" ∷ "slots, 1|" ∷ "slots,1a|" ∷ "slots,:|"
    ∷ "slots,/|" ∷ "slots,1,|" ∷ "slots|" ∷ "slots,1,1|" ∷ [])
    ++ rows true ("value,0,99999|" ∷ "op,0,def,0,u10,r0|" ∷ "op,0,def,0,u99999,s99999|" ∷ [])
    ++ rows false ("value,0,100000|" ∷ "value,0,00|" ∷ "op,0,def,0,u01,s0|" ∷ "op,0,def,0,u,s0|" ∷ "op,0,def,0,c100000,r0|" ∷ "op,0,def,0,c0,r100000|"
    ∷ "op,0,def,0,c0,s100000|" ∷ "op,0,def,0,c0,s00|" ∷ "op,0,def,0,c0,S0|" ∷ "op,0,def,0,c0,r-|" ∷ "op,0,def,0,c0,3r|" ∷ [])
    -- "Kinds come in this order"; "Anything else is 1."
    ++ texts false ("reg,0,0,0|" ∷ "reg,0,0,0|slots,1|" ∷ [])
    ++ rows false ("class,0,1,0|reg,0,0,0|" ∷ "group,0,0,0|class,0,1,0|" ∷ "value,0,-|group,0,0,0|"
    ∷ "vgroup,0,0|value,0,-|" ∷ "block,0,1,-,1|vgroup,0,0|" ∷ "succ,0,0|block,0,1,-,1|"
    ∷ "pred,0,0|succ,0,0|" ∷ "param,0,0,r0|pred,0,0|" ∷ "op,0,def,0,c0,r0|param,0,0,r0|"
    ∷ "clob,0,0|op,0,def,0,c0,r0|" ∷ "edit,0,none,-,-,-|clob,0,0|" ∷ "reg,0,0,0|class,0,0|reg,1,0,0|"
    ∷ "fold,0,0,r0|" ∷ "0,0|" ∷ "-,0|" ∷ "Class,0,0|" ∷ "def,0|" ∷ "r0,0|" ∷ "class|" ∷ [])
    -- "`slots,n` once"
    ++ texts false ("slots,0|slots,1|" ∷ [])
    ++ rows false ("slots,1|" ∷ "reg,0,0,0|slots,1|" ∷ [])
    -- "count from 0 without gaps"
    ++ rows true ("reg,0,0,0|reg,1,0,0|reg,2,0,0|" ∷ "class,0,0|class,1,0|class,2,0|" ∷ "group,0,0,0|group,1,0,0|group,2,0,0|"
    ∷ "value,0,-|value,1,-|value,2,-|" ∷ "vgroup,0,0|vgroup,1,0|vgroup,2,0|" ∷ "block,0,1,-,0|block,1,1,-,0|block,2,1,-,0|" ∷ [])
    ++ rows false ("reg,1,0,0|" ∷ "reg,0,0,0|reg,2,0,0|" ∷ "reg,0,0,0|reg,0,0,0|" ∷ "class,1,0|" ∷ "class,0,0|class,2,0|" ∷ "class,0,0|class,0,0|"
    ∷ "group,1,0,0|" ∷ "group,0,0,0|group,2,0,0|" ∷ "group,0,0,0|group,0,0,0|" ∷ "value,1,-|" ∷ "value,0,-|value,2,-|" ∷ "value,0,-|value,0,-|"
    ∷ "vgroup,1,0|" ∷ "vgroup,0,0|vgroup,2,0|" ∷ "vgroup,0,0|vgroup,0,0|" ∷ "block,1,1,-,0|" ∷ "block,0,1,-,0|block,2,1,-,0|"
    ∷ "block,0,1,-,0|block,0,1,-,0|" ∷ [])
    -- "`succ`, `pred` and `clob` rise strictly"; their lists need not
    ++ rows true ("succ,1,1,0|succ,3,0|" ∷ "pred,1,1,0|pred,3,0|" ∷ "clob,1,1,0|clob,3,0|" ∷ [])
    ++ rows false ("succ,1,0|succ,1,1|" ∷ "succ,1,0|succ,0,1|" ∷ "pred,1,0|pred,1,1|" ∷ "pred,1,0|pred,0,1|"
    ∷ "clob,1,0|clob,1,1|" ∷ "clob,1,0|clob,0,1|" ∷ [])
    -- "`param` and `op` never fall"; edits may, here
    ++ rows true ("param,1,0,r0|param,1,0,r0|param,3,0,r0|" ∷ "op,1,def,0,c0,r0|op,1,def,0,c0,r0|op,3,def,0,c0,r0|"
    ∷ "op,1,fixed,-,f0,r0|op,1,fixed,-,f0,r0|op,3,fixed,-,f0,r0|" ∷ "edit,1,none,-,-,-|edit,0,none,-,-,-|" ∷ [])
    ++ rows false ("param,1,0,r0|param,0,0,r0|" ∷ "op,1,def,0,c0,r0|op,0,def,0,c0,r0|" ∷ "op,1,fixed,-,f0,r0|op,0,fixed,-,f0,r0|" ∷ [])
    -- "Flags are 0 or 1."
    ++ rows true ("reg,0,1,0|" ∷ "class,0,1|" ∷ "block,0,1,-,1|" ∷ [])
    ++ rows false ("reg,0,2,0|" ∷ "class,0,2|" ∷ "block,0,1,-,2|" ∷ [])
    -- "A `..` list .. has at least one member; a class may have none."
    ++ rows true ("reg,0,0,0,7,3|" ∷ "class,0,0,0,7,3|" ∷ "group,0,7,3|" ∷ "vgroup,0,1,1|" ∷ [])
    ++ rows false ("reg,0,0|" ∷ "group,0,0|" ∷ "vgroup,0|" ∷ "succ,0|" ∷ "pred,0|" ∷ "clob,0|"
    ∷ "class,0,1,|" ∷ "class,0|" ∷ "reg,0,0,0,-|" ∷ "class,0,0,r0|" ∷ "succ,0,1,-|" ∷ "clob,0,u0|" ∷ [])
    -- "`value,v,home`"; "`block,b,instructions,idom,entry`"; "`-` also stands for no home slot and no idom; nowhere else."
    ++ rows true ("value,0,7|" ∷ "block,0,3,7,0|" ∷ [])
    ++ rows false ("value,0,s0|" ∷ "value,0,slots|" ∷ "value,0|" ∷ "value,0,-,-|" ∷ "value,0,0,0|" ∷ "value,-,0|"
    ∷ "block,0,-,-,0|" ∷ "block,0,3,-,-|" ∷ "block,0,3,-|" ∷ "block,0,3,-,0,0|" ∷ "block,0,3,r0,0|"
    ∷ "reg,0,-,0|" ∷ "class,0,-|" ∷ "group,0,-,0|" ∷ "group,0,0,-|" ∷ "vgroup,0,-|" ∷ "succ,-,0|"
    ∷ "pred,-,0|" ∷ "clob,-,0|" ∷ "clob,0,-|" ∷ [])
    -- "`param,b,value,place`"
    ++ rows true ("param,0,7,s3|" ∷ [])
    ++ rows false ("param,-,7,s3|" ∷ "param,0,-,s3|" ∷ "param,0,7,-|" ∷ "param,0,7,c3|" ∷ "param,0,7,3|" ∷ "param,0,7|" ∷ "param,0,7,s3,0|" ∷ [])
    -- "Operand kinds: `def use early defg useg earlyg fixed`, the last being `NonAllocatable`, subject `-`."
    ++ rows true ("op,0,def,7,c0,r0|" ∷ "op,0,use,7,c0,r0|" ∷ "op,0,early,7,c0,r0|" ∷ "op,0,defg,7,c0,r0|" ∷ "op,0,useg,7,c0,r0|"
    ∷ "op,0,earlyg,7,c0,r0|" ∷ "op,0,fixed,-,f3,r3|" ∷ "op,0,fixed,-,c0,s0|" ∷ "op,0,use,0,f0,r0|" ∷ "op,0,use,0,u0,s0|" ∷ [])
    ++ rows false ("op,0,def,-,c0,r0|" ∷ "op,0,use,-,c0,r0|" ∷ "op,0,early,-,c0,r0|" ∷ "op,0,defg,-,c0,r0|" ∷ "op,0,useg,-,c0,r0|"
    ∷ "op,0,earlyg,-,c0,r0|" ∷ "op,0,fixed,0,f3,r3|" ∷ "op,-,fixed,-,f3,r3|" ∷ "op,0,fixed,-,f3|" ∷ "op,0,fixed,-,f3,r3,0|" ∷ "op,0,fixed,-,-,r3|"
    ∷ "op,0,fixed,-,f3,-|" ∷ "op,0,move,0,c0,r0|" ∷ "op,0,edit,0,c0,r0|" ∷ "op,0,0,0,c0,r0|" ∷ "op,0,-,-,c0,r0|" ∷ "op,-,use,0,c0,r0|"
    ∷ "op,0,use,0,r0,r0|" ∷ "op,0,use,0,s99999,r0|" ∷ "op,0,use,0,-,r0|" ∷ "op,0,use,0,0,r0|" ∷ "op,0,use,0,c0,c0|" ∷ "op,0,use,0,c0,-|"
    ∷ "op,0,use,0,c0|" ∷ "op,0,use,0,c0,r0,0|" ∷ "op,0,use,r0,c0,r0|" ∷ [])
    -- "Edit kinds: `move`; `remat` (from `-`); `espill` and `ereload` (value `-`); `none` (three `-`)."
    ++ rows true ("edit,0,move,s0,r0,0|" ∷ "edit,7,move,r0,s0,7|" ∷ "edit,7,remat,r0,-,7|" ∷ "edit,7,espill,s0,r0,-|" ∷ "edit,0,espill,r0,s0,-|"
    ∷ "edit,0,ereload,r0,s0,-|" ∷ "edit,7,none,-,-,-|" ∷ [])
    ++ rows false ("edit,-,move,s0,r0,0|" ∷ "edit,0,move,-,r0,0|" ∷ "edit,0,move,s0,-,0|" ∷ "edit,0,move,s0,r0,-|" ∷ "edit,0,move,0,r0,0|"
    ∷ "edit,0,move,s0,c0,0|" ∷ "edit,0,move,s0,r0,r0|" ∷ "edit,0,move,s0,r0,0,0|" ∷ "edit,0,move,s0,r0|" ∷ "edit,-,remat,r0,-,0|"
    ∷ "edit,0,remat,r0,r1,0|" ∷ "edit,0,remat,r0,0,0|" ∷ "edit,0,remat,-,-,0|" ∷ "edit,0,remat,r0,-,-|" ∷ "edit,0,remat,r0,r1,-|"
    ∷ "edit,0,remat,r0,-,0,0|" ∷ "edit,-,espill,s0,r0,-|" ∷ "edit,0,espill,s0,r0,0|" ∷ "edit,0,espill,-,r0,-|" ∷ "edit,0,espill,s0,-,-|"
    ∷ "edit,0,ereload,r0,s0,0|" ∷ "edit,0,ereload,-,s0,-|" ∷ "edit,0,ereload,r0,-,-|" ∷ "edit,0,espill,s0,r0,-,0|" ∷ "edit,-,none,-,-,-|"
    ∷ "edit,0,none,s0,-,-|" ∷ "edit,0,none,0,-,-|" ∷ "edit,0,none,-,r0,-|" ∷ "edit,0,none,-,0,-|" ∷ "edit,0,none,-,-,0|" ∷ "edit,0,none,s0,r0,-|"
    ∷ "edit,0,none,s0,r0,0|" ∷ "edit,0,none,-,-|" ∷ "edit,0,none,-,-,-,0|" ∷ "edit,0,def,s0,r0,0|" ∷ "edit,0,-,-,-,-|" ∷ [])

-- C1's rows: 100001 is `slots`, 100000 `-`, 100014 `def`, 100015 `use`, 100021 `move`
abbrev pub c1_rows : List (List ℕ)
c1_rows =
    (100001 ∷ 1 ∷ []) ∷ (100002 ∷ 0 ∷ 0 ∷ 0 ∷ []) ∷ (100003 ∷ 0 ∷ 1 ∷ 0 ∷ []) ∷ (100005 ∷ 0 ∷ 0 ∷ []) ∷ (100007 ∷ 0 ∷ 3 ∷ 100000 ∷ 1 ∷ [])
    ∷ (100011 ∷ 0 ∷ 100014 ∷ 0 ∷ 400000 ∷ 200000 ∷ []) ∷ (100011 ∷ 1 ∷ 100015 ∷ 0 ∷ 400000 ∷ 300000 ∷ [])
    ∷ (100013 ∷ 1 ∷ 100021 ∷ 300000 ∷ 200000 ∷ 0 ∷ []) ∷ []

-- each of the fields, and its cell
abbrev pub fields : List (String × ℕ)
fields =
    ("0", 0) ∷ ("7", 7) ∷ ("10", 10) ∷ ("1024", 1024) ∷ ("65536", 65536) ∷ ("99999", 99999)
    ∷ ("r3", 200003) ∷ ("s0", 300000) ∷ ("c0", 400000) ∷ ("f3", 500003) ∷ ("u1", 600001) ∷ ("r127", 200127) ∷ ("u99999", 699999)
    ∷ ("-", 100000) ∷ ("slots", 100001) ∷ ("reg", 100002) ∷ ("class", 100003) ∷ ("group", 100004) ∷ ("value", 100005) ∷ ("vgroup", 100006)
    ∷ ("block", 100007) ∷ ("succ", 100008) ∷ ("pred", 100009) ∷ ("param", 100010) ∷ ("op", 100011) ∷ ("clob", 100012) ∷ ("edit", 100013)
    ∷ ("def", 100014) ∷ ("use", 100015) ∷ ("early", 100016) ∷ ("defg", 100017) ∷ ("useg", 100018) ∷ ("earlyg", 100019) ∷ ("fixed", 100020)
    ∷ ("move", 100021) ∷ ("remat", 100022) ∷ ("espill", 100023) ∷ ("ereload", 100024) ∷ ("none", 100025)
    ∷ []

-- s is n, written in decimal
pub record Digits (n : ℕ) (s : List ℕ) : Type 0 where
  pub made : all is_digit s ≡ true
  pub some : 0 < length s
  pub front : no_leading_zero s ≡ true
  pub value : decimal 0 s ≡ n

-- What is proved of the definitions:
--   answers   each sheet of the table is read or refused as the table says
--   worked    C1 is read to its rows, and its rows are written as C1
--   cells     each of the fields has its cell, and each cell its text
--   digits    every number is written in its digits, however large
--   at_most, over   a sheet of 65,536 bytes goes by its rows, a longer one is refused
pub record RowsRead : Type 0 where
  pub answers : map (λ t. is_some (rows_of t.0)) table ≡ map (λ t. t.1) table
  pub worked : (rows_of (sheet c1) ≡ some c1_rows) × (flat_map row_text c1_rows ≡ sheet c1)
  pub cells : (map (λ t. cell_of (bytes t.0)) fields ≡ map (λ t. some t.1) fields) × (map (λ t. field_of t.1) fields ≡ map (λ t. bytes t.0) fields)
  pub digits : (n : ℕ) → Digits n (digits_of n)
  pub at_most : (s : List ℕ) → length s ≤ 65536 → rows_of s ≡ bind (cells_of s) (λ rows. cond (sheet_ok rows) (some rows) none)
  pub over : (s : List ℕ) → 65536 < length s → rows_of s ≡ none
