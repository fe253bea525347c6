-- Document 01, "Worked sheet": C1 to C11 as one table, with what the definitions must answer.
use Rattle.std.specs.Prelude.{◌≡◌, cond, ℕ, eqb, pos, neg_ℤ, length, replicate}
use mathlib.Core.List.{List, [], ◌∷◌, ◌++◌, map, flat_map}
use Prim.Native.Char.{code}
use Prim.Native.String.{String}
use Rattle.entity.specs.declared.forms.Refusal.TheVariants.{Rows, Limits, Operands, Call, Room}
use Rattle.rules.specs.Text.{bytes}
use Rattle.rules.specs.Answer.{Answer, refused, written, answer, returned, buffer, program}

-- a text in which `/` stands for CR LF
unfoldable pub lines : String → List ℕ
lines t = flat_map (λ b. cond (eqb b (code "/")) (bytes "\r\n") (b ∷ [])) (bytes t)

-- a sheet, level, sweep flag, length of the output buffer, and the answer
pub record Example : Type 0 where
  pub sheet : String
  pub level : ℕ
  pub sweep : ℕ
  pub room : ℕ
  pub gives : Answer

abbrev pub example : String → ℕ → ℕ → ℕ → Answer → Example
example t l s n a = record { sheet = t; level = l; sweep = s; room = n; gives = a }

abbrev pub writes : String → Answer
writes t = written (lines t)

-- C1's sheet and its answer
abbrev pub c1 : String
c1 = "slots,1/reg,0,0,0/class,0,1,0/value,0,0/block,0,3,-,1/op,0,def,0,c0,r0/op,1,use,0,c0,s0/edit,1,move,s0,r0,0/"

abbrev pub c1_answer : String
c1_answer = "fold,1,0,r0/edit,1,none,-,-,-/count,0,0,0,0,0,0,1,1,0/"

abbrev pub table : List Example
table =
    -- C1
    example c1 1 1 65536 (writes c1_answer)
    -- C2 "level 0, sweep: edit kept, all counts 0"
    ∷ example c1 0 1 65536 (writes "edit,1,move,s0,r0,0/count,0,0,0,0,0,0,0,0,0/")
    -- C3 "level 1, no sweep: fold, edit kept, stack use 1"
    ∷ example c1 1 0 65536 (writes "fold,1,0,r0/edit,1,move,s0,r0,0/count,0,0,0,0,0,0,1,0,0/")
    -- C4 "empty sheet: -1"
    ∷ example "" 1 1 65536 (refused Rows)
    -- C5 "same, level 4: -7"
    ∷ example "" 4 1 65536 (refused Call)
    ∷ example c1 4 1 65536 (refused Call)
    -- C6 "buffer 56: -8; 57: accepted"
    ∷ example c1 1 1 56 (refused Room)
    ∷ example c1 1 1 57 (writes c1_answer)
    -- C7 "class without slots: -5"
    ∷ example "slots,1/reg,0,0,0/class,0,0,0/value,0,0/block,0,3,-,1/op,0,def,0,c0,r0/op,1,use,0,c0,s0/edit,1,move,s0,r0,0/" 1 1 65536 (refused Operands)
    -- C8 "`value,1,-` and `op,1,def,1,u0,s0` added: no fold, edit kept"
    ∷ example "slots,1/reg,0,0,0/class,0,1,0/value,0,0/value,1,-/block,0,3,-,1/op,0,def,0,c0,r0/op,1,use,0,c0,s0/op,1,def,1,u0,s0/edit,1,move,s0,r0,0/" 1 1 65536 (writes "edit,1,move,s0,r0,0/count,0,0,0,0,0,0,0,0,0/")
    -- C9 "two slots, no use, `edit,1,move,s0,r0,0` then `edit,1,move,s1,s0,0`, level 0, sweep: both removed, dead spill 2"
    ∷ example "slots,2/reg,0,0,0/class,0,1,0/value,0,0/block,0,3,-,1/op,0,def,0,c0,r0/edit,1,move,s0,r0,0/edit,1,move,s1,s0,0/" 0 1 65536 (writes "edit,1,none,-,-,-/edit,1,none,-,-,-/count,0,0,0,0,0,0,0,2,0/")
    -- C10 "C2 with `edit,1,move,s0,s0,0` after the first: both kept"
    ∷ example "slots,1/reg,0,0,0/class,0,1,0/value,0,0/block,0,3,-,1/op,0,def,0,c0,r0/op,1,use,0,c0,s0/edit,1,move,s0,r0,0/edit,1,move,s0,s0,0/" 0 1 65536 (writes "edit,1,move,s0,r0,0/edit,1,move,s0,s0,0/count,0,0,0,0,0,0,0,0,0/")
    -- C11 "`slots,65`: -2; 64: accepted"
    ∷ example "slots,65/reg,0,0,0/class,0,1,0/value,0,0/block,0,3,-,1/op,0,def,0,c0,r0/op,1,use,0,c0,s0/edit,1,move,s0,r0,0/" 1 1 65536 (refused Limits)
    ∷ example "slots,64/reg,0,0,0/class,0,1,0/value,0,0/block,0,3,-,1/op,0,def,0,c0,r0/op,1,use,0,c0,s0/edit,1,move,s0,r0,0/" 1 1 65536 (writes c1_answer)
    ∷ []

abbrev pub Gives : List Example → Type 0
Gives es = map (λ e. answer (lines e.sheet) e.level e.sweep e.room) es ≡ map (λ e. e.gives) es

-- "C1 to C11 are a single table, shown right for the definitions by one theorem." "The program writes exactly 57 bytes": its answer to C1, what the
-- call returns and what it leaves in a buffer; and the same of a refusal.
pub record WorkedSheet : Type 0 where
  pub gives : Gives table
  pub program_c1 : (program (lines c1) ≡ lines c1_answer) × (length (program (lines c1)) ≡ 57)
  pub program_empty : program [] ≡ lines "refused,1/"
  pub returned_c1 : (returned (answer (lines c1) 1 1 60) ≡ pos 57) × (returned (answer (lines c1) 1 1 56) ≡ neg_ℤ (pos 8))
  pub buffer_c1 : (buffer (answer (lines c1) 1 1 60) (replicate 60 7) ≡ lines c1_answer ++ replicate 3 7) × (buffer (answer (lines c1) 1 1 56) (replicate 56 7) ≡ replicate 56 7)
