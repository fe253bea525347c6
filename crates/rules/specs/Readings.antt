-- How documents 01 and 02 are read: the sheets of docs/DECISIONS.md, by their numbers there, with what the definitions must answer.
use Rattle.std.specs.Prelude.{◌≡◌, List, [], ◌∷◌, map, ℕ, pos, neg_ℤ}
use Prim.Native.String.{String}
use Rattle.entity.specs.declared.forms.Refusal.TheVariants.{Rows, Limits, Names, NoEntry, NotSmaller, Operands, Edits, Call, Room}
use Rattle.rules.specs.Answer.{refused, answer, returned, program}
use Rattle.rules.specs.Worked.{lines, Example, example, writes, Gives}

abbrev pub readings : List Example
readings =
    example "slots,0/class,0,1/reg,0,0,0/block,0,1,-,1/" 1 1 65536 (refused Rows)  -- 1.1
    ∷ example "slots,0/reg,0,0,0/block,0,2,-,1/op,0,fixed,-,f0,r0/clob,0,0/op,1,fixed,-,f0,r0/" 1 1 65536 (refused Rows)  -- 1.2
    ∷ example "slots,0/slots,0/block,0,1,-,1/" 1 1 65536 (refused Rows)  -- 1.3
    ∷ example "slots,0/reg,0,0,0/reg,1,0,1/block,0,1,-,1/clob,0,1,0/" 1 1 65536 (writes "count,0,0,0,0,0,0,0,0,0/")  -- 1.4
    ∷ example "slots,0/reg,0,0,0/reg,1,0,1/block,0,1,-,1/clob,0,0/clob,0,1/" 1 1 65536 (refused Rows)  -- 1.5
    ∷ example "slots,0/reg,0,0,0/block,0,2,-,1/op,1,fixed,-,f0,r0/op,0,fixed,-,f0,r0/" 1 1 65536 (refused Rows)  -- 1.6
    ∷ example "slots,0/block,0,2,-,1/edit,1,none,-,-,-/edit,0,none,-,-,-/" 1 1 65536 (refused Edits)  -- 1.7
    ∷ example "slots,100000/" 1 1 65536 (refused Rows)  -- 1.8
    ∷ example "slots,99999/" 1 1 65536 (refused Limits)  -- 1.9
    ∷ example "slots,1/value,0,0/block,0,1,-,1/param,0,0,s100000/" 1 1 65536 (refused Rows)  -- 1.10
    ∷ example "slots,0/reg,0,0,0/block,0,1,-,1/op,0,fixed,-,f0,r00/" 1 1 65536 (refused Rows)  -- 1.11
    ∷ example "slots,1/value,0,0/block,0,1,-,1/op,0,def,0,u01,s0/" 1 1 65536 (refused Rows)  -- 1.12
    ∷ example "slots,0/class,0,1,/block,0,1,-,1/" 1 1 65536 (refused Rows)  -- 1.13
    ∷ example "slots,0/class,0,1/block,0,1,-,1/" 1 1 65536 (writes "count,0,0,0,0,0,0,0,0,0/")  -- 1.14
    ∷ example "Slots,0/block,0,1,-,1/" 1 1 65536 (refused Rows)  -- 1.15
    ∷ example "slots,0/reg,0,0,0/value,0,-/block,0,1,-,1/op,0,fixed,0,f0,r0/" 1 1 65536 (refused Rows)  -- 1.16
    ∷ example "slots,1/block,0,1,-,1/edit,0,espill,s0,-,-/" 1 1 65536 (refused Rows)  -- 1.17
    ∷ example "slots,0/block,0,1,-,1/" 1 1 65536 (writes "count,0,0,0,0,0,0,0,0,0/")  -- 1.18
    ∷ example "slots,0/" 1 1 65536 (refused NoEntry)  -- 1.19
    ∷ example "slots,65/" 4294967295 0 65536 (refused Call)  -- 1.20
    ∷ example "slots,0/block,0,512,-,1/block,1,1,-,1/" 1 1 65536 (refused Limits)  -- 2.1
    ∷ example "slots,0/block,0,511,-,1/block,1,1,-,1/" 1 1 65536 (writes "count,0,0,0,0,0,0,0,0,0/")  -- 2.2
    ∷ example "slots,0/reg,0,0,128/block,0,1,-,1/" 1 1 65536 (refused Limits)  -- 2.3
    ∷ example "slots,0/reg,0,0,0/block,0,1,-,1/clob,0,128/" 1 1 65536 (refused Limits)  -- 2.4
    ∷ example "slots,1/value,0,-/block,0,1,-,1/op,0,use,0,u128,s0/" 1 1 65536 (refused Limits)  -- 2.5
    ∷ example "slots,1/value,0,64/block,0,1,-,1/" 1 1 65536 (refused Names)  -- 3.1
    ∷ example "slots,1/value,0,-/block,0,1,-,1/op,0,use,0,c16,s0/" 1 1 65536 (refused Names)  -- 3.2
    ∷ example "slots,0/value,0,-/block,0,1,-,1/edit,0,remat,r128,-,0/" 1 1 65536 (refused Names)  -- 3.3
    ∷ example "slots,0/block,0,512,-,1/edit,512,none,-,-,-/" 1 1 65536 (refused Names)  -- 3.4
    ∷ example "slots,0/block,0,1,-,1/edit,1,none,-,-,-/" 1 1 65536 (refused Names)  -- 3.5
    ∷ example "slots,0/reg,0,0,0/block,0,1,-,1/clob,0,127/" 1 1 65536 (refused Names)  -- 3.6
    ∷ example "slots,0/block,0,1,1,1/" 1 1 65536 (refused Names)  -- 3.7
    ∷ example "slots,0/reg,0,0,0/block,0,1,-,1/clob,0,0,0/" 1 1 65536 (refused Names)  -- 3.8
    ∷ example "slots,1/value,0,0/block,0,1,-,1/param,0,0,s0/param,0,0,s0/" 1 1 65536 (writes "count,0,0,0,0,0,0,0,0,0/")  -- 3.9
    ∷ example "slots,0/reg,0,0,0/value,0,-/block,0,1,-,1/op,0,def,0,f0,r0/op,0,def,0,f0,r0/" 1 1 65536 (writes "count,0,0,0,0,0,0,0,0,0/")  -- 3.10
    ∷ example "slots,0/reg,0,0,0/reg,1,0,1/class,0,0/group,0,0,0/group,1,0,0,1/block,0,1,-,1/" 1 1 65536 (refused Names)  -- 3.11
    ∷ example "slots,0/reg,0,0,0/class,0,0/class,1,0/group,0,0,0/group,1,1,0/block,0,1,-,1/" 1 1 65536 (writes "count,0,0,0,0,0,0,0,0,0/")  -- 3.12
    ∷ example "slots,1/block,0,1,-,1/edit,0,espill,s0,r0,-/" 1 1 65536 (refused Names)  -- 3.13
    ∷ example "slots,0/block,0,1,-,1/block,1,1,0,0/block,2,1,0,0/block,3,1,0,0/succ,0,2,1/succ,1,3/succ,2,3/pred,1,0/pred,2,0/pred,3,2,1/" 1 1 65536 (writes "count,0,0,0,0,0,0,0,0,0/")  -- 4.1
    ∷ example "slots,0/block,0,1,0,1/" 1 1 65536 (refused (NotSmaller 2))  -- 4.2
    ∷ example "slots,0/block,0,1,-,1/block,1,1,0,1/" 1 1 65536 (writes "count,0,0,0,0,0,0,0,0,0/")  -- 4.3
    ∷ example "slots,0/block,0,1,-,1/block,1,1,-,0/succ,0,1/pred,1,0/" 1 1 65536 (writes "count,0,0,0,0,0,0,0,0,0/")  -- 4.4
    ∷ example "slots,1/reg,0,0,0/value,0,0/block,0,1,-,1/block,1,1,0,0/block,2,1,1,0/succ,0,1,2/pred,1,0/pred,2,0/edit,1,move,s0,r0,0/edit,2,move,s0,r0,0/" 1 0 65536 (writes "edit,1,move,s0,r0,0/edit,2,none,-,-,-/count,0,0,0,0,1,0,0,0,0/")  -- 4.5
    ∷ example "slots,0/block,0,1,-,1/block,1,1,0,0/succ,0,1/succ,1,1/pred,1,0,1/" 1 1 65536 (writes "count,0,0,0,0,0,0,0,0,0/")  -- 4.6
    ∷ example "slots,0/block,0,1,-,0/block,1,1,-,1/block,2,1,-,1/succ,1,0/succ,2,0/pred,0,1,2/" 1 1 65536 (writes "count,0,0,0,0,0,0,0,0,0/")  -- 4.7
    ∷ example "slots,0/reg,0,0,0/class,0,0/group,0,0,0/value,0,-/vgroup,0,0/block,0,1,-,1/op,0,useg,0,c0,r0/" 1 1 65536 (refused Operands)  -- 5.1
    ∷ example "slots,0/reg,0,0,0/reg,1,0,1/class,0,0,0/group,0,0,0,1/value,0,-/value,1,-/vgroup,0,0,1/block,0,1,-,1/op,0,useg,0,c0,r0/" 1 1 65536 (writes "count,0,0,0,0,0,0,0,0,0/")  -- 5.2
    ∷ example "slots,0/reg,0,0,0/reg,1,0,1/class,0,0,0/group,0,0,0,1/value,0,-/vgroup,0,0/block,0,1,-,1/op,0,useg,0,c0,r0/" 1 1 65536 (refused Operands)  -- 5.3
    ∷ example "slots,0/reg,0,0,0/class,0,0,0/group,0,0,0/value,0,-/value,1,-/vgroup,0,0/vgroup,1,0,1/block,0,1,-,1/op,0,useg,0,c0,r0/op,0,defg,1,u0,r0/" 1 1 65536 (refused Operands)  -- 5.4
    ∷ example "slots,1/value,0,-/block,0,1,-,1/op,0,def,0,u127,s0/" 1 1 65536 (refused Operands)  -- 5.5
    ∷ example "slots,1/value,0,-/block,0,1,-,1/op,0,def,0,u0,s0/" 1 1 65536 (refused Operands)  -- 5.6
    ∷ example "slots,1/class,0,1/value,0,-/block,0,1,-,1/op,0,def,0,u1,s0/op,0,use,0,c0,s0/" 1 1 65536 (writes "count,0,0,0,0,0,0,0,0,0/")  -- 5.7
    ∷ example "slots,1/class,0,1/value,0,-/block,0,1,-,1/op,0,use,0,c0,s0/op,0,def,0,u0,s0/op,0,def,0,u0,s0/" 1 1 65536 (writes "count,0,0,0,0,0,0,0,0,0/")  -- 5.8
    ∷ example "slots,0/reg,0,0,0/class,0,0,0/block,0,1,-,1/op,0,fixed,-,c0,r0/" 1 1 65536 (refused Operands)  -- 5.9
    ∷ example "slots,1/reg,0,0,0/value,0,-/block,0,2,-,1/edit,0,espill,s0,r0,-/edit,0,none,-,-,-/edit,1,ereload,r0,s0,-/" 1 0 65536 (writes "edit,0,espill,s0,r0,-/edit,0,none,-,-,-/edit,1,ereload,r0,s0,-/count,0,0,0,0,0,0,0,0,0/")  -- 6.1
    ∷ example "slots,1/reg,0,0,0/block,0,1,-,1/block,1,1,0,0/succ,0,1/pred,1,0/edit,0,espill,s0,r0,-/edit,1,ereload,r0,s0,-/" 1 1 65536 (refused Edits)  -- 6.2
    ∷ example "slots,2/reg,0,0,0/reg,1,0,1/block,0,1,-,1/edit,0,espill,s0,r0,-/edit,0,espill,s1,r1,-/edit,0,ereload,r1,s1,-/edit,0,ereload,r0,s0,-/" 1 1 65536 (refused Edits)  -- 6.3
    ∷ example "slots,1/reg,0,0,0/value,0,0/block,0,1,-,1/edit,0,espill,s0,r0,-/edit,0,ereload,r0,s0,-/" 1 1 65536 (refused Edits)  -- 6.4
    ∷ example "slots,1/reg,0,0,0/reg,1,0,0/block,0,1,-,1/edit,0,espill,s0,r0,-/edit,0,ereload,r0,s0,-/" 1 1 65536 (refused Edits)  -- 6.5
    ∷ example "slots,1/reg,0,0,0/block,0,1,-,1/edit,0,espill,r0,r0,-/" 1 1 65536 (refused Edits)  -- 6.6
    ∷ example "slots,0/block,0,1,-,1/" 1 1 25 (writes "count,0,0,0,0,0,0,0,0,0/")  -- 8.1
    ∷ example "slots,0/block,0,1,-,1/" 1 1 24 (refused Room)  -- 8.2
    ∷ example "slots,0/" 1 1 0 (refused NoEntry)  -- 8.3
    ∷ example "slots,0/reg,0,0,0/value,0,-/block,0,1,-,1/block,1,1,0,0/succ,0,1/pred,1,0/op,0,def,0,f0,r0/edit,1,remat,r0,-,0/" 1 0 65536 (writes "edit,1,remat,r0,-,0/count,0,0,0,0,0,0,0,0,0/")  -- F.1
    ∷ example "slots,0/reg,0,0,0/value,0,-/block,0,1,-,1/block,1,1,0,0/succ,0,1/pred,1,0/op,0,def,0,f0,r0/edit,1,remat,r0,-,0/" 2 0 65536 (writes "edit,1,none,-,-,-/count,0,0,0,1,0,0,0,0,0/")  -- F.2
    ∷ example "slots,1/reg,0,0,0/value,0,0/block,0,1,-,1/block,1,1,0,0/succ,0,1/pred,1,0/edit,0,move,s0,r0,0/edit,1,move,s0,r0,0/" 1 0 65536 (writes "edit,0,move,s0,r0,0/edit,1,none,-,-,-/count,0,0,0,0,1,0,0,0,0/")  -- F.3
    ∷ example "slots,0/reg,0,0,0/value,0,-/block,0,1,-,1/block,1,1,0,0/succ,0,1/pred,1,0/edit,0,remat,r0,-,0/edit,1,remat,r0,-,0/" 2 0 65536 (writes "edit,0,remat,r0,-,0/edit,1,remat,r0,-,0/count,0,0,0,0,0,0,0,0,0/")  -- F.4
    ∷ example "slots,0/reg,0,0,0/value,0,-/block,0,1,-,1/block,1,1,0,0/succ,0,1/pred,1,0/edit,0,remat,r0,-,0/edit,1,remat,r0,-,0/" 3 0 65536 (writes "edit,0,remat,r0,-,0/edit,1,remat,r0,-,0/count,1,0,0,0,0,0,0,0,0/")  -- F.5
    ∷ example "slots,0/reg,0,0,0/value,0,-/block,0,1,-,1/block,1,1,0,0/block,2,1,0,0/succ,0,1,2/pred,1,0/pred,2,0/edit,0,remat,r0,-,0/edit,1,remat,r0,-,0/" 2 0 65536 (writes "edit,0,remat,r0,-,0/edit,1,none,-,-,-/count,0,0,0,1,0,0,0,0,0/")  -- F.6
    ∷ example "slots,0/reg,0,0,0/reg,1,0,1/value,0,-/block,0,1,-,1/block,1,1,0,0/block,2,1,0,0/block,3,1,0,0/succ,0,1,2/succ,1,3/succ,2,3/pred,1,0/pred,2,0/pred,3,1,2/op,0,def,0,f0,r0/edit,1,remat,r1,-,0/edit,3,remat,r0,-,0/edit,3,remat,r1,-,0/" 2 0 65536 (writes "edit,1,remat,r1,-,0/edit,3,none,-,-,-/edit,3,remat,r1,-,0/count,0,0,0,1,0,0,0,0,0/")  -- F.7
    ∷ example "slots,0/reg,0,0,0/value,0,-/block,0,1,-,1/block,1,1,0,0/block,2,1,1,0/succ,0,1/succ,1,2/succ,2,1/pred,1,0,2/pred,2,1/op,0,def,0,f0,r0/op,2,def,0,f0,r0/edit,1,remat,r0,-,0/" 3 0 65536 (writes "edit,1,none,-,-,-/count,3,0,0,1,0,0,0,0,0/")  -- F.8
    ∷ example "slots,0/reg,0,0,0/value,0,-/block,0,1,-,1/block,1,1,0,0/block,2,1,1,0/succ,0,1/succ,1,2/succ,2,1/pred,1,0,2/pred,2,1/op,0,def,0,f0,r0/op,2,def,0,f0,r0/edit,1,remat,r0,-,0/" 2 0 65536 (writes "edit,1,remat,r0,-,0/count,0,0,0,0,0,0,0,0,0/")  -- F.9
    ∷ example "slots,1/reg,0,0,0/value,0,0/block,0,1,-,1/block,1,1,0,0/succ,0,1/pred,1,0/edit,0,move,s0,r0,0/" 3 0 65536 (writes "edit,0,move,s0,r0,0/count,1,0,0,0,0,0,0,0,0/")  -- F.10
    ∷ example "slots,1/reg,0,0,0/class,0,1/value,0,0/block,0,2,-,1/block,1,1,0,0/succ,0,1/pred,1,0/op,1,def,0,c0,s0/edit,0,move,s0,r0,0/" 3 0 65536 (writes "edit,0,none,-,-,-/count,1,0,0,0,1,0,0,0,0/")  -- F.11
    ∷ example "slots,0/reg,0,0,0/value,0,-/value,1,-/block,0,1,-,1/block,1,1,0,0/succ,0,1/pred,1,0/op,0,def,0,f0,r0/op,0,early,1,f0,r0/edit,1,remat,r0,-,1/" 3 0 65536 (writes "edit,1,none,-,-,-/count,1,0,0,1,0,0,0,0,0/")  -- F.12
    ∷ example "slots,0/reg,0,0,0/value,0,-/value,1,-/block,0,1,-,1/block,1,1,0,0/succ,0,1/pred,1,0/op,0,def,0,f0,r0/op,0,early,1,f0,r0/edit,1,remat,r0,-,1/" 2 0 65536 (writes "edit,1,remat,r0,-,1/count,0,0,0,0,0,0,0,0,0/")  -- F.13
    ∷ example "slots,1/reg,0,0,0/value,0,0/block,0,1,-,1/block,1,1,0,0/block,2,1,0,0/block,3,2,0,0/succ,0,1,2/succ,1,3/succ,2,3/pred,1,0/pred,2,0/pred,3,1,2/op,0,def,0,f0,r0/op,3,def,0,f0,r0/edit,1,move,s0,r0,0/edit,2,move,s0,r0,0/edit,3,move,s0,r0,0/edit,4,move,s0,r0,0/" 2 0 65536 (writes "edit,1,move,s0,r0,0/edit,2,move,s0,r0,0/edit,3,none,-,-,-/edit,4,move,s0,r0,0/count,0,0,0,0,1,0,0,0,0/")  -- F.14
    ∷ example "slots,1/reg,0,0,0/value,0,0/block,0,1,-,1/block,1,2,0,0/block,2,1,-,0/succ,0,1/succ,1,2/pred,1,0/pred,2,1/op,1,def,0,f0,r0/edit,0,move,s0,r0,0/edit,2,move,s0,r0,0/edit,3,move,s0,r0,0/" 2 0 65536 (writes "edit,0,move,s0,r0,0/edit,2,none,-,-,-/edit,3,move,s0,r0,0/count,0,0,0,0,1,0,0,0,0/")  -- F.15
    ∷ example "slots,1/reg,0,0,0/value,0,0/block,0,1,-,1/block,1,1,0,0/block,2,1,0,0/succ,0,1,2/pred,1,0/pred,2,0/edit,0,move,s0,r0,0/edit,1,move,s0,r0,0/edit,2,move,s0,r0,0/" 1 0 65536 (writes "edit,0,move,s0,r0,0/edit,1,none,-,-,-/edit,2,none,-,-,-/count,0,0,0,0,2,0,0,0,0/")  -- F.16
    ∷ example "slots,1/reg,0,0,0/value,0,0/block,0,2,-,1/op,0,def,0,f0,r0/edit,0,move,s0,r0,0/edit,1,move,s0,r0,0/" 1 0 65536 (writes "edit,0,move,s0,r0,0/edit,1,none,-,-,-/count,0,0,0,0,1,0,0,0,0/")  -- F.17
    ∷ example "slots,1/reg,0,0,0/reg,1,0,1/value,0,0/value,1,0/block,0,1,-,1/block,1,1,0,0/block,2,1,0,0/block,3,2,0,0/succ,0,1,2/succ,1,3/succ,2,3/pred,1,0/pred,2,0/pred,3,1,2/op,0,def,0,f0,r0/op,3,def,1,f1,r1/edit,1,move,s0,r0,0/edit,2,move,s0,r0,0/edit,4,move,s0,r0,0/" 2 0 65536 (writes "edit,1,move,s0,r0,0/edit,2,move,s0,r0,0/edit,4,move,s0,r0,0/count,0,0,0,0,0,0,0,0,0/")  -- F.18
    ∷ example "slots,1/reg,0,0,0/reg,1,0,0/value,0,-/block,0,2,-,1/op,0,def,0,f0,r0/edit,1,move,r1,s0,0/" 1 0 65536 (writes "edit,1,move,r1,r0,0/count,0,0,0,0,0,1,0,0,0/")  -- F.19
    ∷ example "slots,2/reg,0,0,0/value,0,0/block,0,2,-,1/op,0,def,0,f0,r0/edit,1,move,s1,s0,0/" 1 0 65536 (writes "edit,1,move,s1,r0,0/count,0,0,0,0,0,1,0,0,0/")  -- F.20
    ∷ example "slots,0/reg,0,0,0/reg,1,1,1/class,0,0,0,1/value,0,-/block,0,2,-,1/op,0,def,0,f0,r0/op,1,use,0,c0,r1/edit,1,move,r0,r1,0/" 1 0 65536 (writes "fold,1,0,r0/edit,1,none,-,-,-/count,0,1,0,0,0,0,1,0,0/")  -- F.21
    ∷ example "slots,1/reg,0,0,0/reg,1,1,1/value,0,-/block,0,2,-,1/op,0,def,0,f1,r1/edit,1,move,r0,s0,0/" 1 0 65536 (writes "edit,1,move,r0,s0,0/count,0,0,0,0,0,0,0,0,0/")  -- F.22
    ∷ example "slots,1/reg,0,0,0/reg,1,0,1/value,0,-/block,0,3,-,1/op,0,def,0,f0,r0/op,1,def,0,f1,r1/edit,1,espill,s0,r0,-/edit,2,ereload,r0,s0,-/edit,2,move,r0,r1,0/" 1 0 65536 (writes "edit,1,espill,s0,r0,-/edit,2,ereload,r0,s0,-/edit,2,none,-,-,-/count,0,0,1,0,0,0,0,0,0/")  -- F.23
    ∷ example "slots,1/reg,0,0,0/value,0,-/block,0,1,-,1/edit,0,espill,s0,r0,-/edit,0,remat,r0,-,0/edit,0,ereload,r0,s0,-/edit,0,remat,r0,-,0/" 1 0 65536 (writes "edit,0,espill,s0,r0,-/edit,0,remat,r0,-,0/edit,0,ereload,r0,s0,-/edit,0,remat,r0,-,0/count,0,0,0,0,0,0,0,0,0/")  -- F.24
    ∷ example "slots,1/reg,0,0,0,1/value,0,-/block,0,3,-,1/op,0,def,0,f0,r0/clob,1,1/edit,2,espill,s0,r0,-/edit,2,ereload,r0,s0,-/edit,2,remat,r0,-,0/" 1 0 65536 (writes "edit,2,espill,s0,r0,-/edit,2,ereload,r0,s0,-/edit,2,remat,r0,-,0/count,0,0,0,0,0,0,0,0,0/")  -- F.25
    ∷ example "slots,0/reg,0,0,0/value,0,-/block,0,2,-,1/op,0,def,0,f0,r0/clob,0,0/edit,1,remat,r0,-,0/" 1 0 65536 (writes "edit,1,none,-,-,-/count,0,0,0,1,0,0,0,0,0/")  -- F.26
    ∷ example "slots,0/reg,0,0,0/value,0,-/block,0,2,-,1/op,0,fixed,-,f0,r0/clob,0,0/edit,0,remat,r0,-,0/edit,1,remat,r0,-,0/" 1 0 65536 (writes "edit,0,remat,r0,-,0/edit,1,remat,r0,-,0/count,0,0,0,0,0,0,0,0,0/")  -- F.27
    ∷ example "slots,1/value,0,0/block,0,1,-,1/edit,0,remat,s0,-,0/edit,0,remat,s0,-,0/" 1 0 65536 (writes "edit,0,remat,s0,-,0/edit,0,none,-,-,-/count,0,0,0,0,1,0,0,0,0/")  -- F.28
    ∷ example "slots,1/reg,0,0,0/class,0,1,0/value,0,0/value,1,-/block,0,2,-,1/op,0,def,0,c0,r0/op,1,use,0,c0,s0/op,1,early,1,c0,r0/" 1 0 65536 (writes "count,0,0,0,0,0,0,0,0,0/")  -- F.29
    ∷ example "slots,1/reg,0,0,0/class,0,1,0/value,0,0/block,0,1,-,1/op,0,use,0,c0,s0/op,0,early,0,c0,r0/" 1 0 65536 (writes "fold,0,0,r0/count,0,0,0,0,0,0,1,0,0/")  -- F.30
    ∷ example "slots,0/reg,0,0,0/value,0,-/block,0,1,-,1/block,1,2,0,0/succ,0,1/pred,1,0/op,0,def,0,f0,r0/clob,1,0/edit,2,remat,r0,-,0/" 2 0 65536 (writes "edit,2,remat,r0,-,0/count,0,0,0,0,0,0,0,0,0/")  -- F.31
    ∷ example "slots,0/reg,0,0,0/value,0,-/block,0,1,-,1/param,0,0,r0/edit,0,remat,r0,-,0/" 1 0 65536 (writes "edit,0,none,-,-,-/count,0,0,0,1,0,0,0,0,0/")  -- F.32
    ∷ example "slots,2/reg,0,0,0/class,0,1,0/value,0,0/block,0,3,-,1/op,0,def,0,c0,r0/op,1,def,0,c0,s1/edit,2,move,r0,s1,0/" 1 0 65536 (writes "edit,2,move,r0,s1,0/count,0,0,0,0,0,0,0,0,0/")  -- F.33
    ∷ example "slots,2/value,0,0/block,0,1,-,1/edit,0,remat,s1,-,0/edit,0,remat,s1,-,0/" 1 0 65536 (writes "edit,0,remat,s1,-,0/edit,0,remat,s1,-,0/count,0,0,0,0,0,0,0,0,0/")  -- F.34
    ∷ example "slots,0/reg,0,0,0/reg,1,0,1/class,0,0,0/group,0,0,0,1/value,0,-/value,1,-/vgroup,0,0,1/block,0,2,-,1/op,0,defg,0,c0,r0/edit,1,remat,r1,-,1/" 1 0 65536 (writes "edit,1,none,-,-,-/count,0,0,0,1,0,0,0,0,0/")  -- F.35
    ∷ example "slots,0/reg,0,0,0/value,0,-/block,0,1,-,1/block,1,1,0,0/block,2,1,1,0/succ,0,1/succ,1,2/succ,2,1/pred,1,0,2/pred,2,1/op,0,def,0,f0,r0/clob,2,0/edit,1,remat,r0,-,0/" 3 0 65536 (writes "edit,1,remat,r0,-,0/count,4,0,0,0,0,0,0,0,0/")  -- F.36
    ∷ example "slots,1/reg,0,0,0/reg,1,0,1/value,0,-/block,0,1,-,1/edit,0,remat,r0,-,0/edit,0,remat,r1,-,0/edit,0,move,s0,s0,0/" 1 0 65536 (writes "edit,0,remat,r0,-,0/edit,0,remat,r1,-,0/edit,0,move,s0,r0,0/count,0,0,0,0,0,1,0,0,0/")  -- F.37
    ∷ example "slots,1/reg,0,0,0/class,0,1/value,0,0/block,0,2,-,1/op,0,def,0,f0,r0/op,1,use,0,c0,s0/" 1 0 65536 (writes "count,0,0,0,0,0,0,0,0,0/")  -- F.38
    ∷ example "slots,0/reg,0,0,0/value,0,-/block,0,2,-,1/op,0,early,0,f0,r0/clob,0,0/edit,1,remat,r0,-,0/" 1 0 65536 (writes "edit,1,none,-,-,-/count,0,0,0,1,0,0,0,0,0/")  -- F.39
    ∷ example "slots,0/reg,0,0,0/reg,1,0,1/class,0,0,0/group,0,0,0,1/value,0,-/value,1,-/vgroup,0,0,1/block,0,2,-,1/op,0,defg,0,c0,r0/clob,0,1/edit,1,remat,r1,-,1/" 1 0 65536 (writes "edit,1,none,-,-,-/count,0,0,0,1,0,0,0,0,0/")  -- F.40
    ∷ example "slots,0/reg,0,0,0/reg,1,0,1/reg,2,0,2/class,0,0,0/class,1,0,0/group,0,0,0,2/group,1,1,0,1/value,0,-/value,1,-/vgroup,0,0,1/block,0,2,-,1/op,0,useg,0,c1,r0/op,0,defg,0,u0,r0/edit,1,remat,r1,-,1/" 1 0 65536 (writes "edit,1,none,-,-,-/count,0,0,0,1,0,0,0,0,0/")  -- F.41
    ∷ example "slots,0/reg,0,0,0/reg,1,0,1/value,0,-/block,0,1,-,1/block,1,1,0,0/block,2,1,0,0/block,3,1,0,0/block,4,1,3,0/succ,0,1,2/succ,1,3/succ,2,3/succ,3,4/pred,1,0/pred,2,0/pred,3,1,2/pred,4,3/op,0,def,0,f0,r0/edit,2,remat,r1,-,0/" 3 0 65536 (writes "edit,2,remat,r1,-,0/count,4,0,0,0,0,0,0,0,0/")  -- F.42
    ∷ example "slots,0/reg,0,0,0/value,0,-/block,0,1,-,1/block,1,1,0,0/succ,0,1/pred,1,0/param,1,0,r0/edit,1,remat,r0,-,0/" 1 0 65536 (writes "edit,1,none,-,-,-/count,0,0,0,1,0,0,0,0,0/")  -- F.43
    ∷ example "slots,1/reg,0,0,0/class,0,1,0/value,0,0/value,1,-/block,0,3,-,1/op,0,def,0,c0,r0/op,1,use,0,c0,s0/op,2,use,0,c0,s0/op,2,def,1,u0,s0/" 1 0 65536 (writes "fold,1,0,r0/count,0,0,0,0,0,0,1,0,0/")  -- F.44
    ∷ example "slots,0/reg,0,0,0/reg,1,1,1/class,0,0,0,1/group,0,0,1/value,0,-/vgroup,0,0/block,0,2,-,1/op,0,def,0,f0,r0/op,1,useg,0,c0,r1/" 1 0 65536 (writes "count,0,0,0,0,0,0,0,0,0/")  -- F.45
    ∷ example "slots,0/reg,0,0,0/reg,1,0,1/class,0,0,0,1/value,0,-/block,0,2,-,1/op,0,def,0,f0,r0/op,1,use,0,c0,r1/" 1 0 65536 (writes "count,0,0,0,0,0,0,0,0,0/")  -- F.46
    ∷ example "slots,0/reg,0,0,0/class,0,0,0/group,0,0,0/value,0,-/vgroup,0,0/block,0,2,-,1/op,0,earlyg,0,c0,r0/edit,1,remat,r0,-,0/" 1 0 65536 (writes "edit,1,none,-,-,-/count,0,0,0,1,0,0,0,0,0/")  -- F.47
    ∷ example "slots,0/reg,0,0,0/class,0,0,0/group,0,0,0/value,0,-/vgroup,0,0/block,0,1,-,1/block,1,1,0,0/succ,0,1/pred,1,0/op,0,defg,0,c0,r0/edit,1,remat,r0,-,0/" 3 0 65536 (writes "edit,1,none,-,-,-/count,1,0,0,1,0,0,0,0,0/")  -- F.48
    ∷ example "slots,0/reg,0,0,0/value,0,-/block,0,1,-,1/block,1,1,0,0/succ,0,1/pred,1,0/param,0,0,r0/edit,1,remat,r0,-,0/" 3 0 65536 (writes "edit,1,none,-,-,-/count,1,0,0,1,0,0,0,0,0/")  -- F.49
    ∷ example "slots,1/reg,0,0,0/class,0,1/value,0,0/block,0,2,-,1/op,0,def,0,c0,s0/edit,0,remat,r0,-,0/edit,1,remat,r0,-,0/" 1 0 65536 (writes "edit,0,remat,r0,-,0/edit,1,remat,r0,-,0/count,0,0,0,0,0,0,0,0,0/")  -- F.50
    ∷ example "slots,1/reg,0,0,0/value,0,0/block,0,1,-,1/block,1,1,0,0/block,2,1,0,0/block,3,1,0,0/succ,0,1,2/succ,1,3/succ,2,3/pred,1,0/pred,2,0/pred,3,1,2/op,0,def,0,f0,r0/edit,1,move,s0,r0,0/edit,3,move,s0,r0,0/" 2 0 65536 (writes "edit,1,move,s0,r0,0/edit,3,move,s0,r0,0/count,0,0,0,0,0,0,0,0,0/")  -- F.51
    ∷ example "slots,1/reg,0,0,0,1/value,0,-/block,0,1,-,1/edit,0,remat,r0,-,0/edit,0,espill,s0,r0,-/edit,0,ereload,r0,s0,-/edit,0,remat,r0,-,0/" 1 0 65536 (writes "edit,0,remat,r0,-,0/edit,0,espill,s0,r0,-/edit,0,ereload,r0,s0,-/edit,0,none,-,-,-/count,0,0,0,1,0,0,0,0,0/")  -- F.52
    ∷ example "slots,2/reg,0,0,0/class,0,1/value,0,0/block,0,1,-,1/block,1,1,-,0/block,2,1,-,0/succ,0,1/succ,1,2/pred,1,0/pred,2,1/op,0,def,0,c0,s0/op,1,def,0,c0,s1/edit,2,move,s0,r0,0/" 2 0 65536 (writes "edit,2,move,s0,r0,0/count,0,0,0,0,0,0,0,0,0/")  -- F.53
    ∷ example "slots,0/reg,0,0,0/reg,1,0,1/reg,2,0,2/value,0,-/value,1,-/value,2,-/block,0,1,-,1/block,1,1,0,0/block,2,1,1,0/block,3,1,2,0/block,4,1,3,0/block,5,1,3,0/block,6,1,3,0/succ,0,1/succ,1,2/succ,2,3/succ,3,4,5,6/succ,4,3/succ,5,2/succ,6,1/pred,1,0,6/pred,2,1,5/pred,3,2,4/pred,4,3/pred,5,3/pred,6,3/op,0,def,0,f0,r0/op,0,def,1,f1,r1/op,0,def,2,f2,r2/clob,4,0/clob,5,1/clob,6,2/edit,4,remat,r2,-,2/" 3 0 65536 (writes "edit,4,remat,r2,-,2/count,19,0,0,0,0,0,0,0,0/")  -- F.54
    ∷ example "slots,1/reg,0,0,0/class,0,1,0/value,0,0/block,0,3,-,1/op,0,def,0,c0,r0/op,1,use,0,c0,s0/edit,1,move,s0,r0,0/" 1 1 65536 (writes "fold,1,0,r0/edit,1,none,-,-,-/count,0,0,0,0,0,0,1,1,0/")  -- S.1
    ∷ example "slots,1/reg,0,0,0/class,0,1/value,0,0/value,1,-/block,0,1,-,1/op,0,use,0,c0,s0/op,0,early,1,c0,s0/edit,0,move,s0,r0,0/" 0 1 65536 (writes "edit,0,move,s0,r0,0/count,0,0,0,0,0,0,0,0,0/")  -- S.2
    ∷ example "slots,1/reg,0,0,0/class,0,1/value,0,0/block,0,1,-,1/block,1,1,0,0/succ,0,1/pred,1,0/param,1,0,s0/op,1,use,0,c0,s0/edit,0,move,s0,r0,0/" 0 1 65536 (writes "edit,0,move,s0,r0,0/count,0,0,0,0,0,0,0,0,0/")  -- S.3
    ∷ example "slots,1/reg,0,0,0/class,0,1/value,0,0/block,0,1,-,1/op,0,use,0,c0,s0/edit,0,move,s0,r0,0/edit,0,move,s0,s0,0/" 0 1 65536 (writes "edit,0,move,s0,r0,0/edit,0,move,s0,s0,0/count,0,0,0,0,0,0,0,0,0/")  -- S.4
    ∷ example "slots,2/reg,0,0,0/value,0,0/block,0,1,-,1/edit,0,move,s0,r0,0/edit,0,move,s1,s0,0/" 0 1 65536 (writes "edit,0,none,-,-,-/edit,0,none,-,-,-/count,0,0,0,0,0,0,0,2,0/")  -- S.5
    ∷ example "slots,1/reg,0,0,0/value,0,-/block,0,1,-,1/edit,0,move,s0,r0,0/edit,0,espill,s0,r0,-/edit,0,ereload,r0,s0,-/" 0 1 65536 (writes "edit,0,none,-,-,-/edit,0,espill,s0,r0,-/edit,0,ereload,r0,s0,-/count,0,0,0,0,0,0,0,1,0/")  -- S.6
    ∷ example "slots,1/value,0,0/block,0,1,-,1/edit,0,remat,s0,-,0/" 0 1 65536 (writes "edit,0,none,-,-,-/count,0,0,0,0,0,0,0,0,1/")  -- S.7
    ∷ []

-- Document 02, request 1: a sheet, the length of the output buffer, and "100 times the row plus the number"
abbrev pub rows : List (String × ℕ × ℕ)
rows =
    ("slots,0/", 65536, 4)  -- R1.1
    ∷ ("slots,0/block,0,1,-,0/", 65536, 4)  -- R1.2
    ∷ ("slots,0/block,0,1,-,0/block,1,0,-,0/", 65536, 4)  -- R1.3
    ∷ ("slots,0/block,0,0,-,1/", 65536, 204)  -- R1.4
    ∷ ("slots,1/reg,0,0,0/class,0,1,0/value,0,0/block,0,1,-,1/block,1,0,-,1/", 65536, 604)  -- R1.5
    ∷ ("slots,0/block,0,1,-,1/block,1,0,-,1/block,2,0,-,1/", 65536, 304)  -- R1.6
    ∷ ("slots,0/block,0,1,-,1/block,1,1,-,1/succ,0,1/", 65536, 209)  -- R1.7
    ∷ ("slots,0/block,0,1,-,1/block,1,1,-,1/pred,1,0/", 65536, 309)  -- R1.8
    ∷ ("slots,0/block,0,1,-,1/block,1,1,-,1/block,2,1,-,1/succ,2,0/pred,1,0/", 65536, 309)  -- R1.9
    ∷ ("slots,0/block,0,1,-,1/block,1,1,-,1/succ,0,1/succ,1,0/", 65536, 209)  -- R1.10
    ∷ ("slots,0/block,0,1,-,1/succ,0,0/", 65536, 209)  -- R1.11
    ∷ ("slots,0/block,0,1,-,1/block,1,1,-,1/block,2,0,-,1/succ,0,1/", 65536, 404)  -- R1.12
    ∷ ("slots,0/block,0,1,-,1/block,1,1,-,1/succ,0,1/pred,1,0/", 65536, 310)  -- R1.13
    ∷ ("slots,0/block,0,1,-,1/block,1,1,-,0/block,2,1,-,1/block,3,1,-,0/succ,0,1/succ,2,1,3/pred,1,0,2/pred,3,2/", 65536, 410)  -- R1.14
    ∷ ("slots,0/block,0,1,-,1/block,1,1,-,1/block,2,1,-,0/succ,0,1,2/succ,1,2/pred,1,0/pred,2,0,1/", 65536, 210)  -- R1.15
    ∷ ("slots,0/block,0,1,-,1/block,1,1,-,1/block,2,1,-,1/succ,0,0/succ,1,2/pred,0,0/", 65536, 309)  -- R1.16
    ∷ ("slots,0/block,0,1,-,1/block,1,1,-,0/block,2,1,-,0/succ,0,2/succ,2,1/pred,1,2/pred,2,0/", 65536, 311)  -- R1.17
    ∷ ("slots,0/block,0,1,0,1/", 65536, 211)  -- R1.18
    ∷ ("slots,0/block,0,1,-,1/block,1,1,1,1/block,2,1,-,0/block,3,1,-,0/succ,0,3/succ,3,2/pred,2,3/pred,3,0/", 65536, 311)  -- R1.19
    ∷ ("slots,0/block,0,1,0,1/block,1,1,-,1/succ,0,1/pred,1,0/", 65536, 310)  -- R1.20
    ∷ ("slots,0/block,0,1,-,1/block,1,1,-,0/block,2,1,-,0/", 65536, 312)  -- R1.21
    ∷ ("slots,0/block,0,1,-,1/block,1,1,-,0/block,2,1,2,1/", 65536, 411)  -- R1.22
    ∷ ("slots,0/block,0,0,1,1/", 65536, 3)  -- R1.23
    ∷ ("slots,0/reg,0,0,0/class,0,0/value,0,-/block,0,1,-,1/block,1,1,-,0/op,0,use,0,c0,r0/", 65536, 612)  -- R1.24
    ∷ ("slots,0/reg,0,0,0/class,0,0/value,0,-/block,0,1,-,1/op,0,use,0,c0,r0/", 65536, 5)  -- R1.25
    ∷ ("slots,0/block,0,1,-,1/", 0, 8)  -- R1.26
    ∷ []

pub record Readings : Type 0 where
  pub gives : Gives readings
  -- request 1, at level 1 with sweep
  pub returns : map (λ e. returned (answer (lines e.0) 1 1 e.1)) rows ≡ map (λ e. neg_ℤ (pos e.2)) rows
  -- R1.27 and R1.28: the program's row shows the sum
  pub prints : (program (lines "slots,0/block,0,0,-,1/") ≡ lines "refused,204/") × (program (lines "slots,99999/") ≡ lines "refused,2/")
