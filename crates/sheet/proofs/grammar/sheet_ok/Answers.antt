use mathlib.Core.Bool.{true}
use mathlib.Core.Path.{◌≡◌, sym, ◌∙◌, ap}
use native.Mathlib.Omega.{arith}
use Rattle.rules.specs.Rows.{kind, first, row_ok}
use Rattle.sheet.specs.Grammar.{follows}
use Rattle.table.specs.Rows.{row_in}
use Rattle.sheet.proofs.Order.{no_rows, not_slots, from_slots, row_not, pair_not, row_more, all_left}
use Rattle.sheet.proofs.grammar.sheet_ok.Goals as goal

pub returns-then-n-eq0 : goal.returns-then-n-eq0
returns-then-n-eq0 c = no_rows _ _ c.if-n-eq0.true

pub returns-then-read-ne-SLOTS : goal.returns-then-read-ne-SLOTS
returns-then-read-ne-SLOTS c = let a = c.args in let slots_kind : c.read.result ≡ kind (row_in c.args.t.now 0) = c.read.ensures ∙ ap kind c.row.ensures in not_slots a.t.now a.n (omega arith) (λ e. c.if-read-ne-SLOTS.true (slots_kind ∙ e))

pub loop-i-init : goal.loop-i-init
loop-i-init c = let a = c.args in let slots_kind : c.read.result ≡ kind (row_in c.args.t.now 0) = c.read.ensures ∙ ap kind c.row.ensures in from_slots a.t.now a.n (omega arith) (sym slots_kind ∙ c.if-read-ne-SLOTS.false)

pub returns-then-not-row_ok : goal.returns-then-not-row_ok
returns-then-not-row_ok c = let a = c.args in sym (c.loop-i.invariant ∙ row_not a.t.now a.n c.loop-i.i c.loop-i.p c.loop-i.x (omega arith) (ap row_ok (sym c.row-r.ensures) ∙ sym c.row_ok.ensures ∙ c.if-not-row_ok.true))

pub returns-then-not-pair_ok : goal.returns-then-not-pair_ok
returns-then-not-pair_ok c = let a = c.args in
    let row = row_in c.args.t.now c.loop-i.i in
    let kind_at : c.read-k.result ≡ kind row = c.read-k.ensures ∙ ap kind c.row-r.ensures in
    let first_at : c.read-f.result ≡ first row = c.read-f.ensures ∙ ap first c.row-r.ensures in
    let follows_at : c.pair_ok.result ≡ follows c.loop-i.p c.loop-i.x (kind row) (first row) = c.pair_ok.ensures ∙ rw (kind_at, first_at) in
    sym (c.loop-i.invariant ∙ pair_not a.t.now a.n c.loop-i.i c.loop-i.p c.loop-i.x (omega arith) (sym follows_at ∙ c.if-not-pair_ok.true))

pub loop-i-preserved : goal.loop-i-preserved
loop-i-preserved c = let a = c.args in
    let row = row_in c.args.t.now c.loop-i.i in
    let kind_at : c.read-k.result ≡ kind row = c.read-k.ensures ∙ ap kind c.row-r.ensures in
    let first_at : c.read-f.result ≡ first row = c.read-f.ensures ∙ ap first c.row-r.ensures in
    let follows_at : c.pair_ok.result ≡ follows c.loop-i.p c.loop-i.x (kind row) (first row) = c.pair_ok.ensures ∙ rw (kind_at, first_at) in
    let right : row_ok row ≡ true = ap row_ok (sym c.row-r.ensures) ∙ sym c.row_ok.ensures ∙ c.if-not-row_ok.false in
    c.loop-i.invariant ∙ row_more a.t.now a.n c.loop-i.i c.loop-i.p c.loop-i.x (omega arith) right (sym follows_at ∙ c.if-not-pair_ok.false) ∙ rw (← kind_at, ← first_at)

pub returns : goal.returns
returns c = let a = c.args in sym (c.loop-i.invariant ∙ all_left a.t.now a.n c.loop-i.i c.loop-i.p c.loop-i.x (omega arith))
