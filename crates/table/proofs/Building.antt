-- The index (specs/Index.antt: `Built`), once it is built: for src/index.rt. Assumes nothing.
use mathlib.Core.Path.{◌≡◌, sym, ap, ◌∙◌}
use mathlib.Core.Bool.{true}
use mathlib.Core.List.{List}
use Prim.Native.Nat.{ℕ, ◌+◌, ◌≤◌}
use native.Mathlib.Omega.{arith}
use lib.ListN.{take}
use Rattle.entity.specs.Limits.{block_limit, inst_limit}
use Rattle.rules.specs.Sheet.{Sheet, total_of, sheet_of}
use Rattle.rules.specs.Accept.{within_limits}
use Rattle.rules.proofs.Refusals.{in_limits}
use Rattle.table.specs.Layout.{clob_index, edit_index, inst_index, op_index, param_index, pred_index, succ_index}
use Rattle.table.specs.Table.{Indexed}
use Rattle.table.specs.Index.{before, of_kind, Filled, Built}
use Rattle.table.proofs.Sheets.{rows_are, sheet_in_is}

-- what filling a part promises
abbrev pub Fills : ℕ → ℕ → ℕ → List ℕ → List ℕ → Type 0
Fills k at most t t' = (rs : List (List ℕ)) → Indexed rs t → Filled rs at (λ x. before x (of_kind k rs)) (most + 1) t t'

abbrev pub FillsInsts : List ℕ → List ℕ → Type 0
FillsInsts t t' =
    (rs : List (List ℕ)) → Indexed rs t → total_of (sheet_of rs).blocks ≤ inst_limit
    → Filled rs inst_index (λ b. total_of (take b (sheet_of rs).blocks)) (block_limit + 1) t t'

pub builds : (t₀ t₁ t₂ t₃ t₄ t₅ t₆ t₇ : List ℕ) → FillsInsts t₀ t₁ → Fills 7 succ_index block_limit t₁ t₂ → Fills 8 pred_index block_limit t₂ t₃ → Fills 9 param_index block_limit t₃ t₄ → Fills 10 op_index inst_limit t₄ t₅
    → Fills 11 clob_index inst_limit t₅ t₆ → Fills 12 edit_index inst_limit t₆ t₇ → (rs : List (List ℕ)) → Indexed rs t₀ → within_limits (sheet_of rs) ≡ true → Indexed rs t₇ × Built t₇
builds t₀ t₁ t₂ t₃ t₄ t₅ t₆ t₇ f₁ f₂ f₃ f₄ f₅ f₆ f₇ rs i w =
    let p₁ = f₁ rs i (in_limits (sheet_of rs) w).few_insts in
    let p₂ = f₂ rs p₁.rows in
    let p₃ = f₃ rs p₂.rows in
    let p₄ = f₄ rs p₃.rows in
    let p₅ = f₅ rs p₄.rows in
    let p₆ = f₆ rs p₅.rows in
    let p₇ = f₇ rs p₆.rows in
    let r = p₇.rows in (
      r,
      record {
        insts = λ b u.
            p₇.span.before _ (omega arith) ∙ p₆.span.before _ (omega arith) ∙ p₅.span.before _ (omega arith) ∙ p₄.span.before _ (omega arith) ∙ p₃.span.before _ (omega arith) ∙ p₂.span.before _ (omega arith)
            ∙ p₁.span.done b (omega arith) ∙ ap (λ (s : Sheet). total_of (take b s.blocks)) (sym (sheet_in_is r));
        succs = λ x u.
            p₇.span.before _ (omega arith) ∙ p₆.span.before _ (omega arith) ∙ p₅.span.before _ (omega arith) ∙ p₄.span.before _ (omega arith) ∙ p₃.span.before _ (omega arith) ∙ p₂.span.done x (omega arith)
            ∙ ap (before x) (sym (rows_are r 7 (omega arith)));
        preds = λ x u.
            p₇.span.before _ (omega arith) ∙ p₆.span.before _ (omega arith) ∙ p₅.span.before _ (omega arith) ∙ p₄.span.before _ (omega arith) ∙ p₃.span.done x (omega arith)
            ∙ ap (before x) (sym (rows_are r 8 (omega arith)));
        params = λ x u.
            p₇.span.before _ (omega arith) ∙ p₆.span.before _ (omega arith) ∙ p₅.span.before _ (omega arith) ∙ p₄.span.done x (omega arith) ∙ ap (before x) (sym (rows_are r 9 (omega arith)));
        ops = λ x u. p₇.span.before _ (omega arith) ∙ p₆.span.before _ (omega arith) ∙ p₅.span.done x (omega arith) ∙ ap (before x) (sym (rows_are r 10 (omega arith)));
        clobs = λ x u. p₇.span.before _ (omega arith) ∙ p₆.span.done x (omega arith) ∙ ap (before x) (sym (rows_are r 11 (omega arith)));
        edits = λ x u. p₇.span.done x (omega arith) ∙ ap (before x) (sym (rows_are r 12 (omega arith)));
      },
    )
