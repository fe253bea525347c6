use Rattle.std.proofs.Common.{length, length-append, arith, rules, ap, ◌∙◌, sym}
use Rattle.std.specs.Slice.Iter.{chunks_rest}
use Rattle.marks.specs.Marks.{applied_at}
use Rattle.marks.proofs.Marking.{each_first, page_next, page_rest, page_last}
use Rattle.marks.proofs.mark_rows.Goals as goal

pub loop-page-init : goal.loop-page-init
loop-page-init c = (search rules, tt, search rules, search rules, search rules, each_first applied_at _ _)

pub loop-page-preserved : goal.loop-page-preserved
loop-page-preserved c =
    let steps = c.in-Some.ensures.steps in
    let parts = sym c.loop-page.invariant.4 ∙ steps.1.0 in (
      search rules,
      tt,
      steps.0 ∙ c.loop-page.invariant.2,
      omega (arith, c.loop-page.invariant.3, ap length steps.1.0, length-append c.in-Some.page.now (chunks_rest c.next.new.self)),
      page_rest c.args.marks.now _ _ _ parts,
      page_next _ _ _ _ parts _ c.loop-page.invariant.5 c.mark_page.ensures,
    )

pub returns : goal.returns
returns c = page_last _ _ c.loop-page.invariant.5 (omega (arith, c.loop-page.invariant.3, c.in-None.ensures.steps.1.0))
