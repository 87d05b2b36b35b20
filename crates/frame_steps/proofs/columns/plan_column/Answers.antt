use Rattle.std.proofs.Common.{sym, subst}
use Rattle.std.proofs.lemmas.Result.{err_from_is_err_and}
use Rattle.frame_headers.specs.FrameSizes.{IsFrameSize}
use Rattle.frame_headers.specs.declared.header.Header.{Header}
use Rattle.frame_steps.specs.StepResults.{HaveSizes}
use Rattle.frame_steps.proofs.Placing.{column_failed, column_planned, placed_by}
use Rattle.frame_steps.proofs.columns.plan_column.Goals as goal

pub returns-in_err-counts : goal.returns-in_err-counts
returns-in_err-counts c =
    let p = err_from_is_err_and c.from_residual-in_err-counts.result c.from_residual-in_err-counts.ensures.1 in
    rw (p.1, p.2) (column_failed c.args.frame.now c.args.k _ c.column.new.plan c.sources-by.result.setting.header _ c.sources-by.ensures.header c.sources-by.ensures.is c.in_err-counts.ensures.gives)

pub row_needs-requires-clause-placed : goal.row_needs-requires-clause-placed
row_needs-requires-clause-placed c =
    let own = sym c.sources-by.ensures.header in
    let sound = c.requires.sound in
    placed_by c.sources-by.result.setting.header _ c.args.k c.column.new.plan.column (subst (λ (h : Header). IsFrameSize h.size) own sound.size) (subst (λ (h : Header). HaveSizes h.kind) own sound.references)
    c.in_ok-counts.ensures.column c.in_ok-counts.ensures.kept.refer

pub returns : goal.returns
returns c =
    column_planned c.args.frame.now c.args.k _ c.sources-by.result.setting.header _ c.sources-by.ensures.header c.sources-by.ensures.is c.in_ok-counts.ensures.gives
    c.in_ok-counts.ensures.column c.in_ok-counts.ensures.kept c.in_ok-needs.ensures
