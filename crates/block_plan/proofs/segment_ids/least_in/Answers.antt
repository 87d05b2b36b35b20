use Rattle.std.proofs.Common.{◌∙◌, ◌+◌, ◌*◌, ◌<◌, ◌≤◌, ap, length, arith}
use Rattle.std.specs.Prelude.{min}
use Rattle.std.specs.List.{fold}
use Rattle.vp9_types.specs.Maps.{rows_of}
use Rattle.block_plan.proofs.MapRows.{next, row_is, least_more, least_all}
use Rattle.block_plan.proofs.segment_ids.least_in.Goals as goal

pub loop-i-preserved : goal.loop-i-preserved
loop-i-preserved c =
    let part = c.args.part in
    let lt : part.row + c.loop-i.i < part.row + part.rows = omega arith in
    let high : (part.row + c.loop-i.i) * c.args.width + c.args.width ≤ length c.args.ids.now = omega (arith, next c.args.width _ _ lt) in
    least_more (rows_of c.args.width c.args.ids.now) c.loop-i.least c.least_of-least.result part.row part.col part.cols c.loop-i.i c.loop-i.invariant
    (c.least_of-least.ensures ∙ ap (fold min c.loop-i.least) (row_is c.args.width c.args.ids.now (part.row + c.loop-i.i) part.col part.cols c.requires.wide high))

pub returns : goal.returns
returns c = least_all (rows_of c.args.width c.args.ids.now) c.args.part c.loop-i.least c.loop-i.i (omega arith) c.loop-i.invariant
