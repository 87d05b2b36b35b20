use Rattle.std.proofs.Common.{refl}
use Rattle.job_heads.proofs.TileColumns.{column_of, due, due_below}
use Rattle.job_heads.proofs.columns.planned.Goals as goal

pub begun-begun-requires : goal.begun-begun-requires
begun-begun-requires g c =
    let d = due g.B.DecodeRun.format g.B.DecodeRun.film c.args.frame c.args.column c.requires in λ k. ((refl, (refl, tt)), (d.0, d.1))

pub plan_column-requires-clause-below : goal.plan_column-requires-clause-below
plan_column-requires-clause-below g c =
    due_below g.B.DecodeRun.format g.B.DecodeRun.film c.args.frame c.args.column _ (due g.B.DecodeRun.format g.B.DecodeRun.film c.args.frame c.args.column c.requires) c.begun-begun.ensures

pub returns : goal.returns
returns g c = column_of g.B.DecodeRun.format g.B.DecodeRun.film c.args.frame _ c.args.column _ c.begun-begun.ensures c.plan_column.ensures
