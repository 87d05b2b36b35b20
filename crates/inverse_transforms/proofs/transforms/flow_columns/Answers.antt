use Rattle.std.proofs.Common.{ℕ, ◌^◌, length, refl, arith}
use Rattle.inverse_transforms.specs.LaneColumns.{column}
use Rattle.inverse_transforms.specs.Flow.{run_flow}
use Rattle.inverse_transforms.specs.Ranges.{limit_of}
use Rattle.inverse_transforms.proofs.CalmColumns.{magnitude_bounds, columns_fit, calm_fits, calm_gives, limit_at_least}
use Rattle.inverse_transforms.proofs.transforms.flow_columns.Goals as goal

pub flow-requires-clause-fit : goal.flow-requires-clause-fit
flow-requires-clause-fit c =
    let steps = λ (limit : ℕ). run_flow limit c.args.rows.now in
    calm_fits steps c.args.t.now
    (columns_fit (length c.args.t.now) c.args.calm c.heaviest.result steps c.args.t.now refl c.if-heaviest-calm.true c.requires.calm c.heaviest.ensures)

pub returns-then-heaviest-calm-clause-gives : goal.returns-then-heaviest-calm-clause-gives
returns-then-heaviest-calm-clause-gives c =
    let steps = λ (limit : ℕ). run_flow limit c.args.rows.now in
    calm_gives steps (limit_of c.args.depth) c.flow.result c.args.t.now c.flow.new.t (limit_at_least c.args.depth)
    (columns_fit (length c.args.t.now) c.args.calm c.heaviest.result steps c.args.t.now refl c.if-heaviest-calm.true c.requires.calm c.heaviest.ensures)
    c.flow.ensures.gives

pub flow-requires-clause-narrow : goal.flow-requires-clause-narrow
flow-requires-clause-narrow c = λ j low. magnitude_bounds (2 ^ 15) (column j c.args.t.now) (omega (arith, c.heaviest.ensures j low, c.if-heaviest-calm.true))
