use Rattle.std.proofs.Common.{◌≡◌, ◌≤◌, take, subst, arith}
use Rattle.std.proofs.lemmas.List.{take_all}
use Rattle.inverse_transforms.specs.Flow.{run_flow, magnitude}
use Rattle.inverse_transforms.specs.LaneColumns.{column}
use Rattle.inverse_transforms.specs.Transforms.{dct, AreDct}
use Rattle.inverse_transforms.specs.Ranges.{limit_of}
use Rattle.inverse_transforms.proofs.ColumnLemmas.{gives_of_size}
use Rattle.inverse_transforms.proofs.CalmColumns.{calm_same}
use Rattle.inverse_transforms.proofs.transforms.dct_columns_of_8.Goals as goal

pub dct_of_8-requires-clause-few : goal.dct_of_8-requires-clause-few
dct_of_8-requires-clause-few c = λ j low.
    let whole : take 8 c.args.t.now ≡ c.args.t.now = take_all 8 c.args.t.now (omega arith) in
    let few = subst (λ rows. magnitude (column j rows) ≤ c.heaviest.result) whole (c.heaviest.ensures j low) in
    omega (arith, few, c.if-heaviest-le32768.true)

pub flow_columns-requires-clause-calm : goal.flow_columns-requires-clause-calm
unfolding AreDct
flow_columns-requires-clause-calm c =
    rw c.requires.size (calm_same 8 c.dct_calm.result (λ limit. dct limit 3) (λ limit. run_flow limit c.dct_rows.result.now)
    c.dct_rows.ensures.same c.dct_calm.ensures.calm)

pub returns-clause-gives : goal.returns-clause-gives
unfolding AreDct
returns-clause-gives c =
    gives_of_size 8 (run_flow (limit_of c.args.depth) c.dct_rows.result.now) (dct (limit_of c.args.depth) 3)
    c.flow_columns.result c.args.t.now c.flow_columns.new.t c.requires.size (c.dct_rows.ensures.same (limit_of c.args.depth)) c.flow_columns.ensures.gives
