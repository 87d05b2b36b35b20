use Rattle.std.proofs.Common.{◌≡◌, ◌≤◌, take, subst, sym, arith, All}
use Rattle.std.proofs.lemmas.List.{take_all}
use Rattle.inverse_transforms.specs.Flow.{run_flow, magnitude}
use Rattle.inverse_transforms.specs.LaneColumns.{column}
use Rattle.inverse_transforms.specs.Transforms.{dct, AreDct}
use Rattle.inverse_transforms.specs.Ranges.{IsSmall, limit_of}
use Rattle.inverse_transforms.proofs.ColumnLemmas.{gives_of_size}
use Rattle.inverse_transforms.proofs.CalmColumns.{calm_same}
use Rattle.inverse_transforms.proofs.transforms.dct_columns_of_16.Goals as goal

pub dct_of_16-requires-clause-few : goal.dct_of_16-requires-clause-few
dct_of_16-requires-clause-few c = λ j low.
    let whole : take 16 c.args.t.now ≡ c.args.t.now = take_all 16 c.args.t.now (omega arith) in
    let few = subst (λ rows. magnitude (column j rows) ≤ c.heaviest.result) whole (c.heaviest.ensures j low) in
    omega (arith, few, c.if-heaviest-le16384.true)

pub flow_columns-requires-clause-calm : goal.flow_columns-requires-clause-calm
unfolding AreDct
flow_columns-requires-clause-calm c =
    rw c.requires.size (calm_same 16 c.dct_calm.result (λ limit. dct limit 4) (λ limit. run_flow limit c.dct_rows.result.now)
    c.dct_rows.ensures.same c.dct_calm.ensures.calm)

pub returns-clause-gives : goal.returns-clause-gives
unfolding AreDct
returns-clause-gives c =
    gives_of_size 16 (run_flow (limit_of c.args.depth) c.dct_rows.result.now) (dct (limit_of c.args.depth) 4)
    c.flow_columns.result c.args.t.now c.flow_columns.new.t c.requires.size (c.dct_rows.ensures.same (limit_of c.args.depth)) c.flow_columns.ensures.gives

pub heaviest-requires-clause-small : goal.heaviest-requires-clause-small
heaviest-requires-clause-small c =
    let whole : take 16 c.args.t.now ≡ c.args.t.now = take_all 16 c.args.t.now (omega (arith, c.requires.size)) in
    subst (λ rows. All (All IsSmall) rows) (sym whole) c.requires.small
