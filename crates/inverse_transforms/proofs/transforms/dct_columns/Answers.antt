use Rattle.std.proofs.Common.{◌^◌}
use Rattle.inverse_transforms.specs.Flow.{run_flow}
use Rattle.inverse_transforms.specs.Transforms.{dct, AreDct}
use Rattle.inverse_transforms.specs.Ranges.{limit_of}
use Rattle.inverse_transforms.proofs.ColumnLemmas.{gives_of_size}
use Rattle.inverse_transforms.proofs.CalmColumns.{calm_same}
use Rattle.inverse_transforms.proofs.transforms.dct_columns.Goals as goal

pub returns-clause-gives : goal.returns-clause-gives
unfolding AreDct
returns-clause-gives c =
    gives_of_size (2 ^ c.args.log2) (run_flow (limit_of c.args.depth) c.dct_rows.result.now) (dct (limit_of c.args.depth) c.args.log2)
    c.flow_columns.result c.args.t.now c.flow_columns.new.t c.requires.size (c.dct_rows.ensures.same (limit_of c.args.depth)) c.flow_columns.ensures.gives

pub flow_columns-requires-clause-calm : goal.flow_columns-requires-clause-calm
unfolding AreDct
flow_columns-requires-clause-calm c =
    rw c.requires.size (calm_same (2 ^ c.args.log2) c.dct_calm.result (λ limit. dct limit c.args.log2) (λ limit. run_flow limit c.dct_rows.result.now)
    c.dct_rows.ensures.same c.dct_calm.ensures.calm)
