use Rattle.std.proofs.Common.{◌∙◌}
use Rattle.loop_edges.proofs.Widths.{edge_is}
use Rattle.loop_edges.proofs.cells.outer_width.Goals as goal

pub returns : goal.returns
returns c = c.narrowed.ensures ∙ edge_is c.args.is_edge c.args.tx c.args.a c.whole_width.result c.requires c.whole_width.ensures
