use Rattle.std.proofs.Common.{arith}
use Rattle.loop_edges.proofs.ByKind.{half_low}
use Rattle.loop_edges.proofs.tables.EdgeTables.limits.Goals as goal

pub returns-clause-half : goal.returns-clause-half
returns-clause-half c = let t = c.args.self.now in
    rw (t.are_limits c.args.level (omega (arith, c.ranges.level))) (half_low t.setting.shape.depth t.setting.filter.sharpness c.args.level)
