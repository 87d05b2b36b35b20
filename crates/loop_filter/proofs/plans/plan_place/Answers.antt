use Rattle.std.proofs.Common.{sym}
use Rattle.loop_filter.proofs.Walks.{covering_fits}
use Rattle.loop_filter.proofs.plans.plan_place.Goals as goal

pub plan_block-requires-clause-fits : goal.plan_block-requires-clause-fits
plan_block-requires-clause-fits g c =
    covering_fits (g.N.Neighbours.blocks c.args.blocks.now) c.args.at.row c.args.at.col c.in-Some.block.now c.requires.fit (sym c.in-Some.ensures)
