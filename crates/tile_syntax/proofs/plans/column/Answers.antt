use Rattle.frame_headers.specs.HeaderState.{shape_of}
use Rattle.std.proofs.Common.{ap}
use Rattle.std.specs.Prelude.{List, Bool}
use Rattle.block_plan.specs.declared.block.BlockInfo.{BlockInfo}
use Rattle.tile_syntax.proofs.ColumnTiles.{nothing_held, nothing_kept}
use Rattle.tile_syntax.proofs.plans.column.Goals as goal

pub plan_tiles-requires-clause-start : goal.plan_tiles-requires-clause-start
plan_tiles-requires-clause-start c = nothing_held (shape_of c.args.by.now.setting.header) (record { column = c.renew.new.self; residues = c.clear.new.self; rows = c.clear-2.new.self }) c.in_ok-renew.ensures.start

pub plan_tiles-requires-else-adapts-clause-start :
    goal.plan_tiles-requires-else-adapts-clause-start
plan_tiles-requires-else-adapts-clause-start c = nothing_held (shape_of c.args.by.now.setting.header) (record { column = c.renew.new.self; residues = c.clear.new.self; rows = c.clear-2.new.self }) c.in_ok-renew.ensures.start

pub plan_tiles-requires-clause-kept : goal.plan_tiles-requires-clause-kept
plan_tiles-requires-clause-kept c =
    nothing_kept c.args.by.now.setting.header (record { column = c.renew.new.self; residues = c.clear.new.self; rows = c.clear-2.new.self })
    (ap (λ (z : List BlockInfo × List Bool × List Bool × List Bool). z.0) c.in_ok-renew.ensures.start) c.clear.ensures c.clear-2.ensures

pub plan_tiles-requires-else-adapts-clause-kept : goal.plan_tiles-requires-else-adapts-clause-kept
plan_tiles-requires-else-adapts-clause-kept c =
    nothing_kept c.args.by.now.setting.header (record { column = c.renew.new.self; residues = c.clear.new.self; rows = c.clear-2.new.self })
    (ap (λ (z : List BlockInfo × List Bool × List Bool × List Bool). z.0) c.in_ok-renew.ensures.start) c.clear.ensures c.clear-2.ensures
