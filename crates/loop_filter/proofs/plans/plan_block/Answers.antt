use Rattle.std.proofs.Common.{◌≡◌, ◌∙◌, sym, true}
use Rattle.loop_edges.specs.Code.{is_inside}
use Rattle.loop_edges.specs.FilterLevels.{filter_level}
use Rattle.loop_filter.specs.FilterPlans.{list_of}
use Rattle.loop_filter.proofs.PlannedEdges.{is_off, no_level, inside}
use Rattle.loop_filter.proofs.plans.plan_block.Goals as goal

pub returns-else-level-gt0 : goal.returns-else-level-gt0
returns-else-level-gt0 c = let a = c.args in let f = a.f.now.setting in
    λ plane. no_level f plane a.at.row a.at.col a.block.now (list_of a.plans.now plane) (is_off (filter_level f a.block.now) c.level-level.result c.level-level.ensures c.if-level-gt0.false)

pub returns-else-not-is_inside : goal.returns-else-not-is_inside
returns-else-not-is_inside c = let a = c.args in
    let is : is_inside a.block.now a.at.row a.at.col ≡ true = sym c.is_inside.ensures ∙ c.if-not-is_inside.false in
    λ plane. inside a.f.now.setting plane a.at.row a.at.col a.block.now (list_of a.plans.now plane) is
