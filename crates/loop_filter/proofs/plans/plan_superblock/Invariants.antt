use Rattle.vp9_types.specs.declared.shape.Plane.{Plane}
use Rattle.loop_filter.specs.FilterPlans.{list_of, HasRows}
use Rattle.loop_filter.proofs.plans.plan_superblock.Given as goal

abbrev pub invariant-loop-i : goal.invariant-loop-i
invariant-loop-i g l = record {
  rows : (plane : Plane) → HasRows l.f.setting (g.N.Neighbours.blocks l.blocks) plane l.sr l.sc l.i (list_of l.plans plane);
}
