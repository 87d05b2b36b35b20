use Rattle.vp9_types.specs.declared.shape.Plane.{Plane}
use Rattle.loop_filter.specs.FilterPlans.{list_of, HasPlaces}
use Rattle.loop_filter.proofs.plans.plan_row.Given as goal

abbrev pub invariant-loop-j : goal.invariant-loop-j
invariant-loop-j g l = record {
  places : (plane : Plane) → HasPlaces l.f.setting (g.N.Neighbours.blocks l.blocks) plane l.row l.sc l.j (list_of l.initial.plans plane) (list_of l.plans plane);
}
