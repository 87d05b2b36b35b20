use Rattle.std.proofs.Common.{◌≡◌}
use Rattle.std.specs.Prelude.{take}
use Rattle.std.specs.List.{fold, flat_map}
use Rattle.vp9_types.specs.Maps.{IsAtMost}
use Rattle.vp9_types.specs.Sizes.{greatest}
use Rattle.planes.specs.Planes.{plane_map}
use Rattle.line_filter.specs.FilteredEdges.{with_edge}
use Rattle.loop_filter.specs.FilterPlans.{planned_edges}
use Rattle.loop_filter.proofs.cells.filter_pass.Given as goal

abbrev pub invariant-loop-k : goal.invariant-loop-k
invariant-loop-k g l = record {
  area : l.samples.area ≡ l.initial.samples.area;
  range : IsAtMost (greatest l.f.setting.shape.depth) (plane_map l.samples);
  map : plane_map l.samples ≡ fold with_edge (plane_map l.initial.samples) (flat_map (planned_edges l.f.setting l.way.plane l.way.pass) (take l.k l.list.cells));
}
