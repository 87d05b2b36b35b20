use Rattle.std.proofs.Common.{◌≡◌}
use Rattle.std.specs.List.{fold, flat_map, range_with_len}
use Rattle.vp9_types.specs.declared.shape.Plane.TheVariants.{Y, U, V}
use Rattle.planes.specs.Planes.{plane_map}
use Rattle.planes.specs.Pictures.{IsInRange}
use Rattle.line_filter.specs.FilteredEdges.{with_edge}
use Rattle.loop_edges.specs.FrameEdges.{superblock_edges}
use Rattle.loop_filter.specs.Code.{HasAreasOf}
use Rattle.loop_filter.proofs.rows.filter_superblocks.Given as goal

abbrev pub invariant-loop-sc : goal.invariant-loop-sc
invariant-loop-sc g l = record {
  areas : HasAreasOf l.initial.planes l.planes;
  range : IsInRange l.f.setting.shape.depth l.planes;
  y : plane_map l.planes.y ≡ fold with_edge (plane_map l.initial.planes.y) (flat_map (superblock_edges l.f.setting (g.N.Neighbours.blocks l.blocks) Y l.sr) (range_with_len 0 l.sc));
  u : plane_map l.planes.u ≡ fold with_edge (plane_map l.initial.planes.u) (flat_map (superblock_edges l.f.setting (g.N.Neighbours.blocks l.blocks) U l.sr) (range_with_len 0 l.sc));
  v : plane_map l.planes.v ≡ fold with_edge (plane_map l.initial.planes.v) (flat_map (superblock_edges l.f.setting (g.N.Neighbours.blocks l.blocks) V l.sr) (range_with_len 0 l.sc));
}
