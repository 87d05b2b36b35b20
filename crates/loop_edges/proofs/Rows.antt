-- After all rows of superblocks a frame is filtered.
use Rattle.std.proofs.Common.{◌≡◌, refl, List}
use Rattle.vp9_types.specs.Maps.{FrameMap}
use Rattle.vp9_types.specs.Shapes.{mi_rows}
use Rattle.vp9_types.specs.Sizes.{superblocks_along}
use Rattle.vp9_types.specs.declared.shape.Plane.{Plane}
use Rattle.block_plan.specs.declared.block.BlockInfo.{BlockInfo}
use Rattle.loop_edges.specs.Code.{edges_before, filtered_before}
use Rattle.loop_edges.specs.FrameEdges.{frame_edges, filtered_frame}
use Rattle.loop_edges.specs.declared.setting.EdgeSetting.{EdgeSetting}

pub all_edges : (f : EdgeSetting) (blocks : List BlockInfo) (plane : Plane) → edges_before f blocks plane (superblocks_along (mi_rows f.shape)) ≡ frame_edges f blocks plane
unfolding edges_before frame_edges
all_edges f blocks plane = refl

pub all_rows : (f : EdgeSetting) (blocks : List BlockInfo) (m : FrameMap) → filtered_before f blocks m (superblocks_along (mi_rows f.shape)) ≡ filtered_frame f blocks m
unfolding edges_before frame_edges filtered_before filtered_frame
all_rows f blocks m = refl
