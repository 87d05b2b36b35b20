use Rattle.std.proofs.Common.{◌≡◌, length}
use Rattle.std.specs.List.{fold, range_with_len}
use Rattle.vp9_types.specs.Maps.{IsAtMost}
use Rattle.vp9_types.specs.Sizes.{greatest}
use Rattle.vp9_types.specs.declared.shape.Plane.TheVariants.{U, V}
use Rattle.planes.specs.Planes.{plane_map}
use Rattle.block_rebuild.specs.InterBlocks.{put_part}
use Rattle.block_rebuild.specs.Code.{rebuilding_of}
use Rattle.block_rebuild.proofs.inter_in_plane.predict_chroma.Given as goal

abbrev pub invariant-loop-number : goal.invariant-loop-number
invariant-loop-number g l = record {
  u_same : l.u.area ≡ l.initial.u.area;
  v_same : l.v.area ≡ l.initial.v.area;
  room : length l.first ≡ length l.initial.first;
  rest : length l.rest ≡ length l.initial.rest;
  u_range : IsAtMost (greatest l.b.by.now.shape.depth) (plane_map l.u);
  v_range : IsAtMost (greatest l.b.by.now.shape.depth) (plane_map l.v);
  u_so_far : plane_map l.u ≡ fold (put_part (rebuilding_of g.S.Samples.map l.b.by.now) l.b.block.now l.b.modes.now U) (plane_map l.initial.u) (range_with_len 0 l.number);
  v_so_far : plane_map l.v ≡ fold (put_part (rebuilding_of g.S.Samples.map l.b.by.now) l.b.block.now l.b.modes.now V) (plane_map l.initial.v) (range_with_len 0 l.number);
}
