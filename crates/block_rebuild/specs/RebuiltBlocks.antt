-- A block that is read, put into the planes of its frame (residual in 6.4.21 of the standard, 8.5.1 and 8.6.2 for what is
-- done with its transform blocks).
use Rattle.std.specs.Prelude.{ℕ, Some, None}
use Rattle.std.specs.List.{fold}
use Rattle.vp9_types.specs.Maps.{Map, FrameMap, frame_map}
use Rattle.vp9_types.specs.Shapes.{coded_width, coded_height}
use Rattle.vp9_types.specs.declared.shape.Depth.{Depth}
use Rattle.vp9_types.specs.declared.shape.Plane.{Plane}
use Rattle.vp9_types.specs.declared.shape.Plane.TheVariants.{Y, U, V}
use Rattle.vp9_types.specs.declared.shape.Shape.{Shape}
use Rattle.block_geometry.specs.BlockSizes.{width_8}
use Rattle.block_geometry.specs.declared.transform_blocks.PlaneBlock.{PlaneBlock}
use Rattle.block_geometry.specs.declared.transform_blocks.TransformPlace.{TransformPlace}
use Rattle.block_plan.specs.InPlanes.{plane_block, tx_in, mode_at}
use Rattle.block_plan.specs.Planned.{Residue, Residues, PlannedBlock}
use Rattle.block_plan.specs.declared.block.BlockInfo.{BlockInfo}
use Rattle.block_plan.specs.declared.block.IntraPrediction.{IntraPrediction}
use Rattle.block_plan.specs.declared.block.Prediction.{Prediction}
use Rattle.block_plan.specs.declared.block.Prediction.TheVariants.{Intra, Inter}
use Rattle.intra_predict.specs.Places.{place_in}
use Rattle.intra_predict.specs.Steps.{with_predicted, with_rebuilt}
use Rattle.intra_predict.specs.declared.block.IntraBlock.{IntraBlock}
use Rattle.intra_predict.specs.declared.coded.CodedBlock.{CodedBlock}
use Rattle.block_rebuild.specs.InterBlocks.{Rebuilding, put_inter}

-- the tile's columns begin at `tile_from`
abbrev pub coded_block : ℕ → PlaneBlock → CodedBlock
coded_block tile_from b = record {
  row = b.row;
  column = b.col;
  columns = width_8 b.size;
  tile_column = tile_from;
  ss_x = b.ss_x;
  ss_y = b.ss_y;
}

-- the transform block at a place
abbrev pub intra_at : Shape → ℕ → BlockInfo → IntraPrediction → Plane → TransformPlace → IntraBlock
intra_at shape tile_from b modes p at = record {
  place = place_in (coded_block tile_from (plane_block shape b p)) at.row at.column;
  size = tx_in shape b p;
  mode = mode_at modes b.size p at.row at.column;
}

-- predicted alone, or with its residue, in a plane of a width and height
abbrev pub put_residue : ℕ → ℕ → Depth → IntraBlock → Residue → Map → Map
put_residue width height depth b None m = with_predicted width height depth b m
put_residue width height depth b (Some values) m = with_rebuilt width height depth b values m

abbrev pub put_next : Shape → ℕ → BlockInfo → IntraPrediction → Plane → Map → TransformPlace × Residue → Map
put_next shape tile_from b modes p m r =
    put_residue (coded_width shape p) (coded_height shape p) shape.depth (intra_at shape tile_from b modes p r.0) r.1 m

-- an intra block: each transform block is predicted from those before it
unfoldable pub put_intra : Shape → ℕ → BlockInfo → IntraPrediction → Plane → Residues → Map → Map
put_intra shape tile_from b modes p residues m = fold (put_next shape tile_from b modes p) m residues

unfoldable pub put_by : Rebuilding → PlannedBlock → Prediction → FrameMap → FrameMap
put_by by b (Intra modes) m = frame_map
    (put_intra by.shape b.tile_from b.info modes Y b.y (m Y))
    (put_intra by.shape b.tile_from b.info modes U b.u (m U))
    (put_intra by.shape b.tile_from b.info modes V b.v (m V))
put_by by b (Inter modes) m = frame_map
    (put_inter by b.info modes Y b.y (m Y))
    (put_inter by b.info modes U b.u (m U))
    (put_inter by b.info modes V b.v (m V))

-- the samples of a frame with a block put in
abbrev pub put_planned : Rebuilding → PlannedBlock → FrameMap → FrameMap
put_planned by b m = put_by by b b.info.prediction m
