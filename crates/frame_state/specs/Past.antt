-- What the code holds of the frames before a frame, to read it by.
use Rattle.std.specs.Prelude.{◌≡◌, List, IfSome}
use Rattle.vp9_types.specs.Shapes.{mi_cols, mi_rows}
use Rattle.frame_headers.specs.HeaderState.{shape_of}
use Rattle.frame_headers.specs.declared.header.Header.{Header}
use Rattle.prob_contexts.specs.ProbLists.{lists_of}
use Rattle.block_plan.specs.SegmentMaps.{id_map}
use Rattle.block_plan.specs.declared.block.BlockInfo.{BlockInfo}
use Rattle.mv_prediction.specs.Code as vectors
use Rattle.frame_state.specs.KeptColumns.{AllSmall, blocks_of}
use Rattle.frame_state.specs.FrameReading.{all_blocks}
use Rattle.frame_state.specs.Sources.{FramePast}
use Rattle.frame_state.specs.declared.frame_blocks.FrameBlocks.{FrameBlocks}
use Rattle.frame_state.specs.declared.sources.FramePast as code_past

abbrev pub blocks_in : FrameBlocks → List BlockInfo
blocks_in b = all_blocks (blocks_of b.columns.now)

-- what the code holds of it
abbrev pub past_of : code_past.FramePast → FramePast
past_of past = record {
  contexts = lists_of past.contexts.now;
  segments = id_map past.segments.now;
  vectors = vectors.blocks_of blocks_in past.vectors;
}

-- the blocks of a frame of this size, whose vectors are small
pub record AreVectors (header : Header) (b : FrameBlocks) : Type 0 where
  pub rows : mi_rows (shape_of b.header.now) ≡ mi_rows (shape_of header)
  pub cols : mi_cols (shape_of b.header.now) ≡ mi_cols (shape_of header)
  pub small : AllSmall (blocks_in b)

-- it can be used for this frame
pub record IsPastOf (header : Header) (past : code_past.FramePast) : Type 0 where
  pub rows : past.segments.now.rows ≡ mi_rows (shape_of header)
  pub cols : past.segments.now.cols ≡ mi_cols (shape_of header)
  pub vectors : IfSome past.vectors (AreVectors header)
