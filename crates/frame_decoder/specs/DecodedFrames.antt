-- A coded frame: all of its tiles are read, then its blocks are put in, one after another, and then it is filtered.
use Rattle.std.specs.Prelude.{List, Result}
use Rattle.std.specs.List.{fold}
use Rattle.vp9_types.specs.Maps.{FrameMap}
use Rattle.vp9_types.specs.Results.{map_ok}
use Rattle.vp9_types.specs.declared.block.ReferenceFrame.{ReferenceFrame}
use Rattle.vp9_types.specs.declared.rule.Rule.{Rule}
use Rattle.frame_headers.specs.HeaderState.{shape_of}
use Rattle.frame_headers.specs.declared.header.Header.{Header}
use Rattle.prob_contexts.specs.ProbLists.{ContextLists}
use Rattle.prob_contexts.specs.declared.kind.CountedBool.{CountedBool}
use Rattle.block_plan.specs.Planned.{PlannedBlock}
use Rattle.block_plan.specs.declared.block.BlockInfo.{BlockInfo}
use Rattle.planes.specs.Pictures.{blank}
use Rattle.block_rebuild.specs.RebuiltBlocks.{put_planned}
use Rattle.block_rebuild.specs.InterBlocks.{Rebuilding, ReferencePicture}
use Rattle.loop_edges.specs.Cells.{setting_of}
use Rattle.loop_edges.specs.FrameEdges.{filtered_frame}
use Rattle.frame_state.specs.FrameReading.{FrameInput, FrameRead, all_blocks, blocks_read, read_frame}
use Rattle.frame_state.specs.Sources.{FrameSources}

-- what a frame's blocks are put in by: its shape, and the pictures that it refers to
abbrev pub rebuilding : Header → (ReferenceFrame → ReferencePicture) → Rebuilding
rebuilding header references = record { shape = shape_of header; references = references }

-- one block more is put in
abbrev pub put_more : Rebuilding → FrameMap → PlannedBlock → FrameMap
put_more by m b = put_planned by b m

-- a frame's samples before the loop filter
unfoldable pub raw : Rebuilding → List PlannedBlock → FrameMap
raw by blocks = fold (put_more by) blank blocks

-- what a frame leaves: its blocks by tile column, its samples, what it counted, and its contexts after the forward update
pub record FrameResult : Type 0 where
  pub blocks : List (List BlockInfo)
  pub map : FrameMap
  pub counted : List CountedBool
  pub contexts : ContextLists

-- Blocks are predicted from samples that aren't filtered; the filtered ones are the frame's.
abbrev pub rebuilt : (ReferenceFrame → ReferencePicture) → FrameRead × FrameSources → FrameResult
rebuilt references read = record {
  blocks = blocks_read read.0;
  map = filtered_frame (setting_of read.1.header) (all_blocks (blocks_read read.0)) (raw (rebuilding read.1.header references) read.0.blocks);
  counted = read.0.counted;
  contexts = read.1.contexts;
}

-- a frame that refers to these pictures
unfoldable pub decoded : (ReferenceFrame → ReferencePicture) → FrameInput → Result FrameResult Rule
decoded references f = map_ok (rebuilt references) (read_frame f)
