-- A frame whose tiles are read, and whose blocks are put in.
use Rattle.std.proofs.Common.{◌≡◌, [], refl, ap}
use Rattle.std.specs.Prelude.{Ok, Err}
use Rattle.vp9_types.specs.Maps.{FrameMap}
use Rattle.vp9_types.specs.Results.{map_ok}
use Rattle.vp9_types.specs.declared.block.ReferenceFrame.{ReferenceFrame}
use Rattle.vp9_types.specs.declared.rule.Rule.{Rule}
use Rattle.planes.specs.Pictures.{blank}
use Rattle.loop_edges.specs.Cells.{setting_of}
use Rattle.loop_edges.specs.FrameEdges.{filtered_frame}
use Rattle.block_rebuild.specs.InterBlocks.{Rebuilding, ReferencePicture}
use Rattle.frame_state.specs.FrameReading.{FrameInput, FrameRead, all_blocks, blocks_read, read_frame}
use Rattle.frame_state.specs.Sources.{FrameSources}
use Rattle.frame_decoder.specs.DecodedFrames.{FrameResult, decoded, raw, rebuilding, rebuilt}

pub nothing_put : (put : Rebuilding) → raw put [] ≡ blank
unfolding raw
nothing_put put = refl

-- what a frame leaves that is read so, and whose blocks come to these samples
abbrev pub result_of : FrameRead → FrameSources → FrameMap → FrameResult
result_of read by m = record { blocks = blocks_read read; map = filtered_frame (setting_of by.header) (all_blocks (blocks_read read)) m; counted = read.counted; contexts = by.contexts }

pub frame_done : (references : ReferenceFrame → ReferencePicture) (f : FrameInput) (read : FrameRead) (by : FrameSources) (m : FrameMap)
    → read_frame f ≡ Ok (read, by) → raw (rebuilding by.header references) read.blocks ≡ m → decoded references f ≡ Ok (result_of read by m)
unfolding decoded
frame_done references f read by m reads put = rw reads (ap (λ m. Ok (result_of read by m)) put)

-- a frame that is read is decoded
pub frame_decodes : (references : ReferenceFrame → ReferencePicture) (f : FrameInput) (read : FrameRead) (by : FrameSources) → read_frame f ≡ Ok (read, by)
    → decoded references f ≡ Ok (rebuilt references (read, by))
unfolding decoded
frame_decodes references f read by is = ap (map_ok (rebuilt references)) is

pub frame_breaks : (references : ReferenceFrame → ReferencePicture) (f : FrameInput) (rule : Rule) → read_frame f ≡ Err rule → decoded references f ≡ Err rule
unfolding decoded
frame_breaks references f rule is = rw is refl
