-- What the blocks of a frame are read by, the same for all of them.
use Rattle.std.specs.Prelude.{Bool, true, false, not, ◌||◌, List}
use Rattle.vp9_types.specs.Maps.{Map}
use Rattle.vp9_types.specs.declared.block.Modes.{Modes}
use Rattle.frame_headers.specs.declared.header.FrameKind.{FrameKind}
use Rattle.frame_headers.specs.declared.header.FrameKind.TheVariants.{Key, IntraOnly, Inter}
use Rattle.frame_headers.specs.declared.header.Header.{Header}
use Rattle.prob_contexts.specs.ProbLists.{ContextLists}
use Rattle.block_plan.specs.declared.block.BlockInfo.{BlockInfo}
use Rattle.inter_modes.specs.ModeInfo.{BlockSources}

-- what the frames before a frame leave to the reading of it: the contexts that it starts from, the map of segments that it starts
-- with, and the blocks whose vectors its own may take, of which there are none where that isn't allowed
pub record FramePast : Type 0 where
  pub contexts : ContextLists
  pub segments : Map
  pub vectors : List BlockInfo

-- a frame's header, what its compressed header makes of modes and contexts, and what the frames before leave to it
pub record FrameSources : Type 0 where
  pub header : Header
  pub modes : Modes
  pub contexts : ContextLists
  pub past : FramePast

-- what its blocks are read by
abbrev pub block_sources : FrameSources → BlockSources
block_sources by = record { header = by.header; modes = by.modes; contexts = by.contexts; segments = by.past.segments; vectors = by.past.vectors }

-- FrameIsIntra (7.2)
abbrev pub frame_is_intra : FrameKind → Bool
frame_is_intra Key = true
frame_is_intra IntraOnly = true
frame_is_intra (Inter fields) = false

-- the frame's probabilities are adapted after it (8.4.2)
abbrev pub adapts : Header → Bool
adapts header = not (header.error_resilient || header.contexts.parallel)
