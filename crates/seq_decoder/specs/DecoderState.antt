-- What a decoder keeps from frame to frame (7.2 and 8.10 of the standard).
use Rattle.std.specs.Prelude.{ℕ, Bool, false, List, map, Option, Some, None, replicate}
use Rattle.vp9_types.specs.declared.shape.Shape.{Shape}
use Rattle.vp9_types.specs.Maps.{Map, FrameMap}
use Rattle.frame_headers.specs.Color.{default_color}
use Rattle.frame_headers.specs.Segments.{no_features}
use Rattle.frame_headers.specs.HeaderState.{default_deltas}
use Rattle.frame_headers.specs.declared.color.ColorConfig.{ColorConfig}
use Rattle.frame_headers.specs.declared.filter.LoopDeltas.{LoopDeltas}
use Rattle.frame_headers.specs.declared.header.FrameSize.{FrameSize}
use Rattle.frame_headers.specs.declared.persist.Persist.{Persist}
use Rattle.frame_headers.specs.declared.segments.Features.{Features}
use Rattle.prob_contexts.specs.ProbLists.{ContextLists}
use Rattle.prob_contexts.specs.Defaults.{default_lists}
use Rattle.block_plan.specs.declared.block.BlockInfo.{BlockInfo}

-- a decoded frame: its number, and its samples
pub record Picture : Type 0 where
  pub frame : ℕ
  pub shape : Shape
  pub map : FrameMap

-- of the last decoded frame: its size, whether it was shown and whether it was a key frame, and its blocks, tile column by
-- tile column. (The motion vectors that are saved of it are those of its blocks.)
pub record LastFrame : Type 0 where
  pub size : FrameSize
  pub shown : Bool
  pub key : Bool
  pub blocks : List BlockInfo

-- What the eight slots hold; the colour configuration of the last intra frame, the filter deltas and the features of
-- segments in force; the probabilities in the four places; the segment of each place of 8x8 luma samples (row, column);
-- and the last decoded frame.
pub record State : Type 0 where
  pub slots : List (Option Picture)
  pub color : ColorConfig
  pub deltas : LoopDeltas
  pub features : Features
  pub contexts : List ContextLists
  pub segments : Map
  pub last : Option LastFrame

abbrev pub no_segments : Map
no_segments = λ _ _. 0

-- before the first frame
abbrev pub start_state : State
start_state = record {
  slots = replicate 8 None;
  color = default_color;
  deltas = default_deltas;
  features = no_features;
  contexts = replicate 4 default_lists;
  segments = no_segments;
  last = None;
}

abbrev pub shape_in_slot : Option Picture → Option Shape
shape_in_slot None = None
shape_in_slot (Some picture) = Some picture.shape

abbrev pub last_size : Option LastFrame → Option FrameSize
last_size None = None
last_size (Some last) = Some last.size

abbrev pub last_is_key : Option LastFrame → Bool
last_is_key None = false
last_is_key (Some last) = last.key

-- what headers read of it
abbrev pub persist_of : State → Persist
persist_of state = record {
  slots = map shape_in_slot state.slots;
  color = state.color;
  deltas = state.deltas;
  features = state.features;
  size = last_size state.last;
}
