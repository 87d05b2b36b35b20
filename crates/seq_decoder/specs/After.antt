-- One frame, from the state before it to the state after it.
use Rattle.std.specs.Prelude.{ℕ, ◌==◌, ◌&&◌, Bool, false, not, List, [], get_or, slice_index_or, Option, Some, None, Result, Ok, Err, if◌then◌else◌}
use Rattle.vp9_types.specs.declared.job.Span.{Span}
use Rattle.vp9_types.specs.declared.block.ReferenceFrame.{ReferenceFrame}
use Rattle.vp9_types.specs.declared.rule.Rule.{Rule}
use Rattle.vp9_types.specs.Maps.{Map}
use Rattle.frame_headers.specs.declared.header.FrameHead.{FrameHead}
use Rattle.frame_headers.specs.declared.header.FrameHead.TheVariants as head
use Rattle.frame_headers.specs.declared.header.FrameKind.{FrameKind}
use Rattle.frame_headers.specs.declared.header.FrameKind.TheVariants.{Key, IntraOnly, Inter}
use Rattle.frame_headers.specs.declared.header.FrameSize.{FrameSize}
use Rattle.frame_headers.specs.declared.header.Header.{Header}
use Rattle.frame_headers.specs.Header.{head_of}
use Rattle.frame_headers.specs.HeaderState.{refreshed, shape_of, is_key}
use Rattle.block_geometry.specs.FrameShapes.{places_of}
use Rattle.block_plan.specs.declared.block.BlockInfo.{BlockInfo}
use Rattle.block_rebuild.specs.InterBlocks.{ReferencePicture, no_picture}
use Rattle.frame_state.specs.FrameReading.{FrameInput, all_blocks}
use Rattle.frame_decoder.specs.DecodedFrames.{FrameResult, decoded}
use Rattle.frame_state.specs.Sources.{FramePast}
use Rattle.inter_contexts.specs.BlockReferences.{reference_in}
use Rattle.inter_modes.specs.LeftSegments.{segments_after}
use Rattle.seq_decoder.specs.SavedContexts.{loses_past, context_before, saved_after}
use Rattle.seq_decoder.specs.DecoderState.{LastFrame, Picture, State, last_is_key, last_size, no_segments, persist_of}

---- What the frames before leave to a frame ----

abbrev pub has_size : FrameSize → Option FrameSize → Bool
has_size size None = false
has_size size (Some other) = size.width == other.width && size.height == other.height

-- A frame that loses the past, or whose size isn't that of the last decoded frame, starts with all places in segment 0.
abbrev pub segments_before : Header → Option FrameSize → Map → Map
segments_before header last segments = if loses_past header then no_segments else (if has_size header.size last then segments else no_segments)

-- UsePrevFrameMvs (7.2): the vectors of the last decoded frame are taken where that was shown and had this size, unless the
-- frame is error resilient
abbrev pub takes_vectors : Header → LastFrame → Bool
takes_vectors header last = not header.error_resilient && has_size header.size (Some last.size) && last.shown

abbrev pub vectors_before : Header → Option LastFrame → List BlockInfo
vectors_before header None = []
vectors_before header (Some last) = if takes_vectors header last then last.blocks else []

-- what a slot holds, to refer to
abbrev pub picture_in : Option Picture → ReferencePicture
picture_in None = no_picture
picture_in (Some picture) = record { shape = picture.shape; map = picture.map }

-- the pictures that a frame refers to: those of the slots that its header names
abbrev pub references_of : List (Option Picture) → FrameKind → ReferenceFrame → ReferencePicture
references_of slots Key reference = no_picture
references_of slots IntraOnly reference = no_picture
references_of slots (Inter fields) reference = picture_in (slice_index_or slots (reference_in fields.references reference).slot None)

abbrev pub past_of : State → Header → FramePast
past_of state header = record {
  contexts = context_before header state.contexts;
  segments = segments_before header (last_size state.last) state.segments;
  vectors = vectors_before header state.last;
}

-- what a frame is read from, by its header and where its compressed header lies
abbrev pub input_of : State → List ℕ → Header → Span → FrameInput
input_of state frame header compressed = record { header = header; compressed = compressed; bytes = frame; past = past_of state header }

-- it is decoded in this state
abbrev pub decoded_in : State → List ℕ → Header → Span → Result FrameResult Rule
decoded_in state frame header compressed = decoded (references_of state.slots header.kind) (input_of state frame header compressed)

---- What it leaves and shows ----

-- the segments that a frame leaves, which started with these
abbrev pub segments_left : Header → FrameResult → Map → Map
segments_left header r segments = segments_after header.params.segmentation (places_of (shape_of header)) (all_blocks r.blocks) segments

abbrev pub picture_of : ℕ → Header → FrameResult → Picture
picture_of number header r = record { frame = number; shape = shape_of header; map = r.map }

abbrev pub last_of : Header → FrameResult → LastFrame
last_of header r = record {
  size = header.size;
  shown = header.show_frame;
  key = is_key header.kind;
  blocks = all_blocks r.blocks;
}

abbrev pub state_after : ℕ → State → Header → FrameResult → State
state_after number state header r = record {
  slots = refreshed header.refresh (picture_of number header r) state.slots;
  color = header.color;
  deltas = header.params.loop_filter.deltas;
  features = header.params.segmentation.features;
  contexts = saved_after header (last_is_key state.last) r state.contexts;
  segments = segments_left header r (segments_before header (last_size state.last) state.segments);
  last = Some (last_of header r);
}

-- the state after a frame, and what it shows
pub record Stepped : Type 0 where
  pub state : State
  pub shown : Option Picture

abbrev pub shown_picture : ℕ → Header → FrameResult → Option Picture
shown_picture number header r = if header.show_frame then Some (picture_of number header r) else None

abbrev pub after_coded : ℕ → State → Header → Result FrameResult Rule → Result Stepped Rule
after_coded number state header (Ok r) = Ok (record { state = state_after number state header r; shown = shown_picture number header r })
after_coded number state header (Err rule) = Err rule

-- Showing a slot leaves the state as it is.
abbrev pub behind_head : ℕ → State → List ℕ → Result FrameHead Rule → Result Stepped Rule
behind_head number state frame (Ok (head.Coded header compressed)) = after_coded number state header (decoded_in state frame header compressed)
behind_head number state frame (Ok (head.ShowExisting slot)) = Ok (record { state = state; shown = get_or state.slots slot None })
behind_head number state frame (Err rule) = Err rule

-- the bytes of the frame of this number, decoded in this state
unfoldable pub step : ℕ → State → List ℕ → Result Stepped Rule
step number state frame = behind_head number state frame (head_of (persist_of state) frame)
