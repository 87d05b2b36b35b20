-- What is kept between two frames, and how it stands for the state.
use Rattle.std.specs.Prelude.{◌≡◌, ℕ, map, Option, Some, None}
use Rattle.std.specs.Arc.{arc_value}
use Rattle.frame_headers.specs.HeaderState.{SlotsHaveSizes}
use Rattle.seq_decoder.specs.Code.{HasPlaces, last_held, saved_lists, segments_held}
use Rattle.seq_decoder.specs.DecoderState.{Picture, State, persist_of}
use Rattle.frame_steps.specs.declared.kept.Kept.{Kept}

-- the number of the frame that a slot holds
abbrev pub number_in : Option Picture → Option ℕ
number_in None = None
number_in (Some picture) = Some picture.frame

-- what headers read, the saved contexts, the numbers of the frames that the slots hold, the segments, and the last decoded frame
pub record StandsFor (k : Kept) (s : State) : Type 0 where
  pub persist : k.persist ≡ persist_of s
  pub contexts : saved_lists k.saved ≡ s.contexts
  pub slots : k.slots ≡ map number_in s.slots
  pub segments : segments_held (arc_value k.segments) ≡ s.segments
  pub last : last_held (arc_value k.last) ≡ s.last

-- the slots' shapes are sizes of frames, and the map of segments has the last frame's places
pub record MayFollow (k : Kept) : Type 0 where
  pub sized : SlotsHaveSizes k.persist
  pub places : HasPlaces k.persist.size (arc_value k.segments)
