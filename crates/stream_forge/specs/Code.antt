-- What the code keeps, and what its calls answer.
use Rattle.std.specs.Prelude.{◌≡◌, ℕ, ◌+◌, ◌-◌, ◌/◌, Bool, true, false, List, ◌++◌, length, IsSome, Option, Some, None, Result, Ok, Err}
use Rattle.vp9_types.specs.Maps.{Map}
use Rattle.vp9_types.specs.declared.rule.Rule.{Rule}
use Rattle.frame_headers.specs.declared.header.FrameSize.{FrameSize}
use Rattle.frame_headers.specs.declared.header.Header.{Header}
use Rattle.frame_headers.specs.HeaderState.{next_persist}
use Rattle.frame_headers.specs.declared.header.Uncompressed.{Uncompressed}
use Rattle.frame_headers.specs.declared.header.Uncompressed.TheVariants.{ShowExisting, Coded}
use Rattle.frame_headers.specs.declared.persist.Persist.{Persist}
use Rattle.block_plan.specs.SegmentMaps.{id_map}
use Rattle.block_plan.specs.declared.segment_map.SegmentMap.{SegmentMap}
use Rattle.drawn_frames.specs.frame_writer.Code.{GivesFrame}
use Rattle.drawn_frames.specs.frame_writer.FrameSymbols.{Speaker}
use Rattle.drawn_frames.specs.frame_writer.declared.frame.FrameToWrite.{FrameToWrite}
use Rattle.drawn_frames.specs.frame_writer.declared.written.NotWritten.{NotWritten}
use Rattle.drawn_frames.specs.frame_writer.declared.written.NotWritten.TheVariants.{Unsaid, TooLong, OutOfMemory}
use Rattle.drawn_frames.specs.frame_writer.declared.written.Written.{Written}
use Rattle.header_writer.specs.declared.choices.Choices.{Choices}
use Rattle.drawn_frames.specs.MadeFrames as headers
use Rattle.drawn_frames.specs.drawn_symbols.declared.draws.Draws.{Draws}
use Rattle.prob_contexts.specs.ProbLists.{lists_of}
use Rattle.prob_contexts.specs.declared.contexts.Contexts.{Contexts}
use Rattle.seq_decoder.specs.After.{Stepped, has_size, past_of, segments_before, step}
use Rattle.container_writer.specs.Files.{file_header}
use Rattle.seq_decoder.specs.Code.{StandsFor}
use Rattle.seq_decoder.specs.SavedContexts.{context_before, loses_past}
use Rattle.seq_decoder.specs.DecoderState.{State, persist_of, start_state}
use Rattle.seq_decoder.specs.declared.decoder.Decoder.{Decoder}
use Rattle.stream_forge.specs.declared.coded.CodedFrame.{CodedFrame}
use Rattle.stream_forge.specs.MadeFiles.{packet_bytes_from}
use Rattle.stream_forge.specs.FileReads.{AreMade, IsFrameOf, IsNone}

-- it stands for the segments that a frame starts with, and has its places
pub record AreSegmentsOf (header : Header) (last : Option FrameSize) (before : Map) (m : SegmentMap) : Type 0 where
  pub are : id_map m ≡ segments_before header last before
  pub rows : m.rows ≡ (header.size.height + 7) / 8
  pub cols : m.cols ≡ (header.size.width + 7) / 8

-- a map of its own where a frame doesn't start with the one before
abbrev pub IsFresh : Header → Option FrameSize → Option SegmentMap → Type 0
IsFresh header last (Some m) = (before : Map) → AreSegmentsOf header last before m
IsFresh header last None = (loses_past header ≡ false) × (has_size header.size last ≡ true)

-- there is a map
abbrev pub HasOne : Option SegmentMap → Option SegmentMap → Type 0
HasOne (Some m) kept = Unit {0}
HasOne None kept = IsSome kept

-- its own, or the one before
abbrev pub IsOneOf : Option SegmentMap → Option SegmentMap → SegmentMap → Type 0
IsOneOf (Some own) kept m = m ≡ own
IsOneOf None kept m = kept ≡ Some m

-- a frame with the probabilities that its blocks are read by
abbrev pub frame_with : CodedFrame → Contexts → FrameToWrite
frame_with frame contexts = record { header = frame.header; choices = frame.choices; modes = frame.modes; contexts = contexts }

-- what is written of a frame behind those that left a state. It updates no probability
abbrev pub GivesBehind : {T : Type 0} → Speaker T → State → CodedFrame → T → Result Written NotWritten → T → Type 0
GivesBehind speaker state frame t result new =
    (contexts : Contexts) × (lists_of contexts ≡ context_before frame.header state.contexts)
    × GivesFrame speaker (persist_of state) (frame_with frame contexts) (past_of state frame.header) t result new

-- what the frame's bytes say of a state that the decoder stands for, if its blocks break no rule
abbrev pub GivesTo : State → Choices → Uncompressed → ℕ → List ℕ → Option Rule → ℕ → Type 0
GivesTo state choices header x bytes None next = IsFrameOf state choices header x bytes next
GivesTo state choices header x bytes (Some rule) next = IsNone state header x

-- or why there are none. Want of memory has no cause
abbrev pub Gives : State → Choices → Uncompressed → ℕ → Result Written NotWritten → ℕ → Type 0
Gives state choices header x (Ok w) next = GivesTo state choices header x w.bytes.items w.broken next
Gives state choices header x (Err Unsaid) next = IsNone state header x
Gives state choices header x (Err TooLong) next = IsNone state header x
Gives state choices header x (Err OutOfMemory) next = Unit {0}

-- there is no such frame
abbrev pub IsLost : NotWritten → Type 0
IsLost Unsaid = Unit {0}
IsLost TooLong = Unit {0}
IsLost OutOfMemory = ⊥

-- the first frame is drawn for any state, and the others for that of a made stream
abbrev pub MayDraw : Bool → Persist → Type 0
MayDraw first before = first ≡ false → headers.IsMade before

-- what persists behind a frame is that of a made stream
abbrev pub IsMadeAfter : Uncompressed → Persist → Type 0
IsMadeAfter (ShowExisting slot) before = headers.IsMade before
IsMadeAfter (Coded header) before = headers.IsMade (next_persist header before)

-- a frame was decoded
abbrev pub Passes : ℕ → Decoder → List ℕ → Decoder → Type 0
Passes number old bytes new = (state : State) → StandsFor old state → (stepped : Stepped) × (step number state bytes ≡ Ok stepped) × StandsFor new stepped.state

-- so many frames were made: whatever is made of the rest completes them
pub record IsSoFar (number count n : ℕ) (decoder : Decoder) (draws : Draws) (out : List ℕ) : Type 0 where
  pub state : State
  pub stands : StandsFor decoder state
  pub frames : List (List ℕ)
  pub put : out ≡ file_header 520 136 30 1 count ++ packet_bytes_from 0 frames
  pub many : length frames ≡ n
  pub rest : (others : List (List ℕ)) → AreMade n (count - n) state draws.x others → AreMade 0 count start_state number (frames ++ others)
