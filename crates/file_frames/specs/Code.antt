-- What a cursor has ahead of it, and what its calls answer.
use Rattle.std.specs.Prelude.{◌≡◌, ℕ, ◌+◌, Bool, true, false, List, [], ◌∷◌, ◌++◌, map, drop, slice_range, Option, Some, None, Result, Ok, Err}
use Rattle.vp9_types.specs.declared.job.Span.{Span}
use Rattle.vp9_types.specs.declared.outcome.Stop.{Stop}
use Rattle.vp9_types.specs.declared.rule.Rule.{Rule}
use Rattle.file_frames.specs.Cursors.{packets_left}
use Rattle.file_frames.specs.FileFrames.{FileFrames, frames_in, split_packets, frames_of_file}
use Rattle.file_frames.specs.Walks.{Walk, Walked, adding, walk_from, walk}
use Rattle.file_frames.specs.declared.cursor.FileFrame.{FileFrame}
use Rattle.file_frames.specs.declared.cursor.FrameCursor.{FrameCursor}
use Rattle.file_frames.specs.declared.packets.PacketCursor.{PacketCursor}

-- the frames that are still to come, the number of the first of them, and what is behind them
pub record Ahead : Type 0 where
  pub number : ℕ
  pub frames : List (List ℕ)
  pub ending : Option Rule

-- these frames, and then those of a file from here on
abbrev pub ahead_from : ℕ → List (List ℕ) → FileFrames → Ahead
ahead_from number frames file = record { number = number; frames = frames ++ frames_in file; ending = file.ending }

-- all frames of a file
abbrev pub all_ahead : List ℕ → Ahead
all_ahead bytes = ahead_from 0 [] (frames_of_file bytes)

abbrev pub span_bytes : List ℕ → Span → List ℕ
span_bytes payload span = slice_range payload span.from span.to

-- the frames left of a payload in hand, and those of the packets from a place on
abbrev pub ahead_at : List ℕ → PacketCursor → List ℕ → List Span → ℕ → ℕ → Ahead
ahead_at bytes packets payload spans taken number =
    ahead_from number (map (span_bytes payload) (drop taken spans)) (split_packets (packets_left bytes packets))

-- what a cursor has ahead
unfoldable pub ahead : FrameCursor → Ahead
ahead c = ahead_at c.bytes.now c.packets c.payload.now c.parts.items c.taken c.number

-- the next frame, the end of the file, or the rule that is broken at the frame that would come next
abbrev pub IsNext : Ahead → Result (Option FileFrame) Stop → Ahead → Type 0
IsNext old (Ok (Some frame)) new = (old ≡ record { number = frame.number; frames = frame.bytes.now ∷ new.frames; ending = new.ending }) × (new.number ≡ frame.number + 1)
IsNext old (Ok None) new = (old ≡ record { number = old.number; frames = []; ending = None }) × (new ≡ old)
IsNext old (Err stop) new = (old ≡ record { number = stop.frame; frames = []; ending = Some stop.rule }) × (new ≡ old)

-- the next payload is in hand, or there is none
abbrev pub HasMoved : Ahead → Result Bool Rule → Ahead → Type 0
HasMoved old (Ok true) new = new ≡ old
HasMoved old (Ok false) new = (old ≡ record { number = old.number; frames = []; ending = None }) × (new ≡ old)
HasMoved old (Err rule) new = (old ≡ record { number = old.number; frames = []; ending = Some rule }) × (new ≡ old)

-- the walk over what is ahead, in this state
abbrev pub walk_ahead : {S A E : Type 0} → Walk S A E → S → Ahead → Walked A E
walk_ahead w state a = walk_from w a.number state a.frames a.ending

-- a walk over the frames of a file has added these, and this state and these frames are left
abbrev pub IsOnWay : {S A E : Type 0} → Walk S A E → List ℕ → List A → S → Ahead → Type 0
IsOnWay w bytes adds state a = walk w (frames_of_file bytes) ≡ adding adds (walk_ahead w state a)
