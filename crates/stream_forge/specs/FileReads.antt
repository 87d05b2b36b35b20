-- How a made file is read: each of its frames as it was drawn.
use Rattle.std.specs.Prelude.{◌≡◌, ◌⊎◌, ◌<◌, ◌≤◌, ◌^◌, ℕ, zero, suc, ◌+◌, List, [], ◌∷◌, ◌++◌, length, Ok, Err}
use Rattle.vp9_types.specs.declared.job.Span.{Span}
use Rattle.frame_headers.specs.Header.{head_of}
use Rattle.frame_headers.specs.declared.header.FrameHead.TheVariants as head
use Rattle.frame_headers.specs.declared.header.Header.{Header}
use Rattle.frame_headers.specs.declared.header.Uncompressed.{Uncompressed}
use Rattle.frame_headers.specs.declared.header.Uncompressed.TheVariants.{ShowExisting, Coded}
use Rattle.container_writer.specs.Files.{file_header}
use Rattle.header_writer.specs.declared.choices.Choices.{Choices}
use Rattle.seq_decoder.specs.frame_state.FrameReading.{read_frame, FrameRead}
use Rattle.bool_lists.specs.BoolLists.{BoolList, bytes_taken}
use Rattle.drawn_frames.specs.tile_writer.declared.unwritten.Unwritten.{Unwritten}
use Rattle.drawn_frames.specs.frame_writer.FrameBytes.{frame_bytes, header_bytes}
use Rattle.drawn_frames.specs.frame_writer.Code.{IsTooLong}
use Rattle.drawn_frames.specs.frame_writer.SaidFrames.{said_of, told_so_far}
use Rattle.drawn_frames.specs.SymbolDraws.{drawing}
use Rattle.seq_decoder.specs.After.{Stepped, input_of, step}
use Rattle.seq_decoder.specs.DecoderState.{State, persist_of, start_state}
use Rattle.stream_forge.specs.MadeFiles.{left_behind_head, choices_at, drawn_blocks, drawn_sources, drawn_updates, head_at, modes_drawn, packet_bytes_from, symbols_from}

---- A coded frame ----

-- The bytes are read as the header, as the modes that are drawn, and as the blocks that are drawn, up to the number from which
-- the next frame is drawn.
pub record IsCodedFrame (state : State) (choices : Choices) (header : Header) (x : ℕ) (bytes : List ℕ) (next : ℕ) : Type 0 where
  pub short : bytes_taken (drawn_updates state header x) < 2 ^ 16
  pub compressed : Span
  pub head : head_of (persist_of state) bytes ≡ Ok (head.Coded (drawn_sources state header x).header compressed)
  pub read : FrameRead
  pub reads : read_frame (input_of state bytes (drawn_sources state header x).header compressed) ≡ Ok (read, drawn_sources state header x)
  pub lists : List BoolList
  pub told : drawn_blocks state header x ≡ Ok (told_so_far (said_of read) (symbols_from next) lists)
  pub is : bytes ≡ frame_bytes (persist_of state) choices (drawn_sources state header x) lists

---- Why there is none ----

-- its blocks, as they are drawn, break a rule, or can't be said where they stand
abbrev pub IsUnsaid : State → Header → ℕ → Type 0
IsUnsaid state header x = (why : Unwritten) × (drawn_blocks state header x ≡ Err why)

-- its compressed header, which updates nothing, doesn't fit the field of its size
abbrev pub HasLongHeader : State → Header → ℕ → Type 0
HasLongHeader state header x = 2 ^ 16 ≤ bytes_taken (drawn_updates state header x)

-- nor does a tile
abbrev pub HasLongTile : State → Header → ℕ → Type 0
HasLongTile state header x = IsTooLong drawing (drawn_sources state header x) (symbols_from (modes_drawn header x).left)

abbrev pub IsNone : State → Uncompressed → ℕ → Type 0
IsNone state (ShowExisting slot) x = ⊥
IsNone state (Coded header) x = IsUnsaid state header x ⊎ (HasLongHeader state header x ⊎ HasLongTile state header x)

---- A frame ----

-- the frame of a number, in a state, and the number from which the next one is drawn
abbrev pub IsFrameOf : State → Choices → Uncompressed → ℕ → List ℕ → ℕ → Type 0
IsFrameOf state choices (ShowExisting slot) x bytes next =
    (head_of (persist_of state) bytes ≡ Ok (head.ShowExisting slot)) × (next ≡ x) × (bytes ≡ header_bytes (persist_of state) choices (ShowExisting slot))
IsFrameOf state choices (Coded header) x bytes next = IsCodedFrame state choices header x bytes next

abbrev pub IsMadeFrame : ℕ → State → ℕ → List ℕ → ℕ → Type 0
IsMadeFrame n state x bytes next = IsFrameOf state (choices_at n state x) (head_at n state x) (left_behind_head n state x) bytes next

-- there is no such frame, or none that a packet holds
abbrev pub EndsBefore : ℕ → State → ℕ → Type 0
EndsBefore n state x =
    IsNone state (head_at n state x) (left_behind_head n state x) ⊎ ((bytes : List ℕ) × (next : ℕ) × IsMadeFrame n state x bytes next × (2 ^ 32 ≤ length bytes))

---- All frames ----

-- So many frames from the n-th on, each decoded before the next one is drawn. They end before one that there can't be.
abbrev pub AreMade : ℕ → ℕ → State → ℕ → List (List ℕ) → Type 0
AreMade n zero state x [] = Unit {0}
AreMade n zero state x (frame ∷ frames) = ⊥
AreMade n (suc left) state x [] = EndsBefore n state x
AreMade n (suc left) state x (frame ∷ frames) =
    (next : ℕ) × IsMadeFrame n state x frame next × (length frame < 2 ^ 32) × ((stepped : Stepped) × (step n state frame ≡ Ok stepped) × AreMade (n + 1) left stepped.state next frames)

-- the frames of a file, each read as it was drawn
pub record IsReadAsDrawn (number count : ℕ) (file : List ℕ) : Type 0 where
  pub frames : List (List ℕ)
  pub made : AreMade 0 count start_state number frames
  pub bytes : file ≡ file_header 520 136 30 1 count ++ packet_bytes_from 0 frames
