-- A made file: frame after frame, each as it is drawn from a number, in the state that the frames before leave. There is one
-- such file for each number and count of frames.
use Rattle.std.specs.Prelude.{ℕ, zero, suc, ◌+◌, ◌^◌, nat_eq, nat_lt, List, [], ◌∷◌, ◌++◌, length, Option, Some, None, Result, Ok, Err, if◌then◌else◌}
use Rattle.vp9_types.specs.declared.block.Modes.{Modes}
use Rattle.vp9_types.specs.declared.rule.Rule.{Rule}
use Rattle.frame_headers.specs.declared.header.Header.{Header}
use Rattle.frame_headers.specs.declared.header.Uncompressed.{Uncompressed}
use Rattle.frame_headers.specs.declared.header.Uncompressed.TheVariants.{ShowExisting, Coded}
use Rattle.container_writer.specs.Files.{file_header, packet_of}
use Rattle.header_writer.specs.declared.choices.Choices.{Choices}
use Rattle.ivf_container.specs.Packets.{written_bytes}
use Rattle.seq_decoder.specs.frame_state.Sources.{FrameSources}
use Rattle.bool_lists.specs.BoolLists.{BoolList, bytes_taken}
use Rattle.compressed_writer.specs.Spelling.{spelled_compressed}
use Rattle.drawn_frames.specs.tile_writer.declared.unwritten.Unwritten.{Unwritten}
use Rattle.drawn_frames.specs.frame_writer.FrameBytes.{frame_bytes, header_bytes, with_size}
use Rattle.drawn_frames.specs.frame_writer.SaidFrames.{FrameTold, frame_told}
use Rattle.drawn_frames.specs.Heads.{draw_head}
use Rattle.drawn_frames.specs.ModeDraws.{draw_frame_modes}
use Rattle.drawn_frames.specs.declared.heads.DrawnHead.{DrawnHead}
use Rattle.drawn_frames.specs.SymbolDraws.{drawing}
use Rattle.drawn_frames.specs.declared.symbols.DrawnSymbols.{DrawnSymbols}
use Rattle.seq_decoder.specs.After.{Stepped, past_of, step}
use Rattle.seq_decoder.specs.SavedContexts.{context_before}
use Rattle.seq_decoder.specs.DecoderState.{State, persist_of, start_state}

-- a lot: what is drawn, and the number from which more is drawn
pub record Lot (A : Type 0) : Type 0 where
  pub it : A
  pub left : ℕ

abbrev pub lot : {A : Type 0} → A × ℕ → Lot A
lot p = record { it = p.0; left = p.1 }

---- A coded frame ----

abbrev pub modes_drawn : Header → ℕ → Lot Modes
modes_drawn header x = lot (draw_frame_modes header x)

-- the bools of its compressed header, which updates no probability
abbrev pub drawn_updates : State → Header → ℕ → BoolList
drawn_updates state header x = spelled_compressed header (context_before header state.contexts) (context_before header state.contexts) (modes_drawn header x).it

-- what its blocks are read by: its header with the size of the compressed one, and the modes that are drawn
abbrev pub drawn_sources : State → Header → ℕ → FrameSources
drawn_sources state header x = record {
  header = with_size header (bytes_taken (drawn_updates state header x));
  modes = (modes_drawn header x).it;
  contexts = context_before header state.contexts;
  past = past_of state header;
}

-- further symbols are drawn from a number
abbrev pub symbols_from : ℕ → DrawnSymbols
symbols_from x = record { draws = record { x = x } }

-- its blocks as they are drawn, or why they end before
abbrev pub drawn_blocks : State → Header → ℕ → Result (FrameTold DrawnSymbols) Unwritten
drawn_blocks state header x = frame_told drawing (drawn_sources state header x) (symbols_from (modes_drawn header x).left)

---- A frame ----

-- its bytes, and the number from which the next one is drawn
pub record MadeFrame : Type 0 where
  pub bytes : List ℕ
  pub next : ℕ

-- none where the blocks break a rule, or can't be said where they stand
abbrev pub frame_from : State → Choices → FrameSources → Result (FrameTold DrawnSymbols) Unwritten → Option MadeFrame
frame_from state choices by (Err why) = None
frame_from state choices by (Ok drawn) = Some (record { bytes = frame_bytes (persist_of state) choices by drawn.tiles; next = drawn.told.draws.x })

-- with this header, in a state; none where its compressed header doesn't fit the field of its size
unfoldable pub frame_of : State → Choices → Uncompressed → ℕ → Option MadeFrame
frame_of state choices (ShowExisting slot) x = Some (record { bytes = header_bytes (persist_of state) choices (ShowExisting slot); next = x })
frame_of state choices (Coded header) x =
    if nat_lt (bytes_taken (drawn_updates state header x)) (2 ^ 16) then frame_from state choices (drawn_sources state header x) (drawn_blocks state header x) else None

-- the header of the n-th frame, how it is spelled, and the number from which its modes are drawn
abbrev pub head_drawn : ℕ → State → ℕ → Lot DrawnHead
head_drawn n state x = lot (draw_head (nat_eq n 0) (persist_of state) x)

abbrev pub head_at : ℕ → State → ℕ → Uncompressed
head_at n state x = (head_drawn n state x).it.header

abbrev pub choices_at : ℕ → State → ℕ → Choices
choices_at n state x = (head_drawn n state x).it.choices

abbrev pub left_behind_head : ℕ → State → ℕ → ℕ
left_behind_head n state x = (head_drawn n state x).left

abbrev pub made_frame : ℕ → State → ℕ → Option MadeFrame
made_frame n state x = frame_of state (choices_at n state x) (head_at n state x) (left_behind_head n state x)

---- All frames ----

-- those behind a frame that is decoded
abbrev pub rest_behind : (State → List (List ℕ)) → Result Stepped Rule → List (List ℕ)
rest_behind rest (Ok stepped) = rest stepped.state
rest_behind rest (Err rule) = []

-- a frame and those behind it; none where there is none, or none that a packet holds
abbrev pub with_rest : (State → ℕ → List (List ℕ)) → ℕ → State → Option MadeFrame → List (List ℕ)
with_rest rest n state None = []
with_rest rest n state (Some frame) =
    if nat_lt (length frame.bytes) (2 ^ 32) then frame.bytes ∷ rest_behind (λ state. rest state frame.next) (step n state frame.bytes) else []

-- so many frames from the n-th on, each decoded before the next one is drawn
unfoldable pub made_frames : ℕ → ℕ → State → ℕ → List (List ℕ)
made_frames n zero state x = []
made_frames n (suc left) state x = with_rest (made_frames (n + 1) left) n state (made_frame n state x)

-- their packets, stamped with their numbers
abbrev pub packet_bytes_from : ℕ → List (List ℕ) → List ℕ
packet_bytes_from n [] = []
packet_bytes_from n (frame ∷ frames) = written_bytes (packet_of n frame) ++ packet_bytes_from (n + 1) frames

-- the file of so many frames that is made from a number
unfoldable pub made : ℕ → ℕ → List ℕ
made number count = file_header 520 136 30 1 count ++ packet_bytes_from 0 (made_frames 0 count start_state number)
