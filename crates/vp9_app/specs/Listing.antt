-- The listing of a file: a line for each frame, by its header alone.
use Rattle.std.specs.Prelude.{ℕ, List, length, Result, Ok, Err}
use Rattle.vp9_types.specs.declared.rule.Rule.{Rule}
use Rattle.file_frames.specs.FileFrames.{frames_of_file}
use Rattle.file_frames.specs.Walks.{Added, Walk, Walked, walk}
use Rattle.frame_headers.specs.declared.header.FrameHead.{FrameHead}
use Rattle.frame_headers.specs.declared.header.FrameHead.TheVariants.{ShowExisting, Coded}
use Rattle.frame_headers.specs.declared.persist.Persist.{Persist}
use Rattle.frame_headers.specs.Header.{head_of}
use Rattle.frame_headers.specs.HeaderState.{next_persist, start_persist}
use Rattle.vp9_app.specs.ListingLines.{coded_line, shown_line}

-- the line of a frame of this number and so many bytes
abbrev pub head_line : ℕ → ℕ → FrameHead → List ℕ
head_line number bytes (Coded header compressed) = coded_line number header bytes
head_line number bytes (ShowExisting slot) = shown_line number slot bytes

-- a coded frame changes what persists, a shown slot nothing
abbrev pub persist_behind : Persist → FrameHead → Persist
persist_behind persist (Coded header compressed) = next_persist header persist
persist_behind persist (ShowExisting slot) = persist

-- the line that a frame adds, and what persists behind it, unless its header breaks a rule
abbrev pub added_line : ℕ → ℕ → Persist → Result FrameHead Rule → Result (Added Persist ℕ) Rule
added_line number bytes persist (Ok head) = Ok (record { state = persist_behind persist head; adds = head_line number bytes head })
added_line number bytes persist (Err rule) = Err rule

unfoldable pub list_step : ℕ → Persist → List ℕ → Result (Added Persist ℕ) Rule
list_step number persist frame = added_line number (length frame) persist (head_of persist frame)

-- a frame adds its line
abbrev pub lining : Walk Persist ℕ Rule
lining = record { start = start_persist; step = list_step; broken = λ rule. rule }

-- The lines, as bytes; and the number of the first frame that breaks a rule, with that rule, or None where the file ends.
unfoldable pub listing : List ℕ → Walked ℕ Rule
listing bytes = walk lining (frames_of_file bytes)
