-- What a frame's writer keeps, and what its calls answer.
use Rattle.std.specs.Prelude.{◌≡◌, ◌≤◌, ◌<◌, ◌⊎◌, ℕ, ◌+◌, ◌-◌, ◌^◌, Bool, true, false, List, [], ◌∷◌, ◌++◌, map, length, get_or, Option, Some, None, IfSome, Result, Ok, Err}
use Rattle.std.specs.List.{flat_map, All}
use Rattle.vp9_types.specs.Syntax.{Syntax}
use Rattle.vp9_types.specs.declared.rule.Rule.{Rule}
use Rattle.frame_headers.specs.Header.{head_of}
use Rattle.frame_headers.specs.Spans.{tile_count}
use Rattle.bool_encoder.specs.Part.{NumberPart, Finishes}
use Rattle.counting_reader.specs.Counting.{Settled}
use Rattle.frame_headers.specs.declared.header.FrameHead.TheVariants.{Coded}
use Rattle.frame_headers.specs.declared.header.Header.{Header}
use Rattle.frame_headers.specs.declared.persist.Persist.{Persist}
use Rattle.frame_headers.specs.declared.header.Uncompressed.TheVariants as uncompressed
use Rattle.compressed_header.specs.CompressedHeader.{IsForward}
use Rattle.bool_lists.specs.BoolLists.{BoolList, bytes_taken}
use Rattle.compressed_writer.specs.HeaderBytes.{IsWrittenHeader}
use Rattle.compressed_writer.specs.Spelling.{spelled_compressed}
use Rattle.header_writer.specs.HeaderReads.{HoldsHeader}
use Rattle.header_writer.specs.Spelling.{IsSpelled}
use Rattle.prob_contexts.specs.ProbLists.{ContextLists, lists_of}
use Rattle.prob_contexts.specs.declared.contexts.Contexts.{Contexts}
use Rattle.vp9_types.specs.declared.job.Span.{Span}
use Rattle.block_geometry.specs.declared.transform_blocks.FramePlaces.{FramePlaces}
use Rattle.block_plan.specs.declared.block.BlockInfo.{BlockInfo}
use Rattle.residue_syntax.specs.declared.sides.TileSides.{TileSides}
use Rattle.frame_setting.specs.declared.setting.FrameSetting.{FrameSetting}
use Rattle.frame_state.specs.KeptColumns.{IsTileColumn}
use Rattle.frame_state.specs.Code.{IsReady, column_as_listed, column_of_code}
use Rattle.frame_state.specs.FrameReading.{FrameInput, read_frame, FrameRead, TileRead, infos, nothing_read, read_tile_of}
use Rattle.frame_state.specs.Sources.{FramePast, FrameSources}
use Rattle.frame_state.specs.declared.columns.TileColumn.{TileColumn}
use Rattle.frame_state.specs.declared.sources.FrameSources as code
use Rattle.frame_state.specs.declared.tile_places.TilePlaces.{TilePlaces}
use Rattle.tile_writer.specs.SaidTiles.{Said, so_far}
use Rattle.tile_writer.specs.declared.unwritten.Unwritten.{Unwritten}
use Rattle.tile_writer.specs.declared.unwritten.Unwritten.TheVariants as unwritten
use Rattle.frame_writer.specs.FrameBytes.{AreAllBytesOf, AreBytesOf, HasItsBools, HasSize, HaveTheirBools, IsLaidOut, IsWritten, frame_bytes, read_each, tile_with_size, tile_bytes, with_size, without_index}
use Rattle.frame_writer.specs.SaidFrames.{frame_told, nth_syntax, nth_tile_told, nth_told, said_of, tile_syntax, tile_told, tiles_told, told_so_far}
use Rattle.frame_writer.specs.FrameSymbols.{Speaker}
use Rattle.frame_writer.specs.declared.frame.FrameHeaders.{FrameHeaders}
use Rattle.frame_writer.specs.declared.frame.FrameToWrite.{FrameToWrite}
use Rattle.frame_writer.specs.declared.written.NotWritten.{NotWritten}
use Rattle.frame_writer.specs.declared.written.NotWritten.TheVariants.{Unsaid, TooLong, OutOfMemory}
use Rattle.frame_writer.specs.declared.written.Written.{Written}

-- what the code holds of a tile while it is read: the blocks of its column, as they are listed, and the sides
pub record TileHeld : Type 0 where
  pub blocks : List BlockInfo
  pub sides : TileSides

abbrev pub held_of : TileRead → TileHeld
held_of s = record { blocks = infos (s.earlier ++ s.blocks); sides = s.sides }

-- with what stays the same for all of the tile: what its frame is read by, its places, and the other tile columns
pub record TileHere : Type 0 where
  pub held : TileHeld
  pub by : code.FrameSources
  pub places : TilePlaces
  pub columns : List TileColumn

abbrev pub here_of : code.FrameSources → TilePlaces → List TileColumn → TileRead → TileHere
here_of by places columns s = record { held = held_of s; by = by; places = places; columns = columns }

-- something is told, or there is nothing to tell
abbrev pub Tells : {A T : Type 0} → Option (A × T) → Option A → T → Type 0
Tells told (Some x) new = told ≡ Some (x, new)
Tells told None new = told ≡ None

abbrev pub TellsInto : {A T : Type 0} → Option (A × T) → Bool → A → T → Type 0
TellsInto told true x new = told ≡ Some (x, new)
TellsInto told false x new = told ≡ None

-- a tile's column, between two of its blocks
pub record IsReadyFor (setting : FrameSetting) (tile : TilePlaces) (c : TileColumn) : Type 0 where
  pub from : tile.col_from ≡ c.grid.from
  pub to : tile.col_to ≡ c.grid.to
  pub ready : IsReady setting c

abbrev pub held_by : TileColumn → TileHeld
held_by c = record { blocks = c.grid.blocks; sides = c.sides }

-- the code's tile columns hold what is read
abbrev pub HoldsColumns : List TileColumn → FrameRead → Type 0
HoldsColumns columns read = map column_of_code columns ≡ map column_as_listed read.columns

---- What the calls answer ----

-- how a tile ends: with a rule that is broken, or without one
abbrev pub ending_of : Result (Unit {0}) Unwritten → Result (Option Rule) NotWritten
ending_of (Ok u) = Ok None
ending_of (Err (unwritten.Broken rule)) = Ok (Some rule)
ending_of (Err unwritten.Unsaid) = Err Unsaid
ending_of (Err unwritten.OutOfMemory) = Err OutOfMemory

-- the rule that is broken first
abbrev pub first_broken : Option Rule → Option Rule → Option Rule
first_broken (Some rule) tile = Some rule
first_broken None tile = tile

-- the bytes of the bools that were put, or why there are none. A tile of 2 ^ 32 bytes is too long, and want of memory has no cause
abbrev pub GivesBytes : Result (Unit {0}) Unwritten → NumberPart → Result Written NotWritten → Type 0
GivesBytes ended part (Ok w) = (ending_of ended ≡ Ok w.broken) × Finishes part w.bytes.items × HasSize w.bytes.items
GivesBytes ended part (Err Unsaid) = ending_of ended ≡ Err Unsaid
GivesBytes ended part (Err TooLong) = (broken : Option Rule) × (bytes : List ℕ) × (ending_of ended ≡ Ok broken) × Finishes part bytes × (2 ^ 32 ≤ length bytes)
GivesBytes ended part (Err OutOfMemory) = Unit {0}

-- a column stays, or begins anew
abbrev pub EndsColumn : Header → ℕ → Option Rule → TileColumn → TileColumn → Type 0
EndsColumn header k None old new = new ≡ old
EndsColumn header k (Some rule) old new = IsTileColumn header 0 k new

-- a tile's bytes lead its syntax to what it is told, or to the rule that this breaks
abbrev pub GivesTileTo : {T : Type 0} → Speaker T → FrameSources → FramePlaces → TilePlaces → TileRead → T → List ℕ → Option Rule → TileColumn → T → Type 0
GivesTileTo speaker by frame tile s t bytes None column new =
    (next : TileRead) × (bools : BoolList) × IsWritten (tile_syntax by frame tile s) (Ok next) bytes × (held_of next ≡ held_by column) × AreBytesOf bools bytes
    × (tile_told speaker by frame tile s t ≡ Ok (so_far next new bools))
GivesTileTo speaker by frame tile s t bytes (Some rule) column new =
    IsWritten (tile_syntax by frame tile s) (Err rule) bytes × (tile_told speaker by frame tile s t ≡ Err (unwritten.Broken rule))

-- a tile is too long: its bools, or those up to the rule that it breaks, take 2 ^ 32 bytes or more
abbrev pub IsLong : {T : Type 0} → Syntax ℕ Rule (Settled TileRead) → Said TileRead T → Type 0
IsLong syntax (Ok said) = 2 ^ 32 ≤ bytes_taken said.bools
IsLong syntax (Err (unwritten.Broken rule)) = (bytes : List ℕ) × IsWritten syntax (Err rule) bytes × (2 ^ 32 ≤ length bytes)
IsLong syntax (Err unwritten.Unsaid) = ⊥
IsLong syntax (Err unwritten.OutOfMemory) = ⊥

abbrev pub GivesTile : {T : Type 0} → Speaker T → FrameSources → FramePlaces → TilePlaces → TileRead → T → Result Written NotWritten → TileColumn → T → Type 0
GivesTile speaker by frame tile s t (Ok w) column new = GivesTileTo speaker by frame tile s t w.bytes.items w.broken column new
GivesTile speaker by frame tile s t (Err Unsaid) column new = tile_told speaker by frame tile s t ≡ Err unwritten.Unsaid
GivesTile speaker by frame tile s t (Err TooLong) column new = IsLong (tile_syntax by frame tile s) (tile_told speaker by frame tile s t)
GivesTile speaker by frame tile s t (Err OutOfMemory) column new = Unit {0}

-- the n-th tile is, as it is told
abbrev pub IsLongTile : {T : Type 0} → Speaker T → FrameSources → ℕ → FrameRead → T → Type 0
IsLongTile speaker by n read t = IsLong (nth_syntax by n read) (nth_tile_told speaker by n read t)

-- The n-th tile's bytes are those of its bools, and are read as that, whatever stands behind them: of one list of bools more than
-- those of the tiles before it, where no rule is broken.
abbrev pub GivesNthTo : {T : Type 0} → Speaker T → FrameSources → ℕ → FrameRead → T → List ℕ → Option Rule → List TileColumn → T → Type 0
GivesNthTo speaker by n read t bytes None columns new =
    (next : FrameRead) × (bools : BoolList) × ((tail : List ℕ) → read_tile_of by n (bytes ++ tail) read ≡ Ok next) × HoldsColumns columns next × HasItsBools by n read bytes × AreBytesOf bools bytes
    × ((lists : List BoolList) → nth_told speaker by n (told_so_far (said_of read) t lists) ≡ Ok (told_so_far (said_of next) new (lists ++ bools ∷ [])))
GivesNthTo speaker by n read t bytes (Some rule) columns new =
    ((tail : List ℕ) → read_tile_of by n (bytes ++ tail) read ≡ Err rule) × HasItsBools by n read bytes
    × ((lists : List BoolList) → nth_told speaker by n (told_so_far (said_of read) t lists) ≡ Err (unwritten.Broken rule))

abbrev pub GivesNth : {T : Type 0} → Speaker T → FrameSources → ℕ → FrameRead → T → Result Written NotWritten → List TileColumn → T → Type 0
GivesNth speaker by n read t (Ok w) columns new = GivesNthTo speaker by n read t w.bytes.items w.broken columns new
GivesNth speaker by n read t (Err Unsaid) columns new = (lists : List BoolList) → nth_told speaker by n (told_so_far (said_of read) t lists) ≡ Err unwritten.Unsaid
GivesNth speaker by n read t (Err TooLong) columns new = IsLongTile speaker by n read t
GivesNth speaker by n read t (Err OutOfMemory) columns new = Unit {0}

---- All tiles of a frame ----

-- their bytes, which are those of their bools, of these lists where no rule is broken, stand behind what was there, and are read so,
-- whatever stands behind the last
pub record AreTiles (by : FrameSources) (lists : Option (List BoolList)) (front out : List ℕ) (r : Result FrameRead Rule) : Type 0 where
  pub tiles : List (List ℕ)
  pub last : List ℕ
  pub many : length tiles + 1 ≡ tile_count by.header
  pub sizes : All HasSize tiles
  pub some : 1 ≤ length last
  pub put : out ≡ front ++ tile_bytes tiles last
  pub bools : HaveTheirBools by 0 (nothing_read by.header) (tiles ++ last ∷ [])
  pub exact : IfSome lists (λ lists. AreAllBytesOf lists (tiles ++ last ∷ []))
  pub read : (tail : List ℕ) → read_each by 0 (tiles ++ (last ++ tail) ∷ []) (nothing_read by.header) ≡ r

-- all are told, or they break a rule
abbrev pub GivesAll : {T : Type 0} → Speaker T → FrameSources → T → List ℕ → Option Rule → List ℕ → T → Type 0
GivesAll speaker by t front None out new =
    (read : FrameRead) × (lists : List BoolList) × AreTiles by (Some lists) front out (Ok read) × (frame_told speaker by t ≡ Ok (told_so_far (said_of read) new lists))
GivesAll speaker by t front (Some rule) out new = AreTiles by None front out (Err rule) × (frame_told speaker by t ≡ Err (unwritten.Broken rule))

-- something isn't told, be it behind a tile that breaks a rule
abbrev pub IsUntold : {T : Type 0} → Speaker T → FrameSources → T → Type 0
IsUntold speaker by t = (frame_told speaker by t ≡ Err unwritten.Unsaid) ⊎ ((rule : Rule) × (frame_told speaker by t ≡ Err (unwritten.Broken rule)))

-- A tile is too long, be it one behind a tile that breaks a rule: that one has no reader.
abbrev pub IsTooLong : {T : Type 0} → Speaker T → FrameSources → T → Type 0
IsTooLong {T = T} speaker by t =
    ((n : ℕ) × (read : FrameRead) × (now : T) × (lists : List BoolList) × (n < tile_count by.header) × (frame_told speaker by t ≡ tiles_told speaker by n (tile_count by.header - n) (told_so_far (said_of read) now lists))
    × IsLongTile speaker by n read now)
    ⊎ ((rule : Rule) × (frame_told speaker by t ≡ Err (unwritten.Broken rule)))

abbrev pub GivesTiles : {T : Type 0} → Speaker T → FrameSources → T → List ℕ → Result (Option Rule) NotWritten → List ℕ → T → Type 0
GivesTiles speaker by t front (Ok broken) out new = GivesAll speaker by t front broken out new
GivesTiles speaker by t front (Err Unsaid) out new = IsUntold speaker by t
GivesTiles speaker by t front (Err TooLong) out new = IsTooLong speaker by t
GivesTiles speaker by t front (Err OutOfMemory) out new = Unit {0}

-- numbers of eight bits
abbrev pub IsBytes : List ℕ → Type 0
IsBytes bytes = (i : ℕ) → get_or bytes i 0 < 256

-- with the end of the frame behind them
abbrev pub GivesRest : {T : Type 0} → Speaker T → FrameSources → T → List ℕ → Result Written NotWritten → T → Type 0
GivesRest speaker by t front (Ok w) new = (out : List ℕ) × (w.bytes.items ≡ without_index out) × IsBytes w.bytes.items × GivesAll speaker by t front w.broken out new
GivesRest speaker by t front (Err Unsaid) new = IsUntold speaker by t
GivesRest speaker by t front (Err TooLong) new = IsTooLong speaker by t
GivesRest speaker by t front (Err OutOfMemory) new = Unit {0}

-- so many tiles were written
abbrev pub StandsAt : {T : Type 0} → Speaker T → FrameSources → T → List (List ℕ) → ℕ → Option Rule → List TileColumn → T → Type 0
StandsAt speaker by t tiles n None columns now =
    (read : FrameRead) × (lists : List BoolList) × ((more : List (List ℕ)) → read_each by 0 (tiles ++ more) (nothing_read by.header) ≡ read_each by n more read) × HoldsColumns columns read
    × AreAllBytesOf lists tiles × (frame_told speaker by t ≡ tiles_told speaker by n (tile_count by.header - n) (told_so_far (said_of read) now lists))
StandsAt speaker by t tiles n (Some rule) columns now =
    ((more : List (List ℕ)) → read_each by 0 (tiles ++ more) (nothing_read by.header) ≡ Err rule) × (frame_told speaker by t ≡ Err (unwritten.Broken rule))

pub record AreSoFar {T : Type 0} (speaker : Speaker T) (by : FrameSources) (t : T) (front : List ℕ) (n : ℕ) (broken : Option Rule) (columns : List TileColumn) (out : List ℕ) (now : T) : Type 0 where
  pub tiles : List (List ℕ)
  pub many : length tiles ≡ n
  pub sizes : All HasSize tiles
  pub put : out ≡ front ++ flat_map tile_with_size tiles
  pub bools : HaveTheirBools by 0 (nothing_read by.header) tiles
  pub stands : StandsAt speaker by t tiles n broken columns now

---- A frame ----

-- its headers, of which the compressed one makes its contexts of those before
pub record AreHeaders (before : Persist) (frame : FrameToWrite) (old : Contexts) (header : Header) (bytes : List ℕ) : Type 0 where
  pub front : List ℕ
  pub compressed : List ℕ
  pub short : length compressed < 2 ^ 16
  pub put : bytes ≡ front ++ compressed
  pub size : header ≡ with_size frame.header (length compressed)
  pub makes : IsForward frame.header old compressed (Ok (frame.contexts, frame.modes))
  pub bools : IsWrittenHeader frame.header (lists_of old) (lists_of frame.contexts) frame.modes compressed
  pub holds : HoldsHeader before (uncompressed.Coded header) front
  pub spelled : IsSpelled before frame.choices (uncompressed.Coded header) front

-- a compressed header whose bools take 2 ^ 16 bytes or more is too long
abbrev pub IsLongHeader : FrameToWrite → ContextLists → Type 0
IsLongHeader frame before = 2 ^ 16 ≤ bytes_taken (spelled_compressed frame.header before (lists_of frame.contexts) frame.modes)

abbrev pub GivesHeaders : Persist → FrameToWrite → Contexts → Result FrameHeaders NotWritten → Type 0
GivesHeaders before frame old (Ok h) = AreHeaders before frame old h.header h.bytes.items
GivesHeaders before frame old (Err Unsaid) = ⊥
GivesHeaders before frame old (Err TooLong) = IsLongHeader frame (lists_of old)
GivesHeaders before frame old (Err OutOfMemory) = Unit {0}

-- what its blocks are read by, with a compressed header of so many bytes
abbrev pub sources_with : FrameToWrite → FramePast → ℕ → FrameSources
sources_with frame past size = record { header = with_size frame.header size; modes = frame.modes; contexts = lists_of frame.contexts; past = past }

-- what it is read from
abbrev pub input_with : FrameToWrite → FramePast → ℕ → Span → List ℕ → FrameInput
input_with frame past size compressed bytes = record { header = with_size frame.header size; compressed = compressed; bytes = bytes; past = past }

-- What is read of it is what is told, and its tiles' bytes are those of the lists that are; or it breaks the rule that what is told
-- breaks first.
abbrev pub ReadsFrame : {T : Type 0} → Speaker T → FrameInput → FrameSources → T → Option Rule → Option (List BoolList) → T → Type 0
ReadsFrame speaker f by t None (Some lists) new = (read : FrameRead) × (read_frame f ≡ Ok (read, by)) × (frame_told speaker by t ≡ Ok (told_so_far (said_of read) new lists))
ReadsFrame speaker f by t (Some rule) None new = (read_frame f ≡ Err rule) × (frame_told speaker by t ≡ Err (unwritten.Broken rule))
ReadsFrame speaker f by t broken lists new = ⊥

-- how many bytes its compressed header has
abbrev pub compressed_size : FrameToWrite → FramePast → ℕ
compressed_size frame past = bytes_taken (spelled_compressed frame.header past.contexts (lists_of frame.contexts) frame.modes)

-- A frame whose compressed header has so many bytes is read as it was told. Where it breaks no rule, its bytes are those of its
-- header and of the lists of bools that say the rest.
pub record IsFrame {T : Type 0} (speaker : Speaker T) (before : Persist) (frame : FrameToWrite) (past : FramePast) (size : ℕ) (t : T) (bytes : List ℕ) (broken : Option Rule) (new : T) : Type 0 where
  pub short : size < 2 ^ 16
  pub compressed : Span
  pub head : head_of before bytes ≡ Ok (Coded (with_size frame.header size) compressed)
  pub lists : Option (List BoolList)
  pub read : ReadsFrame speaker (input_with frame past size compressed bytes) (sources_with frame past size) t broken lists new
  pub laid : IsLaidOut before frame.choices (sources_with frame past size) lists bytes
  pub exact : IfSome lists (λ lists. bytes ≡ frame_bytes before frame.choices (sources_with frame past size) lists)

abbrev pub GivesFrame : {T : Type 0} → Speaker T → Persist → FrameToWrite → FramePast → T → Result Written NotWritten → T → Type 0
GivesFrame speaker before frame past t (Ok w) new = IsFrame speaker before frame past (compressed_size frame past) t w.bytes.items w.broken new
GivesFrame speaker before frame past t (Err Unsaid) new = IsUntold speaker (sources_with frame past (compressed_size frame past)) t
GivesFrame speaker before frame past t (Err TooLong) new = IsLongHeader frame past.contexts ⊎ IsTooLong speaker (sources_with frame past (compressed_size frame past)) t
GivesFrame speaker before frame past t (Err OutOfMemory) new = Unit {0}
