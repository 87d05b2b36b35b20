-- What is written of a frame as bytes.
use Rattle.std.specs.Prelude.{◌≡◌, ℕ, ◌+◌, ◌-◌, ◌/◌, ◌%◌, ◌<◌, ◌≤◌, ◌^◌, ◌==◌, List, [], ◌∷◌, ◌++◌, map, length, slice_index, Option, IfSome, Result, Ok, if◌then◌else◌}
use Rattle.std.specs.List.{flat_map, All}
use Rattle.byteorder.specs.Endian.{big_bytes}
use Rattle.vp9_types.specs.Bits.{number_of, spelled}
use Rattle.vp9_types.specs.Results.{◌>>=◌}
use Rattle.vp9_types.specs.Syntax.{Syntax}
use Rattle.vp9_types.specs.declared.rule.Rule.{Rule}
use Rattle.bool_encoder.specs.Part.{NumberPart, Finishes, behind_marker, after_bools}
use Rattle.bool_lists.specs.BoolLists.{BoolList}
use Rattle.counting_reader.specs.Counting.{Settled}
use Rattle.bool_encoder.specs.CountedBools.{PutsTo}
use Rattle.frame_headers.specs.Spans.{tile_count}
use Rattle.frame_headers.specs.declared.header.Header.{Header}
use Rattle.frame_headers.specs.declared.header.Uncompressed.{Uncompressed}
use Rattle.frame_headers.specs.declared.header.Uncompressed.TheVariants.{Coded}
use Rattle.frame_headers.specs.declared.persist.Persist.{Persist}
use Rattle.compressed_writer.specs.HeaderBytes.{IsWrittenHeader}
use Rattle.compressed_writer.specs.Spelling.{spelled_compressed}
use Rattle.header_writer.specs.HeaderReads.{HoldsHeader}
use Rattle.header_writer.specs.Spelling.{IsSpelled, bits_put, spelled_header}
use Rattle.header_writer.specs.declared.choices.Choices.{Choices}
use Rattle.frame_state.specs.FrameReading.{FrameRead, TileRead, nothing_read, read_tile_of}
use Rattle.frame_state.specs.Sources.{FrameSources}
use Rattle.frame_writer.specs.SaidFrames.{nth_syntax}

-- the bytes of bools that lead a syntax from the marker on to its end: to the value, or to the rule that is broken there
pub record IsWritten {A : Type 0} (s : Syntax ℕ Rule (Settled A)) (r : Result A Rule) (bytes : List ℕ) : Type 0 where
  pub part : NumberPart
  pub put : PutsTo s behind_marker r part
  pub ends : Finishes part bytes

-- a tile that isn't the last has its size before it: 4 bytes, big endian
abbrev pub tile_with_size : List ℕ → List ℕ
tile_with_size tile = big_bytes 4 (length tile) ++ tile

-- tiles one behind another
abbrev pub tile_bytes : List (List ℕ) → List ℕ → List ℕ
tile_bytes tiles last = flat_map tile_with_size tiles ++ last

-- a tile has a byte at least, and a size that fits
abbrev pub HasSize : List ℕ → Type 0
HasSize tile = (1 ≤ length tile) × (length tile < 2 ^ 32)

-- the tiles with these bytes, from the n-th on
unfoldable pub read_each : FrameSources → ℕ → List (List ℕ) → FrameRead → Result FrameRead Rule
read_each by n [] f = Ok f
read_each by n (tile ∷ tiles) f = read_tile_of by n tile f >>= read_each by (n + 1) tiles

-- the n-th tile's bytes are those of its bools: of some that lead its syntax, behind the tiles before it, to a value or a broken rule
abbrev pub HasItsBools : FrameSources → ℕ → FrameRead → List ℕ → Type 0
HasItsBools by n read tile = (settles : Result TileRead Rule) × IsWritten (nth_syntax by n read) settles tile

-- so are those of the tiles from the n-th on, each behind what is read of those before; behind a broken rule none is read
abbrev pub HaveTheirBools : FrameSources → ℕ → FrameRead → List (List ℕ) → Type 0
HaveTheirBools by n read [] = Unit {0}
HaveTheirBools by n read (tile ∷ tiles) = HasItsBools by n read tile × ((next : FrameRead) → read_tile_of by n tile read ≡ Ok next → HaveTheirBools by (n + 1) next tiles)

---- Bytes of one list of bools ----

-- the bytes that bits spell, eight each
unfoldable pub bytes_of_bits : List ℕ → List ℕ
bytes_of_bits (a ∷ b ∷ c ∷ d ∷ e ∷ f ∷ g ∷ h ∷ bits) = number_of (a ∷ b ∷ c ∷ d ∷ e ∷ f ∷ g ∷ h ∷ []) ∷ bytes_of_bits bits
bytes_of_bits bits = []

-- with 0 bits up to the end of a byte
unfoldable pub padded : List ℕ → List ℕ
padded bits = bytes_of_bits (bits ++ spelled (7 - (length bits + 7) % 8) 0)

-- the bytes of a list of bools, behind the marker: the bits of the low end of the part that they leave (9.2)
unfoldable pub bytes_of : BoolList → List ℕ
bytes_of bools = let part = after_bools bools behind_marker in padded (spelled (8 + part.n) part.low)

-- the bytes are those of one list of bools, behind the marker
abbrev pub AreBytesOf : BoolList → List ℕ → Type 0
AreBytesOf bools bytes = Finishes (after_bools bools behind_marker) bytes

-- so are those of tiles, each of its own
abbrev pub AreAllBytesOf : List BoolList → List (List ℕ) → Type 0
AreAllBytesOf [] [] = Unit {0}
AreAllBytesOf [] (tile ∷ tiles) = ⊥
AreAllBytesOf (bools ∷ lists) [] = ⊥
AreAllBytesOf (bools ∷ lists) (tile ∷ tiles) = AreBytesOf bools tile × AreAllBytesOf lists tiles

---- A frame ----

-- a header with the size of the compressed header
abbrev pub with_size : Header → ℕ → Header
with_size header size = record header { params = record header.params { compressed_size = size } }

-- a byte 0 stands behind a frame whose last byte would be taken for that of a superframe index (annex B)
unfoldable pub without_index : List ℕ → List ℕ
without_index bytes = if slice_index bytes (length bytes - 1) / 32 == 6 then bytes ++ 0 ∷ [] else bytes

-- tiles one behind another: each but the last has its size before it
unfoldable pub joined_tiles : List (List ℕ) → List ℕ
joined_tiles [] = []
joined_tiles (tile ∷ []) = tile
joined_tiles (tile ∷ next ∷ tiles) = tile_with_size tile ++ joined_tiles (next ∷ tiles)

-- an uncompressed header, spelled as it is chosen
abbrev pub header_bytes : Persist → Choices → Uncompressed → List ℕ
header_bytes before choices header = padded (bits_put (spelled_header before choices header))

-- the bools of a frame's compressed header
abbrev pub compressed_bools : FrameSources → BoolList
compressed_bools by = spelled_compressed by.header by.past.contexts by.contexts by.modes

-- a coded frame whose tiles have these bools, behind what persists (6.1, 6.4)
unfoldable pub frame_bytes : Persist → Choices → FrameSources → List BoolList → List ℕ
frame_bytes before choices by tiles =
    without_index (header_bytes before choices (Coded by.header) ++ bytes_of (compressed_bools by) ++ joined_tiles (map bytes_of tiles))

-- How the bytes of a frame are laid out, behind what persists (6.1, 6.4): its uncompressed header, spelled as it is chosen; the
-- compressed one, of the size that this tells; and the tiles, each but the last with its size before it. The last two are the bytes
-- of their bools and no more: where the tiles break no rule, of these lists.
pub record IsLaidOut (before : Persist) (choices : Choices) (by : FrameSources) (lists : Option (List BoolList)) (bytes : List ℕ) : Type 0 where
  pub front : List ℕ
  pub compressed : List ℕ
  pub tiles : List (List ℕ)
  pub last : List ℕ
  pub put : bytes ≡ without_index (front ++ compressed ++ tile_bytes tiles last)
  pub holds : HoldsHeader before (Coded by.header) front
  pub spelled : IsSpelled before choices (Coded by.header) front
  pub size : length compressed ≡ by.header.params.compressed_size
  pub updates : IsWrittenHeader by.header by.past.contexts by.contexts by.modes compressed
  pub many : length tiles + 1 ≡ tile_count by.header
  pub sizes : All HasSize tiles
  pub bools : HaveTheirBools by 0 (nothing_read by.header) (tiles ++ last ∷ [])
  pub exact : IfSome lists (λ lists. AreAllBytesOf lists (tiles ++ last ∷ []))
