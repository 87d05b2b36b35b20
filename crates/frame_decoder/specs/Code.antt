-- What the code keeps, and what its calls answer.
use Rattle.std.specs.Prelude.{◌≡◌, All, ℕ, Bool, List, [], ◌∷◌, ◌++◌, map, Result, Ok, Err}
use Rattle.vp9_types.specs.Maps.{FrameMap}
use Rattle.vp9_types.specs.Syntax.{Syntax}
use Rattle.vp9_types.specs.declared.block.ReferenceFrame.{ReferenceFrame}
use Rattle.vp9_types.specs.declared.job.Span.{Span}
use Rattle.vp9_types.specs.declared.rule.Rule.{Rule}
use Rattle.vp9_types.specs.declared.shape.Shape.{Shape}
use Rattle.frame_headers.specs.HeaderState.{shape_of}
use Rattle.frame_headers.specs.declared.header.Header.{Header}
use Rattle.prob_contexts.specs.ProbLists.{lists_of}
use Rattle.prob_contexts.specs.declared.kind.CountedBool.{CountedBool}
use Rattle.counting_reader.specs.Code.{Reads, standing_of, counted_if, run_counting}
use Rattle.counting_reader.specs.Counting.{Settled, lifted, settle}
use Rattle.counting_reader.specs.Counting as counting
use Rattle.counting_reader.specs.declared.reader.CountingReader.{CountingReader}
use Rattle.block_geometry.specs.declared.transform_blocks.FramePlaces.{FramePlaces}
use Rattle.block_plan.specs.declared.block.BlockAt.{BlockAt}
use Rattle.block_plan.specs.declared.block.BlockInfo.{BlockInfo}
use Rattle.residue_syntax.specs.Residues as residues
use Rattle.residue_syntax.specs.declared.sides.TileSides.{TileSides}
use Rattle.inter_modes.specs.ModeInfo.{mode_info}
use Rattle.mode_syntax.specs.Walk.{TileWalk}
use Rattle.planes.specs.Pictures.{HasSizes, IsInRange, map_of, samples_of}
use Rattle.planes.specs.declared.frame_planes.FramePlanes.{FramePlanes}
use Rattle.planes.specs.declared.picture.Picture.{Picture}
use Rattle.block_rebuild.specs.RebuiltBlocks.{put_planned}
use Rattle.block_rebuild.specs.Code.{rebuilding_of}
use Rattle.block_rebuild.specs.InterBlocks.{Rebuilding, ReferencePicture}
use Rattle.frame_state.specs.KeptColumns.{AreColumnsOf, HasStarts, blocks_of}
use Rattle.frame_state.specs.Code.{column_as_listed, column_of_code, counts_if, sources_of}
use Rattle.frame_state.specs.Past.{IsPastOf, past_of}
use Rattle.frame_state.specs.FrameReading.{FrameInput, FrameRead}
use Rattle.frame_state.specs.Sources.{block_sources, FrameSources, adapts, frame_is_intra}
use Rattle.frame_state.specs.declared.columns.TileColumn.{TileColumn}
use Rattle.frame_state.specs.declared.halt.Halt.{Halt}
use Rattle.frame_state.specs.declared.halt.Halt.TheVariants as halt
use Rattle.frame_decoder.specs.DecodedFrames.{FrameResult, decoded, raw}
use Rattle.frame_decoder.specs.ReferencePictures.{ArePicturesOf}
use Rattle.frame_decoder.specs.declared.decoding.Decoded.{Decoded}
use Rattle.frame_decoder.specs.declared.plain.PlainSources.{PlainSources}

---- A tile whose blocks are put in as they are read ----

-- its column's blocks as they are listed, the sides, and the frame's samples so far
pub record PlainTile : Type 0 where
  pub blocks : List BlockInfo
  pub sides : TileSides
  pub map : FrameMap

unfoldable pub plain_block : FrameSources → Rebuilding → BlockAt → PlainTile → Syntax ℕ Rule (Settled PlainTile)
plain_block by put at s =
    counting.◌>>=◌ (mode_info (block_sources by) s.blocks at) (λ told.
    counting.◌>>=◌ (lifted told) (λ info.
    counting.◌>>=◌ (residues.block_residue by.header by.contexts at.tile_from info s.sides) (λ read.
    settle (record { blocks = s.blocks ++ read.0.info ∷ []; sides = read.1; map = put_planned put read.0 s.map }))))

abbrev pub plain_walk : FrameSources → Rebuilding → FramePlaces → ℕ → ℕ → TileWalk PlainTile
plain_walk by put frame from to = record {
  frame = frame;
  tile_from = from;
  tile_to = to;
  intra = frame_is_intra by.header.kind;
  probs = by.contexts.partitions;
  block = plain_block by put;
  blocks = λ s. s.blocks;
}

-- the code's tile
abbrev pub tile_of : {X : Type 0} → TileColumn → FramePlanes X → PlainTile
tile_of c planes = record { blocks = c.grid.blocks; sides = c.sides; map = samples_of planes }

---- A tile of the code ----

-- what its blocks are put in by
abbrev pub pictures_of : {X : Type 0} → PlainSources X → Rebuilding
pictures_of by = rebuilding_of map_of by.pictures

abbrev pub walk_of : {X : Type 0} → PlainSources X → TileColumn → TileWalk PlainTile
walk_of by c = plain_walk (sources_of by.reading) (pictures_of by) by.reading.setting.places c.grid.from c.grid.to

-- what the frames before leave can be used for this frame
pub record CanPredict {X : Type 0} (by : PlainSources X) : Type 0 where
  pub past : IsPastOf by.reading.setting.header by.reading.past
  pub pictures : ArePicturesOf by.reading.setting.header by.pictures

-- the planes of a frame
pub record ArePlanes {X : Type 0} (shape : Shape) (planes : FramePlanes X) : Type 0 where
  pub sizes : HasSizes shape planes
  pub range : IsInRange shape.depth planes

-- what a walk of the tile settles on, or the rule that is broken
abbrev pub GivesTile : {X : Type 0} → {n : ℕ} → Syntax ℕ Rule (Settled PlainTile) → CountingReader n → Result (Unit {0}) Rule → TileColumn → FramePlanes X → CountingReader n → Type 0
GivesTile s old (Ok u) c planes new = Reads s old (tile_of c planes) new
GivesTile s old (Err rule) c planes new = run_counting s (standing_of old) ≡ Err rule

---- A tile's bytes ----

-- a tile is read, and what is counted in it comes to these counts, where counting is on
abbrev pub GivesWhole : {X : Type 0} → Bool → List ℕ → Result (Settled PlainTile) Rule → Result (List ℕ) Rule → TileColumn → FramePlanes X → Type 0
GivesWhole counting before computed (Ok counts) c planes =
    (counted : List CountedBool) × (computed ≡ Ok (record { value = tile_of c planes; counted = counted })) × (counts ≡ counted_if counting before counted)
GivesWhole counting before computed (Err rule) c planes = computed ≡ Err rule

-- the code holds what is read, and has put in all of its blocks
pub record HoldsRead {X : Type 0} (put : Rebuilding) (columns : List TileColumn) (planes : FramePlanes X) (read : FrameRead) : Type 0 where
  pub columns_held : map column_of_code columns ≡ map column_as_listed read.columns
  pub map_held : raw put read.blocks ≡ samples_of planes

-- reading goes on to what the code holds then, with its counts, or breaks the rule
abbrev pub GivesRead : {X : Type 0} → Rebuilding → Bool → Result FrameRead Rule → Result (List ℕ) Rule → List TileColumn → FramePlanes X → Type 0
GivesRead put counting computed (Ok counts) columns planes =
    (read : FrameRead) × (computed ≡ Ok read) × HoldsRead put columns planes read × (counts ≡ counts_if counting read.counted)
GivesRead put counting computed (Err rule) columns planes = computed ≡ Err rule

---- A frame ----

-- what it is read from
abbrev pub input_of : {X : Type 0} → PlainSources X → List ℕ → Span → FrameInput
input_of by bytes compressed = record { header = by.reading.setting.header; compressed = compressed; bytes = bytes; past = past_of by.reading.past }

-- the code holds what a frame leaves
pub record HoldsResult {X : Type 0} (header : Header) (picture : Picture X) (d : Decoded) (r : FrameResult) : Type 0 where
  pub map : map_of picture ≡ r.map
  pub shape : picture.shape ≡ shape_of header
  pub sizes : HasSizes (shape_of header) picture.planes
  pub range : IsInRange (shape_of header).depth picture.planes
  pub contexts : lists_of d.contexts ≡ r.contexts
  pub blocks : blocks_of d.columns.items ≡ r.blocks
  pub starts : All (HasStarts header) d.columns.items
  pub columns : AreColumnsOf header d.columns.items
  pub counts : d.counts ≡ counts_if (adapts header) r.counted

-- the frame is that, or the rule is broken. Want of memory has no cause
abbrev pub IsDecoded : {X : Type 0} → (ReferenceFrame → ReferencePicture) → FrameInput → Picture X → Result Decoded Halt → Type 0
IsDecoded references input picture (Ok d) = (r : FrameResult) × (decoded references input ≡ Ok r) × HoldsResult input.header picture d r
IsDecoded references input picture (Err (halt.Broken rule)) = decoded references input ≡ Err rule
IsDecoded references input picture (Err halt.OutOfMemory) = Unit {0}
