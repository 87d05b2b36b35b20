-- How many tile columns are read of a frame, and the blocks that are planned.
use Rattle.std.proofs.Common.{◌≡◌, ◌∙◌, ◌+◌, ◌∷◌, [], ℕ, ℤ, List, length, refl, sym, ap}
use Rattle.std.specs.Prelude.{Result, Ok, Err, drop, slice_range}
use Rattle.std.proofs.lemmas.List.{length-replicate, length-set}
use Rattle.vp9_types.specs.Results.{◌>>=◌}
use Rattle.vp9_types.specs.Syntax.{Syntax}
use Rattle.vp9_types.specs.declared.job.Span.{Span}
use Rattle.vp9_types.specs.declared.rule.Rule.{Rule}
use Rattle.vp9_types.specs.declared.shape.Shape.{Shape}
use Rattle.bool_decoder.specs.Bools.{run_bools}
use Rattle.bool_decoder.specs.Window.{Window, started}
use Rattle.frame_headers.specs.Spans.{tile_spans}
use Rattle.frame_headers.specs.HeaderState.{shape_of}
use Rattle.counting_reader.specs.Counting.{Settled}
use Rattle.block_geometry.specs.FrameShapes.{places_of}
use Rattle.block_plan.specs.declared.block.BlockInfo.{BlockInfo}
use Rattle.column_plan.specs.PlannedBlocks.{count_of, planned_blocks}
use Rattle.seq_decoder.specs.frame_state.Laws.{columns_across}
use Rattle.seq_decoder.specs.frame_state.FrameReading.{FrameRead, TileRead, column_after, column_at, infos, no_column, nothing_read, read_all_tiles, read_tile, read_tile_of, read_tiles, with_tile}
use Rattle.seq_decoder.specs.frame_state.TilePlaces.{column_of, tile_places}
use Rattle.seq_decoder.specs.frame_state.Sources.{FrameSources}

---- How many tile columns are read ----

-- a tile leaves as many
read_keeps : (k count : ℕ) (f g : FrameRead) (r : Result (Settled TileRead × Window) Rule) → length f.columns ≡ count → (r >>= λ read. Ok (with_tile k f read.0)) ≡ Ok g → length g.columns ≡ count
read_keeps k count f g (Ok read) many is =
    let same : with_tile k f read.0 ≡ g = cc in
    ap (λ (h : FrameRead). length h.columns) (sym same) ∙ length-set f.columns k (column_after read.0.value) ∙ many
read_keeps k count f g (Err e) many is = let no : ⊥ = cc in absurd no

start_keeps : (k count : ℕ) (f g : FrameRead) (s : Syntax ℕ Rule (Settled TileRead)) (w : Result Window Rule) → length f.columns ≡ count
    → (w >>= λ window. run_bools s window >>= λ read. Ok (with_tile k f read.0)) ≡ Ok g → length g.columns ≡ count
start_keeps k count f g s (Ok window) many is = read_keeps k count f g (run_bools s window) many is
start_keeps k count f g s (Err e) many is = let no : ⊥ = cc in absurd no

tile_keeps : (by : FrameSources) (n count : ℕ) (bytes : List ℕ) (f g : FrameRead) → length f.columns ≡ count → read_tile_of by n bytes f ≡ Ok g → length g.columns ≡ count
unfolding read_tile_of
tile_keeps by n count bytes f g many is =
    start_keeps (column_of by.header.params.tiles n) count f g
    (read_tile by (tile_places (places_of (shape_of by.header)) by.header.params.tiles n) (column_at by.header f (column_of by.header.params.tiles n))) (started bytes) many is

then_keeps : (count : ℕ) (f g : FrameRead) (r : Result FrameRead Rule) (rest : FrameRead → Result FrameRead Rule) → ((h : FrameRead) → r ≡ Ok h → rest h ≡ Ok g → length g.columns ≡ count)
    → (r >>= rest) ≡ Ok g → length g.columns ≡ count
then_keeps count f g (Ok h) rest keeps is = keeps h refl is
then_keeps count f g (Err e) rest keeps is = let no : ⊥ = cc in absurd no

tiles_keep : (by : FrameSources) (bytes : List ℕ) (n count : ℕ) (spans : List Span) (f g : FrameRead) → length f.columns ≡ count → read_tiles by bytes n spans f ≡ Ok g → length g.columns ≡ count
unfolding read_tiles
tiles_keep by bytes n count [] f g many is = let same : f ≡ g = cc in ap (λ (h : FrameRead). length h.columns) (sym same) ∙ many
tiles_keep by bytes n count (span ∷ spans) f g many is =
    then_keeps count f g (read_tile_of by n (slice_range bytes span.from span.to) f) (read_tiles by bytes (n + 1) spans)
    (λ h reads rest. tiles_keep by bytes (n + 1) count spans h g (tile_keeps by n count (slice_range bytes span.from span.to) f h many reads) rest) is

pub many_read : (by : FrameSources) (bytes : List ℕ) (compressed : Span) (spans : List Span) (read : FrameRead) → tile_spans bytes by.header compressed ≡ Ok spans → read_all_tiles by bytes compressed ≡ Ok read
    → length read.columns ≡ columns_across by.header
many_read by bytes compressed spans read cut is =
    tiles_keep by bytes 0 (columns_across by.header) spans (nothing_read by.header) read (length-replicate (columns_across by.header) (no_column (shape_of by.header)))
    (ap (λ r. r >>= λ spans. read_tiles by bytes 0 spans (nothing_read by.header)) (sym cut) ∙ is)

---- Their blocks ----

pub infos_of : (shape : Shape) (tile_from : ℕ) (blocks : List BlockInfo) (pieces : List (List ℤ)) → infos (planned_blocks shape tile_from blocks pieces) ≡ blocks
unfolding planned_blocks
infos_of shape tile_from [] pieces = refl
infos_of shape tile_from (b ∷ blocks) pieces = ap (λ (bs : List BlockInfo). b ∷ bs) (infos_of shape tile_from blocks (drop (count_of shape b) pieces))
