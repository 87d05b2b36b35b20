-- A tile whose blocks are put in as they are read, and the same tile as it is read.
use Rattle.std.proofs.Common.{◌≡◌, ◌∙◌, ◌++◌, ◌∷◌, [], ℕ, Bool, refl, sym, subst, ap, List, append_assoc, ◌-◌, ◌+◌, map, length, ◌<◌}
use Rattle.std.specs.Prelude.{Ok, Err, Option, Some, Result, slice_set, slice_index_or}
use Rattle.std.specs.List.{fold}
use Rattle.std.proofs.lemmas.List.{map-append, map-set, append-nil}
use Rattle.std.proofs.lemmas.List.Sums.{fold-append}
use Rattle.vp9_types.specs.Maps.{FrameMap}
use Rattle.vp9_types.specs.Results.{map_ok, ◌>>=◌}
use Rattle.vp9_types.specs.Syntax.{Syntax, done}
use Rattle.vp9_types.specs.declared.rule.Rule.{Rule}
use Rattle.bool_decoder.specs.Bools.{run_bools}
use Rattle.bool_decoder.specs.Window.{Window, started}
use Rattle.counting_reader.specs.Counting.{Settled, lifted, settle, mapped}
use Rattle.counting_reader.specs.Code.{standing_of, counted_if}
use Rattle.counting_reader.specs.declared.reader.CountingReader.{CountingReader}
use Rattle.planes.specs.declared.frame_planes.FramePlanes.{FramePlanes}
use Rattle.frame_state.specs.declared.columns.TileColumn.{TileColumn}
use Rattle.counting_reader.proofs.Mapped.{mapped_after}
use Rattle.block_geometry.specs.declared.transform_blocks.FramePlaces.{FramePlaces}
use Rattle.block_plan.specs.Planned.{PlannedBlock}
use Rattle.block_plan.specs.declared.block.BlockAt.{BlockAt}
use Rattle.residue_syntax.specs.Residues as residues
use Rattle.residue_syntax.specs.declared.sides.TileSides.{TileSides}
use Rattle.mode_syntax.proofs.Mapped.{tile_everywhere}
use Rattle.inter_modes.specs.ModeInfo.{mode_info}
use Rattle.mode_syntax.specs.Laws.{squares_from}
use Rattle.mode_syntax.specs.Walk.{TileWalk, decode_tile}
use Rattle.tile_reader.specs.Code.{Breaks, EndsTile, Rest, Tile}
use Rattle.frame_decoder.specs.Code.{PlainTile, plain_block, plain_walk, tile_of, GivesTile, GivesRead, GivesWhole, HoldsRead, walk_of, pictures_of}
use Rattle.frame_state.specs.Code.{settled_of, read_whole, column_as_listed, column_of_code, counts_if, sources_of}
use Rattle.block_rebuild.specs.RebuiltBlocks.{put_planned}
use Rattle.block_rebuild.specs.InterBlocks.{Rebuilding}
use Rattle.frame_decoder.specs.DecodedFrames.{put_more, raw}
use Rattle.frame_state.specs.Sources.{block_sources, FrameSources}
use Rattle.frame_state.specs.FrameReading.{TileRead, infos, read_block, read_walk, FrameRead, begun, column_after, column_at, read_tile, read_tile_of, with_tile}
use Rattle.frame_state.specs.declared.tile_places.TilePlaces.{TilePlaces}
use Rattle.vp9_types.specs.Sizes.{superblocks_along}
use Rattle.planes.specs.Pictures.{blank, samples_of}
use Rattle.frame_headers.specs.HeaderState.{shape_of}
use Rattle.block_geometry.specs.FrameShapes.{places_of}
use Rattle.frame_state.specs.TilePlaces.{tile_places, tile_superblocks, column_of}
use Rattle.frame_state.proofs.TileBytes.{seen_by, values_mapped}
use Rattle.vp9_types.specs.declared.shape.Plane.TheVariants.{Y, U, V}
use Rattle.frame_state.specs.KeptColumns.{IsTileColumn}
use Rattle.frame_decoder.specs.declared.plain.PlainSources.{PlainSources}
use Rattle.frame_state.proofs.TileSpans.{tile_at}
use Rattle.frame_state.proofs.ColumnSteps.{begins_there, cleared, column_told, counted_on, ends_there, sides_told, with_sides}

-- the plain decoder's tile where so much is read, in a frame whose samples were these before the tile
abbrev pub view : Rebuilding → FrameMap → TileRead → PlainTile
view put m s = record { blocks = infos (s.earlier ++ s.blocks); sides = s.sides; map = fold (put_more put) m s.blocks }

state_more : (put : Rebuilding) (m : FrameMap) (s : TileRead) (b : PlannedBlock) (sides : TileSides)
    → ◌≡◌ {A = PlainTile} (record { blocks = infos (s.earlier ++ s.blocks) ++ b.info ∷ []; sides = sides; map = put_planned put b (fold (put_more put) m s.blocks) })
    (view put m (record { earlier = s.earlier; blocks = s.blocks ++ b ∷ []; sides = sides }))
state_more put m s b sides = λ i. record {
  blocks = (sym (map-append (λ (b : PlannedBlock). b.info) (s.earlier ++ s.blocks) (b ∷ [])) ∙ ap infos (append_assoc s.earlier s.blocks (b ∷ []))) i;
  sides = sides;
  map = sym (fold-append (put_more put) m s.blocks (b ∷ [])) i;
}

block_seen : (by : FrameSources) (put : Rebuilding) (m : FrameMap) (at : BlockAt) (s : TileRead)
    → plain_block by put at (view put m s) ≡ mapped (view put m) (read_block by at s)
unfolding plain_block read_block settle mapped
block_seen by put m at s =
    let seen = view put m in
    mapped_after seen (mode_info (block_sources by) (infos (s.earlier ++ s.blocks)) at) _ _
    (λ told. mapped_after seen (lifted told) _ _
    (λ info. mapped_after seen (residues.block_residue by.header by.contexts at.tile_from info s.sides) _ _
    (λ read. ap settle (state_more put m s read.0 read.1))))

pub tile_seen : (by : FrameSources) (put : Rebuilding) (frame : FramePlaces) (tile : TilePlaces) (m : FrameMap) (columns r c n : ℕ) (s : TileRead)
    → decode_tile (plain_walk by put frame tile.col_from tile.col_to) (squares_from (read_walk by frame tile) columns r c n) (view put m s)
    ≡ mapped (view put m) (decode_tile (read_walk by frame tile) (squares_from (read_walk by frame tile) columns r c n) s)
tile_seen by put frame tile m columns r c n s =
    tile_everywhere (read_walk by frame tile) (plain_block by put) (λ s. s.blocks) (view put m)
    (λ at s. block_seen by put m at s) (λ s. refl) columns r c n s

-- what a tile's reader gives
pub tile_given : {X : Type 0} {n : ℕ} (rest : Rest PlainTile) (room : ℕ) (start : Tile PlainTile Rule) (result : Result (Unit {0}) Rule) (old : CountingReader n) (walk : TileWalk PlainTile) (limit most : ℕ) (column : TileColumn) (planes : FramePlanes X) (new : CountingReader n)
    → start.standing ≡ standing_of old → start.rule_of ≡ (λ rule. Some rule) → EndsTile rest room start result (record { walk = walk; rule_of = λ rule. Some rule; limit = limit; room = most; state = tile_of column planes; standing = standing_of new })
    → GivesTile (rest start.state) old result column planes new
tile_given rest room start (Ok u) old walk limit most column planes new is tells h = rw (sym is) h.0
tile_given rest room start (Err rule) old walk limit most column planes new is tells h =
    rw (sym is) (subst (λ (f : Rule → Option Rule). Breaks (f rule) (rest start.state) start.standing) tells h)

-- the same of what is left behind references
pub tile_left : {X : Type 0} {n : ℕ} (s : Syntax ℕ Rule (Settled PlainTile)) (old : CountingReader n) (result : Result (Unit {0}) Rule) (column left_column : TileColumn) (planes left_planes : FramePlanes X) (new left : CountingReader n)
    → left_column ≡ column → left_planes ≡ planes → left ≡ new → GivesTile s old result column planes new → GivesTile s old result left_column left_planes left
tile_left s old result column left_column planes left_planes new left c p r h = rw (c, p, r) h

---- From its bytes ----

-- how the plain decoder reads it
abbrev pub plain_tile : FrameSources → Rebuilding → TilePlaces → PlainTile → Syntax ℕ Rule (Settled PlainTile)
plain_tile by put tile s =
    decode_tile (plain_walk by put (places_of (shape_of by.header)) tile.col_from tile.col_to) (tile_superblocks tile) s

-- the plain decoder before the n-th tile
abbrev pub tile_before : FrameSources → Rebuilding → FrameMap → ℕ → FrameRead → PlainTile
tile_before by put m n f = view put m (begun (shape_of by.header) (column_at by.header f (column_of by.header.params.tiles n)))

breaks_by : (w : Result Window Rule) (s : Syntax ℕ Rule (Settled TileRead)) (put : Rebuilding) (m : FrameMap) (rule : Rule) (k : ℕ) (f : FrameRead)
    → (w >>= λ v. settled_of (run_bools (mapped (view put m) s) v)) ≡ Err rule
    → (w >>= λ v. run_bools s v >>= λ read. Ok (with_tile k f read.0)) ≡ Err rule
breaks_by (Err e) s put m rule k f is = let same : e ≡ rule = cc in ap (λ z. Err z) same
breaks_by (Ok v) s put m rule k f is = by_run (run_bools s v) (sym (values_mapped (view put m) s v) ∙ is)
  where
    by_run : (r : Result (Settled TileRead × Window) Rule) → map_ok (seen_by (view put m)) (settled_of r) ≡ Err rule → (r >>= λ read. Ok (with_tile k f read.0)) ≡ Err rule
    by_run (Ok p) h = let no : ⊥ = cc in absurd no
    by_run (Err e) h = let same : e ≡ rule = cc in ap (λ z. Err z) same

-- what is read of a tile whose plain decoding settles so
record IsRead (w : Result Window Rule) (t : Syntax ℕ Rule (Settled TileRead)) (put : Rebuilding) (m : FrameMap) (s : Settled PlainTile) (k : ℕ) (f : FrameRead) : Type 0 where
  tile : Settled TileRead
  reads : (w >>= λ v. run_bools t v >>= λ read. Ok (with_tile k f read.0)) ≡ Ok (with_tile k f tile)
  seen : seen_by (view put m) tile ≡ s

read_by : (w : Result Window Rule) (t : Syntax ℕ Rule (Settled TileRead)) (put : Rebuilding) (m : FrameMap) (s : Settled PlainTile) (k : ℕ) (f : FrameRead)
    → (w >>= λ v. settled_of (run_bools (mapped (view put m) t) v)) ≡ Ok s → IsRead w t put m s k f
read_by (Err e) t put m s k f is = let no : ⊥ = cc in absurd no
read_by (Ok v) t put m s k f is = by_run (run_bools t v) refl (sym (values_mapped (view put m) t v) ∙ is)
  where
    by_run : (r : Result (Settled TileRead × Window) Rule) → run_bools t v ≡ r → map_ok (seen_by (view put m)) (settled_of r) ≡ Ok s → IsRead (Ok v) t put m s k f
    by_run (Ok p) so h = let same : seen_by (view put m) p.0 ≡ s = cc in record { tile = p.0; reads = rw so refl; seen = same }
    by_run (Err e) so h = let no : ⊥ = cc in absurd no

-- the tile's walk, with and without samples
tile_told : (by : FrameSources) (put : Rebuilding) (m : FrameMap) (n : ℕ) (f : FrameRead)
    → plain_tile by put (tile_at by.header n) (tile_before by put m n f)
    ≡ mapped (view put m) (read_tile by (tile_at by.header n) (column_at by.header f (column_of by.header.params.tiles n)))
unfolding read_tile
tile_told by put m n f =
    let tile = tile_at by.header n in
    tile_seen by put (places_of (shape_of by.header)) tile m (superblocks_along (tile.col_to - tile.col_from)) tile.row_from tile.col_from
    (superblocks_along (tile.row_to - tile.row_from)) (begun (shape_of by.header) (column_at by.header f (column_of by.header.params.tiles n)))

-- the n-th tile breaks the rule that the plain decoder meets in it
pub tile_breaks : (by : FrameSources) (put : Rebuilding) (m : FrameMap) (n : ℕ) (bytes : List ℕ) (f : FrameRead) (rule : Rule)
    → read_whole (plain_tile by put (tile_at by.header n) (tile_before by put m n f)) bytes ≡ Err rule
    → read_tile_of by n bytes f ≡ Err rule
unfolding read_tile_of read_whole
tile_breaks by put m n bytes f rule breaks =
    breaks_by (started bytes) _ put m rule (column_of by.header.params.tiles n) f
    (ap (λ s. started bytes >>= λ w. settled_of (run_bools s w)) (sym (tile_told by put m n f)) ∙ breaks)

-- it leaves what the plain decoder settles on
pub tile_done : (by : FrameSources) (put : Rebuilding) (m after_it : FrameMap) (n : ℕ) (bytes : List ℕ) (f : FrameRead) (s : Settled PlainTile)
    → raw put f.blocks ≡ m
    → read_whole (plain_tile by put (tile_at by.header n) (tile_before by put m n f)) bytes ≡ Ok s → s.value.map ≡ after_it
    → (read : FrameRead) × (read_tile_of by n bytes f ≡ Ok read)
    × (map column_as_listed read.columns ≡ slice_set (map column_as_listed f.columns) (column_of by.header.params.tiles n) (s.value.blocks, s.value.sides.y.above, s.value.sides.u.above, s.value.sides.v.above))
    × (raw put read.blocks ≡ after_it) × (read.counted ≡ f.counted ++ s.counted)
unfolding read_tile_of read_whole raw
tile_done by put m after_it n bytes f s so_far reads whole =
    let k = column_of by.header.params.tiles n in
    let q = read_by (started bytes) _ put m s k f
    (ap (λ s. started bytes >>= λ w. settled_of (run_bools s w)) (sym (tile_told by put m n f)) ∙ reads) in
    let now : fold (put_more put) m q.tile.value.blocks ≡ after_it = ap (λ (t : Settled PlainTile). t.value.map) q.seen ∙ whole in (
      with_tile k f q.tile,
      q.reads,
      map-set column_as_listed f.columns k (column_after q.tile.value)
          ∙ ap (λ (t : Settled PlainTile). slice_set (map column_as_listed f.columns) k (t.value.blocks, t.value.sides.y.above, t.value.sides.u.above, t.value.sides.v.above)) q.seen,
      fold-append (put_more put) blank f.blocks q.tile.value.blocks ∙ ap (λ o. fold (put_more put) o q.tile.value.blocks) so_far ∙ now,
      ap (λ (t : Settled PlainTile). f.counted ++ t.counted) q.seen,
    )

---- In its column ----

-- the plain decoder begins the tile with what is read before it
state_told : {X : Type 0} (by : FrameSources) (put : Rebuilding) (n k : ℕ) (columns : List TileColumn) (planes : FramePlanes X) (read : FrameRead) (x : TileColumn) → k ≡ column_of by.header.params.tiles n → k < length columns
    → IsTileColumn by.header n k (slice_index_or columns k x) → HoldsRead put columns planes read
    → tile_of (with_sides (slice_index_or columns k x) (cleared (slice_index_or columns k x).sides)) planes ≡ tile_before by put (samples_of planes) n read
state_told by put n k columns planes read x at low h holds =
    let c = slice_index_or columns k x in
    let shape = shape_of by.header in
    let d = column_at by.header read k in
    let told = column_told by.header columns read k x low holds.columns_held in
    let now : tile_of (with_sides c (cleared c.sides)) planes ≡ view put (samples_of planes) (begun shape d) = λ i. record {
      blocks = (ap (λ z. z.0) told ∙ ap infos (sym (append-nil d.blocks))) i;
      sides = record {
        y = sides_told shape Y c.sides.y d.y (ap (λ z. z.1) told) h.fit.y i;
        u = sides_told shape U c.sides.u d.u (ap (λ z. z.2) told) h.fit.u i;
        v = sides_told shape V c.sides.v d.v (ap (λ z. z.3) told) h.fit.v i;
      };
      map = samples_of planes;
    } in
    now ∙ ap (λ k. view put (samples_of planes) (begun shape (column_at by.header read k))) at

walk_told : {X : Type 0} (by : PlainSources X) (n k : ℕ) (c : TileColumn) (planes : FramePlanes X) (m : FrameMap) (read : FrameRead) (t : TilePlaces)
    → k ≡ column_of by.reading.setting.header.params.tiles n → t ≡ tile_places by.reading.setting.places by.reading.setting.header.params.tiles n → IsTileColumn by.reading.setting.header n k c
    → (s : PlainTile) → s ≡ tile_before (sources_of by.reading) (pictures_of by) m n read
    → decode_tile (walk_of by c) (tile_superblocks t) s
    ≡ plain_tile (sources_of by.reading) (pictures_of by) (tile_at by.reading.setting.header n) (tile_before (sources_of by.reading) (pictures_of by) m n read)
walk_told by n k c planes m read t at is h s state =
    let setting = by.reading.setting in
    let tiles = setting.header.params.tiles in
    let same : t ≡ tile_at setting.header n = is ∙ ap (λ p. tile_places p tiles n) setting.whole in
    let from : c.grid.from ≡ (tile_at setting.header n).col_from = sym (begins_there setting n k c t at is h) ∙ ap (λ (t : TilePlaces). t.col_from) same in
    let to : c.grid.to ≡ (tile_at setting.header n).col_to = sym (ends_there setting n k c t at is h) ∙ ap (λ (t : TilePlaces). t.col_to) same in
    λ i. decode_tile (plain_walk (sources_of by.reading) (pictures_of by) (setting.whole i) (from i) (to i)) (tile_superblocks (same i)) (state i)

pub gives_nth : {X : Type 0} (by : PlainSources X) (n k : ℕ) (columns : List TileColumn) (x new : TileColumn) (planes after_it : FramePlanes X) (t : TilePlaces) (bytes before : List ℕ) (counting : Bool) (result : Result (List ℕ) Rule)
    → k ≡ column_of by.reading.setting.header.params.tiles n → k < length columns → t ≡ tile_places by.reading.setting.places by.reading.setting.header.params.tiles n
    → IsTileColumn by.reading.setting.header n k (slice_index_or columns k x)
    → GivesWhole counting before (read_whole (decode_tile (walk_of by (slice_index_or columns k x)) (tile_superblocks t) (tile_of (with_sides (slice_index_or columns k x) (cleared (slice_index_or columns k x).sides)) planes)) bytes) result new after_it
    → (read : FrameRead) → HoldsRead (pictures_of by) columns planes read → before ≡ counts_if counting read.counted
    → GivesRead (pictures_of by) counting (read_tile_of (sources_of by.reading) n bytes read) result (slice_set columns k new) after_it
gives_nth by n k columns x new planes after_it t bytes before counting (Ok counts) at low is h gives read holds so_far =
    let told = sources_of by.reading in
    let state = state_told told (pictures_of by) n k columns planes read x at low h holds in
    let same = walk_told by n k (slice_index_or columns k x) planes (samples_of planes) read t at is h _ state in
    let done = tile_done told (pictures_of by) (samples_of planes) (samples_of after_it) n bytes read (record { value = tile_of new after_it; counted = gives.0 }) holds.map_held
    (ap (λ s. read_whole s bytes) (sym same) ∙ gives.1) refl in (
      done.0,
      done.1,
      record {
        columns_held = map-set column_of_code columns k new ∙ (λ i. slice_set (holds.columns_held i) (at i) (column_of_code new)) ∙ sym done.2;
        map_held = done.3;
      },
      gives.2 ∙ ap (λ counts. counted_if counting counts gives.0) so_far ∙ counted_on counting read.counted gives.0 ∙ ap (counts_if counting) (sym done.4),
    )
gives_nth by n k columns x new planes after_it t bytes before counting (Err rule) at low is h gives read holds so_far =
    let told = sources_of by.reading in
    let state = state_told told (pictures_of by) n k columns planes read x at low h holds in
    let same = walk_told by n k (slice_index_or columns k x) planes (samples_of planes) read t at is h _ state in
    tile_breaks told (pictures_of by) (samples_of planes) n bytes read rule (ap (λ s. read_whole s bytes) (sym same) ∙ gives)
