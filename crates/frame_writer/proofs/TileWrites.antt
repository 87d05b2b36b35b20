-- A tile that is written in its column, and what is read of it.
use Rattle.std.proofs.Common.{◌≡◌, ◌∙◌, ℕ, ◌+◌, ◌-◌, ◌*◌, ◌^◌, ◌<◌, ◌≤◌, List, [], ◌∷◌, ◌++◌, Bool, length, refl, sym, ap, subst, arith}
use Rattle.std.specs.Prelude.{Option, Some, None, Result, Ok, Err, slice_index_or, slice_set}
use Rattle.std.proofs.lemmas.List.{append-nil, map-set, set-set}
use Rattle.vp9_types.specs.Results.{◌>>=◌}
use Rattle.vp9_types.specs.Sizes.{superblocks_along}
use Rattle.vp9_types.specs.Syntax.{Syntax}
use Rattle.vp9_types.specs.declared.rule.Rule.{Rule}
use Rattle.vp9_types.specs.declared.shape.Plane.TheVariants.{Y, U, V}
use Rattle.bool_decoder.specs.Bools.{run_bools}
use Rattle.bool_decoder.specs.Window.{Window, started}
use Rattle.bool_lists.specs.BoolLists.{BoolList}
use Rattle.prob_contexts.specs.declared.kind.CountedBool.{CountedBool}
use Rattle.counting_reader.specs.Counting.{Settled}
use Rattle.frame_headers.specs.HeaderState.{shape_of}
use Rattle.frame_headers.specs.declared.header.Header.{Header}
use Rattle.block_geometry.specs.FrameShapes.{places_of}
use Rattle.block_plan.specs.declared.block.BlockInfo.{BlockInfo}
use Rattle.residue_syntax.specs.Code.{FitPlanes}
use Rattle.residue_syntax.specs.declared.sides.TileSides.{TileSides}
use Rattle.frame_setting.specs.declared.setting.FrameSetting.{FrameSetting}
use Rattle.frame_state.specs.Code.{column_as_listed, column_of_code, read_whole, settled_of, sources_of}
use Rattle.frame_state.specs.KeptColumns.{AreTileColumns, IsTileColumn}
use Rattle.frame_state.specs.FrameReading.{FrameRead, TileRead, begun, column_after, column_at, infos, read_tile, read_tile_of, with_tile}
use Rattle.frame_state.specs.Sources.{FrameSources}
use Rattle.frame_state.specs.TilePlaces.{column_of, tile_places}
use Rattle.frame_state.specs.declared.columns.TileColumn.{TileColumn}
use Rattle.frame_state.specs.declared.sources.FrameSources as code
use Rattle.frame_state.specs.declared.tile_places.TilePlaces.{TilePlaces}
use Rattle.frame_state.proofs.ColumnSteps.{begins_there, cleared, cleared_fit, column_left, column_told, columns_with, ends_there, has_room, ready_of, sides_told, with_sides}
use Rattle.frame_state.proofs.TileSpans.{tile_at}
use Rattle.tile_writer.specs.SaidTiles.{so_far}
use Rattle.tile_writer.specs.declared.unwritten.Unwritten.{Unwritten}
use Rattle.tile_writer.specs.declared.unwritten.Unwritten.TheVariants as unwritten
use Rattle.frame_writer.specs.Code.{EndsColumn, GivesNth, GivesNthTo, GivesTile, GivesTileTo, HoldsColumns, IsReadyFor, TileHeld, held_by, held_of}
use Rattle.frame_writer.specs.SaidFrames.{nth_syntax, nth_told, said_of, tile_told, told_so_far}
use Rattle.frame_writer.specs.FrameSymbols.{Speaker}
use Rattle.frame_writer.specs.declared.written.NotWritten.{NotWritten}
use Rattle.frame_writer.specs.declared.written.NotWritten.TheVariants.{Unsaid, TooLong, OutOfMemory}
use Rattle.frame_writer.specs.declared.written.Written.{Written}
use Rattle.frame_writer.proofs.WrittenReads.{breaks_there, settles_there}

---- Before the tile ----

-- a column is ready for its tile
pub ready_for : (setting : FrameSetting) (n k : ℕ) (c : TileColumn) (sides : TileSides) (t : TilePlaces) → k ≡ column_of setting.header.params.tiles n
    → t ≡ tile_places setting.places setting.header.params.tiles n → IsTileColumn setting.header n k c → FitPlanes (shape_of setting.header) sides
    → IsReadyFor setting t (with_sides c sides)
ready_for setting n k c sides t at is h fit = record {
  from = begins_there setting n k c t at is h;
  to = ends_there setting n k c t at is h;
  ready = ready_of setting n k c sides h fit;
}

-- the code's column holds what reading begins the tile with
pub holds_begun : (header : Header) (n k : ℕ) (columns : List TileColumn) (read : FrameRead) (x : TileColumn) → k ≡ column_of header.params.tiles n → k < length columns
    → IsTileColumn header n k (slice_index_or columns k x) → HoldsColumns columns read
    → held_of (begun (shape_of header) (column_at header read (column_of header.params.tiles n)))
    ≡ held_by (with_sides (slice_index_or columns k x) (cleared (slice_index_or columns k x).sides))
holds_begun header n k columns read x at low h holds =
    let c = slice_index_or columns k x in
    let shape = shape_of header in
    let d = column_at header read k in
    let told = column_told header columns read k x low holds in
    let now : held_by (with_sides c (cleared c.sides)) ≡ held_of (begun shape d) = λ i. record {
      blocks = (ap (λ z. z.0) told ∙ ap infos (sym (append-nil d.blocks))) i;
      sides = record {
        y = sides_told shape Y c.sides.y d.y (ap (λ z. z.1) told) h.fit.y i;
        u = sides_told shape U c.sides.u d.u (ap (λ z. z.2) told) h.fit.u i;
        v = sides_told shape V c.sides.v d.v (ap (λ z. z.3) told) h.fit.v i;
      };
    } in
    sym (now ∙ ap (λ k. held_of (begun shape (column_at header read k))) at)

---- What is read of it ----

tile_from : (s : Syntax ℕ Rule (Settled TileRead)) (w : Result Window Rule) (k : ℕ) (f : FrameRead) (x : Settled TileRead)
    → (w >>= λ v. settled_of (run_bools s v)) ≡ Ok x → (w >>= λ v. run_bools s v >>= λ read. Ok (with_tile k f read.0)) ≡ Ok (with_tile k f x)
tile_from s (Err e) k f x is = let no : ⊥ = cc in absurd no
tile_from s (Ok v) k f x is = by_run (run_bools s v) is
  where
    by_run : (r : Result (Settled TileRead × Window) Rule) → settled_of r ≡ Ok x → (r >>= λ read. Ok (with_tile k f read.0)) ≡ Ok (with_tile k f x)
    by_run (Ok p) h = let same : p.0 ≡ x = cc in ap (λ x. Ok (with_tile k f x)) same
    by_run (Err e) h = let no : ⊥ = cc in absurd no

tile_breaks_from : (s : Syntax ℕ Rule (Settled TileRead)) (w : Result Window Rule) (k : ℕ) (f : FrameRead) (rule : Rule)
    → (w >>= λ v. settled_of (run_bools s v)) ≡ Err rule → (w >>= λ v. run_bools s v >>= λ read. Ok (with_tile k f read.0)) ≡ Err rule
tile_breaks_from s (Err e) k f rule is = let same : e ≡ rule = cc in ap (λ z. Err z) same
tile_breaks_from s (Ok v) k f rule is = by_run (run_bools s v) is
  where
    by_run : (r : Result (Settled TileRead × Window) Rule) → settled_of r ≡ Err rule → (r >>= λ read. Ok (with_tile k f read.0)) ≡ Err rule
    by_run (Ok p) h = let no : ⊥ = cc in absurd no
    by_run (Err e) h = let same : e ≡ rule = cc in ap (λ z. Err z) same

-- what reading begins the n-th tile with
abbrev pub start_of : FrameSources → ℕ → FrameRead → TileRead
start_of by n read = begun (shape_of by.header) (column_at by.header read (column_of by.header.params.tiles n))

nth_from : (by : FrameSources) (n : ℕ) (bytes : List ℕ) (read : FrameRead) (x : Settled TileRead) → read_whole (nth_syntax by n read) bytes ≡ Ok x
    → read_tile_of by n bytes read ≡ Ok (with_tile (column_of by.header.params.tiles n) read x)
unfolding read_tile_of read_whole read_tile
nth_from by n bytes read x is = tile_from (nth_syntax by n read) (started bytes) (column_of by.header.params.tiles n) read x is

nth_breaks_from : (by : FrameSources) (n : ℕ) (bytes : List ℕ) (read : FrameRead) (rule : Rule) → read_whole (nth_syntax by n read) bytes ≡ Err rule
    → read_tile_of by n bytes read ≡ Err rule
unfolding read_tile_of read_whole read_tile
nth_breaks_from by n bytes read rule is = tile_breaks_from (nth_syntax by n read) (started bytes) (column_of by.header.params.tiles n) read rule is

---- What is told ----

told_so : {T : Type 0} (speaker : Speaker T) (by : FrameSources) (n : ℕ) (read : FrameRead) (next : TileRead) (counted : List CountedBool) (now last : T) (bools : BoolList) (lists : List BoolList)
    → tile_told speaker by (places_of (shape_of by.header)) (tile_at by.header n) (start_of by n read) now ≡ Ok (so_far next last bools)
    → nth_told speaker by n (told_so_far (said_of read) now lists)
    ≡ Ok (told_so_far (said_of (with_tile (column_of by.header.params.tiles n) read (record { value = next; counted = counted }))) last (lists ++ bools ∷ []))
unfolding nth_told
told_so speaker by n read next counted now last bools lists is = rw is refl

told_no : {T : Type 0} (speaker : Speaker T) (by : FrameSources) (n : ℕ) (read : FrameRead) (why : Unwritten) (now : T) (lists : List BoolList)
    → tile_told speaker by (places_of (shape_of by.header)) (tile_at by.header n) (start_of by n read) now ≡ Err why
    → nth_told speaker by n (told_so_far (said_of read) now lists) ≡ Err why
unfolding nth_told
told_no speaker by n read why now lists is = rw is refl

---- The n-th tile ----

columns_hold : (columns : List TileColumn) (read : FrameRead) (k : ℕ) (new : TileColumn) (next : TileRead) (counted : List CountedBool) → HoldsColumns columns read → held_of next ≡ held_by new
    → HoldsColumns (slice_set columns k new) (with_tile k read (record { value = next; counted = counted }))
columns_hold columns read k new next counted holds is =
    map-set column_of_code columns k new
    ∙ (λ i. slice_set (holds i) k (told i))
    ∙ sym (map-set column_as_listed read.columns k (column_after next))
  where
    of_held : TileHeld → List BlockInfo × List Bool × List Bool × List Bool
    of_held h = (h.blocks, h.sides.y.above, h.sides.u.above, h.sides.v.above)

    told : column_of_code new ≡ column_as_listed (column_after next)
    told = ap of_held (sym is)

gives_to : {T : Type 0} (speaker : Speaker T) (by : FrameSources) (n : ℕ) (columns : List TileColumn) (new : TileColumn) (bytes : List ℕ) (broken : Option Rule) (read : FrameRead) (now last : T)
    → HoldsColumns columns read
    → GivesTileTo speaker by (places_of (shape_of by.header)) (tile_at by.header n) (start_of by n read) now bytes broken new last
    → GivesNthTo speaker by n read now bytes broken (slice_set columns (column_of by.header.params.tiles n) new) last
gives_to speaker by n columns new bytes None read now last holds gives =
    let k = column_of by.header.params.tiles n in
    let settled = settles_there (nth_syntax by n read) gives.0 bytes gives.2 in (
      with_tile k read (record { value = gives.0; counted = settled.0 }),
      gives.1,
      λ tail. nth_from by n (bytes ++ tail) read _ (settled.1 tail),
      columns_hold columns read k new gives.0 settled.0 holds gives.3,
      (Ok gives.0, gives.2),
      gives.4,
      λ lists. told_so speaker by n read gives.0 settled.0 now last gives.1 lists gives.5,
    )
gives_to speaker by n columns new bytes (Some rule) read now last holds gives = (
  λ tail. nth_breaks_from by n (bytes ++ tail) read rule (breaks_there (nth_syntax by n read) rule bytes tail gives.0),
  (Err rule, gives.0),
  λ lists. told_no speaker by n read (unwritten.Broken rule) now lists gives.1,
)

gives_all : {T : Type 0} (speaker : Speaker T) (by : FrameSources) (n : ℕ) (columns : List TileColumn) (new : TileColumn) (result : Result Written NotWritten) (read : FrameRead) (now last : T)
    → HoldsColumns columns read
    → GivesTile speaker by (places_of (shape_of by.header)) (tile_at by.header n) (start_of by n read) now result new last
    → GivesNth speaker by n read now result (slice_set columns (column_of by.header.params.tiles n) new) last
gives_all speaker by n columns new (Ok w) read now last holds gives = gives_to speaker by n columns new w.bytes.items w.broken read now last holds gives
gives_all speaker by n columns new (Err Unsaid) read now last holds gives = λ lists. told_no speaker by n read unwritten.Unsaid now lists gives
gives_all speaker by n columns new (Err TooLong) read now last holds gives = gives
gives_all speaker by n columns new (Err OutOfMemory) read now last holds gives = tt

pub gives_nth : {T : Type 0} (speaker : Speaker T) (by : code.FrameSources) (n k : ℕ) (columns : List TileColumn) (x new : TileColumn) (t : TilePlaces) (result : Result Written NotWritten) (now last : T)
    → k ≡ column_of by.setting.header.params.tiles n → k < length columns → t ≡ tile_places by.setting.places by.setting.header.params.tiles n
    → IsTileColumn by.setting.header n k (slice_index_or columns k x)
    → ((s : TileRead) → held_of s ≡ held_by (with_sides (slice_index_or columns k x) (cleared (slice_index_or columns k x).sides))
    → GivesTile speaker (sources_of by) by.setting.places t s now result new last)
    → (read : FrameRead) → HoldsColumns columns read → GivesNth speaker (sources_of by) n read now result (slice_set columns k new) last
gives_nth speaker by n k columns x new t result now last at low is h gives read holds =
    let told = sources_of by in
    let header = by.setting.header in
    let same : t ≡ tile_at header n = is ∙ ap (λ p. tile_places p header.params.tiles n) by.setting.whole in
    let here = gives (start_of told n read) (holds_begun header n k columns read x at low h holds) in
    let there : GivesTile speaker told (places_of (shape_of header)) (tile_at header n) (start_of told n read) now result new last =
    subst (λ t. GivesTile speaker told (places_of (shape_of header)) t (start_of told n read) now result new last) same
    (subst (λ p. GivesTile speaker told p t (start_of told n read) now result new last) by.setting.whole here) in
    rw at (gives_all speaker told n columns new result read now last holds there)

---- The columns behind it ----

pub columns_written : (setting : FrameSetting) (n k : ℕ) (columns : List TileColumn) (x new : TileColumn) (sides : TileSides) (t : TilePlaces)
    → n < 2 ^ setting.header.params.tiles.columns_log2 * 2 ^ setting.header.params.tiles.rows_log2 → k < length columns
    → k ≡ column_of setting.header.params.tiles n → t ≡ tile_places setting.places setting.header.params.tiles n → AreTileColumns setting.header n columns
    → IsReadyFor setting t (with_sides (slice_index_or columns k x) sides) → IsReadyFor setting t new
    → (slice_index_or columns k x).grid.room ≤ new.grid.room + 64 * (superblocks_along (t.col_to - t.col_from) * superblocks_along (t.row_to - t.row_from))
    → AreTileColumns setting.header (n + 1) (slice_set columns k new)
columns_written setting n k columns x new sides t below low at is h before ready room =
    let c = slice_index_or columns k x in
    columns_with setting n k columns new low h
    (column_left setting n k c new t below at is (h.each k x low) ready.ready (record { from = sym ready.from ∙ before.from; to = sym ready.to ∙ before.to }) (rw (before.from, before.to) at room))

pub columns_renewed : (setting : FrameSetting) (n k : ℕ) (columns : List TileColumn) (new : TileColumn) → k < length columns → AreTileColumns setting.header n columns
    → IsTileColumn setting.header 0 k new → AreTileColumns setting.header (n + 1) (slice_set columns k new)
columns_renewed setting n k columns new low h is = columns_with setting n k columns new low h (record {
  rows = is.rows;
  from = is.from;
  to = is.to;
  fit = is.fit;
  fit_blocks = is.fit_blocks;
  lie = is.lie;
  starts = is.starts;
  small = is.small;
  room = λ r later. is.room r (omega arith);
})

---- The tile's column is taken out of its place, and put back ----

-- it was at its place, and has nothing at its left now
pub record IsTaken (columns : List TileColumn) (k : ℕ) (x taken : TileColumn) (sides : TileSides) : Type 0 where
  pub there : taken ≡ slice_index_or columns k x
  pub left : sides ≡ cleared taken.sides

taken_is : (columns : List TileColumn) (k : ℕ) (x taken : TileColumn) (sides : TileSides) → IsTaken columns k x taken sides
    → with_sides taken sides ≡ with_sides (slice_index_or columns k x) (cleared (slice_index_or columns k x).sides)
taken_is columns k x taken sides h = ap (with_sides taken) h.left ∙ ap (λ c. with_sides c (cleared c.sides)) h.there

pub ready_taken : (setting : FrameSetting) (n k : ℕ) (columns : List TileColumn) (x taken : TileColumn) (sides : TileSides) (t : TilePlaces) → k ≡ column_of setting.header.params.tiles n → k < length columns
    → t ≡ tile_places setting.places setting.header.params.tiles n → AreTileColumns setting.header n columns → IsTaken columns k x taken sides → IsReadyFor setting t (with_sides taken sides)
ready_taken setting n k columns x taken sides t at low is h out =
    let one = h.each k x low in
    subst (IsReadyFor setting t) (sym (taken_is columns k x taken sides out))
    (ready_for setting n k (slice_index_or columns k x) (cleared (slice_index_or columns k x).sides) t at is one (cleared_fit (shape_of setting.header) _ one.fit))

pub room_taken : (setting : FrameSetting) (n k : ℕ) (columns : List TileColumn) (x taken : TileColumn) (t : TilePlaces) → n < 2 ^ setting.header.params.tiles.columns_log2 * 2 ^ setting.header.params.tiles.rows_log2
    → k ≡ column_of setting.header.params.tiles n → k < length columns → t ≡ tile_places setting.places setting.header.params.tiles n → AreTileColumns setting.header n columns
    → taken ≡ slice_index_or columns k x
    → 64 * (superblocks_along (t.col_to - t.col_from) * superblocks_along (t.row_to - t.row_from)) ≤ taken.grid.room
room_taken setting n k columns x taken t below at low is h there =
    let c = slice_index_or columns k x in
    let one = h.each k x low in
    let from = begins_there setting n k c t at is one in
    let to = ends_there setting n k c t at is one in
    let room : 64 * (superblocks_along (t.col_to - t.col_from) * superblocks_along (t.row_to - t.row_from)) ≤ c.grid.room = rw (from, to) (has_room setting n k c t below at is one) in
    rw there room

pub nth_taken : {T : Type 0} (speaker : Speaker T) (by : code.FrameSources) (n k : ℕ) (columns : List TileColumn) (x taken new : TileColumn) (sides : TileSides) (t : TilePlaces) (result : Result Written NotWritten)
    (now last : T) → k ≡ column_of by.setting.header.params.tiles n → k < length columns → t ≡ tile_places by.setting.places by.setting.header.params.tiles n
    → AreTileColumns by.setting.header n columns → IsTaken columns k x taken sides
    → ((s : TileRead) → held_of s ≡ held_by (with_sides taken sides) → GivesTile speaker (sources_of by) by.setting.places t s now result new last)
    → (read : FrameRead) → HoldsColumns columns read → GivesNth speaker (sources_of by) n read now result (slice_set columns k new) last
nth_taken speaker by n k columns x taken new sides t result now last at low is h out gives read holds =
    gives_nth speaker by n k columns x new t result now last at low is (h.each k x low)
    (λ s here. gives s (here ∙ ap held_by (sym (taken_is columns k x taken sides out)))) read holds

-- of a tile that isn't written the columns are of no use
pub columns_lost : {T : Type 0} (speaker : Speaker T) (by : FrameSources) (n : ℕ) (columns others : List TileColumn) (why : NotWritten) (read : FrameRead) (now last : T)
    → GivesNth speaker by n read now (Err why) columns last → GivesNth speaker by n read now (Err why) others last
columns_lost speaker by n columns others Unsaid read now last gives = gives
columns_lost speaker by n columns others TooLong read now last gives = gives
columns_lost speaker by n columns others OutOfMemory read now last gives = gives

ends_to : {T : Type 0} (speaker : Speaker T) (by : FrameSources) (n k : ℕ) (columns : List TileColumn) (new ended : TileColumn) (bytes : List ℕ) (broken : Option Rule) (read : FrameRead) (now last : T)
    → EndsColumn by.header k broken new ended → GivesNthTo speaker by n read now bytes broken (slice_set columns k new) last → GivesNthTo speaker by n read now bytes broken (slice_set columns k ended) last
ends_to speaker by n k columns new ended bytes None read now last ends gives = rw ends gives
ends_to speaker by n k columns new ended bytes (Some rule) read now last ends gives = gives

-- the column is back in its place
back : (columns others : List TileColumn) (k : ℕ) (spare ended y : TileColumn) → others ≡ slice_set columns k spare → y ≡ ended → slice_set others k y ≡ slice_set columns k ended
back columns others k spare ended y same is = (λ i. slice_set (same i) k (is i)) ∙ set-set columns k spare ended

pub nth_put_back : {T : Type 0} (speaker : Speaker T) (by : FrameSources) (n k : ℕ) (columns others : List TileColumn) (new ended spare y : TileColumn) (w : Written) (read : FrameRead) (now last : T)
    → others ≡ slice_set columns k spare → y ≡ ended → EndsColumn by.header k w.broken new ended
    → GivesNth speaker by n read now (Ok w) (slice_set columns k new) last → GivesNth speaker by n read now (Ok w) (slice_set others k y) last
nth_put_back speaker by n k columns others new ended spare y w read now last same is ends gives =
    subst (λ columns. GivesNth speaker by n read now (Ok w) columns last) (sym (back columns others k spare ended y same is))
    (ends_to speaker by n k columns new ended w.bytes.items w.broken read now last ends gives)

columns_end : (setting : FrameSetting) (n k : ℕ) (columns : List TileColumn) (x taken new ended : TileColumn) (sides : TileSides) (t : TilePlaces) (broken : Option Rule)
    → n < 2 ^ setting.header.params.tiles.columns_log2 * 2 ^ setting.header.params.tiles.rows_log2 → k < length columns
    → k ≡ column_of setting.header.params.tiles n → t ≡ tile_places setting.places setting.header.params.tiles n → AreTileColumns setting.header n columns → IsTaken columns k x taken sides
    → EndsColumn setting.header k broken new ended → (broken ≡ None → IsReadyFor setting t new)
    → (broken ≡ None → taken.grid.room ≤ new.grid.room + 64 * (superblocks_along (t.col_to - t.col_from) * superblocks_along (t.row_to - t.row_from)))
    → AreTileColumns setting.header (n + 1) (slice_set columns k ended)
columns_end setting n k columns x taken new ended sides t None below low at is h out ends ready room =
    let c = slice_index_or columns k x in
    let one = h.each k x low in
    rw ends (columns_written setting n k columns x new (cleared c.sides) t below low at is h
    (ready_for setting n k c (cleared c.sides) t at is one (cleared_fit (shape_of setting.header) _ one.fit)) (ready refl)
    (subst (λ (taken : TileColumn). taken.grid.room ≤ new.grid.room + 64 * (superblocks_along (t.col_to - t.col_from) * superblocks_along (t.row_to - t.row_from))) out.there (room refl)))
columns_end setting n k columns x taken new ended sides t (Some rule) below low at is h out ends ready room = columns_renewed setting n k columns ended low h ends

pub columns_put_back : (setting : FrameSetting) (n k : ℕ) (columns others : List TileColumn) (x taken new ended spare y : TileColumn) (sides : TileSides) (t : TilePlaces) (broken : Option Rule)
    → n < 2 ^ setting.header.params.tiles.columns_log2 * 2 ^ setting.header.params.tiles.rows_log2 → k < length columns
    → k ≡ column_of setting.header.params.tiles n → t ≡ tile_places setting.places setting.header.params.tiles n → AreTileColumns setting.header n columns → IsTaken columns k x taken sides
    → others ≡ slice_set columns k spare → y ≡ ended → EndsColumn setting.header k broken new ended → (broken ≡ None → IsReadyFor setting t new)
    → (broken ≡ None → taken.grid.room ≤ new.grid.room + 64 * (superblocks_along (t.col_to - t.col_from) * superblocks_along (t.row_to - t.row_from)))
    → AreTileColumns setting.header (n + 1) (slice_set others k y)
columns_put_back setting n k columns others x taken new ended spare y sides t broken below low at is h out same put ends ready room =
    subst (AreTileColumns setting.header (n + 1)) (sym (back columns others k spare ended y same put))
    (columns_end setting n k columns x taken new ended sides t broken below low at is h out ends ready room)
