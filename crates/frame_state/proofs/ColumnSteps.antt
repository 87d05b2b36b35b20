-- A tile of a column: what it needs, and what it leaves of the column.
use Rattle.std.proofs.Common.{◌≡◌, ◌∙◌, ℕ, ◌+◌, ◌-◌, ◌*◌, ◌^◌, ◌<◌, ◌≤◌, List, [], ◌∷◌, ◌++◌, Bool, true, false, length, map, replicate, get_or, take, drop, refl, sym, ap, subst, inl, inr, arith}
use Rattle.std.specs.Prelude.{Result, Ok, Err, OnOk, ◌==◌, slice_index_or, slice_set}
use Rattle.std.proofs.Math.Nat.{mul-le-mul_left, mul-le-mul_right}
use Rattle.std.proofs.Math.Seq.{take-append_seam}
use Rattle.std.proofs.Math.ListN.{get_or-append, get_or-map as map_at}
use Rattle.std.proofs.lemmas.Bool.{cases_Bool, cases_lt, eqb-false, eqb-true}
use Rattle.std.proofs.lemmas.List.{get_or-map, get_or-set_other, get_or-set_same, length-append, length-replicate, length-set, map-append, replicate-append-replicate}
use Rattle.vp9_types.specs.Shapes.{mi_cols, mi_rows}
use Rattle.vp9_types.specs.Sizes.{superblocks_along}
use Rattle.vp9_types.specs.declared.rule.Rule.{Rule}
use Rattle.vp9_types.specs.declared.shape.Plane.{Plane}
use Rattle.vp9_types.specs.declared.shape.Plane.TheVariants.{Y, U, V}
use Rattle.vp9_types.specs.declared.shape.Shape.{Shape}
use Rattle.frame_headers.specs.HeaderState.{shape_of}
use Rattle.frame_headers.specs.declared.header.Header.{Header}
use Rattle.frame_headers.specs.declared.tiles.TileInfo.{TileInfo}
use Rattle.prob_contexts.specs.Code.{counts_after, no_counts, with_bool}
use Rattle.prob_contexts.specs.declared.kind.CountedBool.{CountedBool}
use Rattle.counting_reader.specs.Code.{counted_if}
use Rattle.std.proofs.lemmas.List.Sums.{fold-append}
use Rattle.block_geometry.specs.FrameShapes.{places_of}
use Rattle.block_geometry.specs.declared.transform_blocks.FramePlaces.{FramePlaces}
use Rattle.residue_syntax.specs.Code.{FitPlane, FitPlanes}
use Rattle.residue_syntax.specs.Sides.{Sides, nothing_left}
use Rattle.residue_syntax.specs.declared.sides.TileSides.{TileSides}
use Rattle.frame_setting.specs.declared.setting.FrameSetting.{FrameSetting}
use Rattle.frame_state.specs.KeptColumns.{AllFit, AllLie, AllSmall, AllStart, AreTileColumns, IsTileColumn, blocks_of, limit_of}
use Rattle.frame_state.specs.Code.{IsReady, SameColumns, column_as_listed, column_of_code, counts_if}
use Rattle.frame_state.specs.FrameReading.{Column, FrameRead, begun, column_at, infos, no_column, sides_below}
use Rattle.frame_state.specs.TilePlaces.{column_of, tile_row_of, superblocks_before, tile_offset, tile_places}
use Rattle.frame_state.specs.declared.columns.TileColumn.{TileColumn}
use Rattle.frame_state.specs.declared.tile_places.TilePlaces.{TilePlaces}
use Rattle.frame_state.proofs.TileOffsets.{before_grows, before_low, column_ends, offset_grows, offset_low, raster, room_for, room_left, row_below, tile_is_low}

-- with nothing at the left
abbrev pub cleared : TileSides → TileSides
cleared s = record { y = nothing_left s.y; u = nothing_left s.u; v = nothing_left s.v }

abbrev pub with_sides : TileColumn → TileSides → TileColumn
with_sides c sides = record { grid = c.grid; sides = sides }

plane_fits : (shape : Shape) (p : Plane) (s : Sides) → FitPlane shape p s → FitPlane shape p (nothing_left s)
plane_fits shape p s h = record { above = h.above; left = length-replicate (length s.left) false ∙ h.left }

pub cleared_fit : (shape : Shape) (s : TileSides) → FitPlanes shape s → FitPlanes shape (cleared s)
cleared_fit shape s h = record { y = plane_fits shape Y s.y h.y; u = plane_fits shape U s.u h.u; v = plane_fits shape V s.v h.v }

-- where a tile lies, side by side
pub record Lies (frame : FramePlaces) (tiles : TileInfo) (n : ℕ) (t : TilePlaces) : Type 0 where
  pub row_from : t.row_from ≡ tile_offset frame.rows tiles.rows_log2 (tile_row_of tiles n)
  pub row_to : t.row_to ≡ tile_offset frame.rows tiles.rows_log2 (tile_row_of tiles n + 1)
  pub col_from : t.col_from ≡ tile_offset frame.cols tiles.columns_log2 (column_of tiles n)
  pub col_to : t.col_to ≡ tile_offset frame.cols tiles.columns_log2 (column_of tiles n + 1)

pub lies : (frame : FramePlaces) (tiles : TileInfo) (n : ℕ) (t : TilePlaces) → t ≡ tile_places frame tiles n → Lies frame tiles n t
unfolding tile_places
lies frame tiles n t is = record {
  row_from = ap (λ (t : TilePlaces). t.row_from) is;
  row_to = ap (λ (t : TilePlaces). t.row_to) is;
  col_from = ap (λ (t : TilePlaces). t.col_from) is;
  col_to = ap (λ (t : TilePlaces). t.col_to) is;
}

pub rows_in_order : (frame : FramePlaces) (tiles : TileInfo) (n : ℕ) (t : TilePlaces) → t ≡ tile_places frame tiles n → t.row_from ≤ t.row_to
rows_in_order frame tiles n t is = let h = lies frame tiles n t is in rw (h.row_from, h.row_to) (offset_grows frame.rows tiles.rows_log2 (tile_row_of tiles n))

pub rows_within : (frame : FramePlaces) (tiles : TileInfo) (n : ℕ) (t : TilePlaces) → t ≡ tile_places frame tiles n → t.row_to ≤ frame.rows
rows_within frame tiles n t is = let h = lies frame tiles n t is in rw h.row_to (offset_low frame.rows tiles.rows_log2 (tile_row_of tiles n + 1))

-- a column is ready for its tile
pub ready_of : (setting : FrameSetting) (n k : ℕ) (c : TileColumn) (sides : TileSides) → IsTileColumn setting.header n k c
    → FitPlanes (shape_of setting.header) sides → IsReady setting (with_sides c sides)
ready_of setting n k c sides h fit =
    let cols : setting.places.cols ≡ mi_cols (shape_of setting.header) = ap (λ (p : FramePlaces). p.cols) setting.whole in
    let log2 = setting.header.params.tiles.columns_log2 in record {
      rows = h.rows ∙ ap (λ (p : FramePlaces). p.rows) (sym setting.whole);
      order = rw (h.from, h.to) (offset_grows (mi_cols (shape_of setting.header)) log2 k);
      within = rw (h.to, cols) (offset_low (mi_cols (shape_of setting.header)) log2 (k + 1));
      ends = rw (h.from, h.to, cols) (column_ends (mi_cols (shape_of setting.header)) log2 k);
      fit = fit;
      fit_blocks = h.fit_blocks;
      lie = h.lie;
      starts = subst (λ (p : FramePlaces). AllStart p.rows p.cols c.grid.blocks) (sym setting.whole) h.starts;
      small = h.small;
    }

pub begins_there : (setting : FrameSetting) (n k : ℕ) (c : TileColumn) (t : TilePlaces) → k ≡ column_of setting.header.params.tiles n → t ≡ tile_places setting.places setting.header.params.tiles n
    → IsTileColumn setting.header n k c → t.col_from ≡ c.grid.from
begins_there setting n k c t at is h =
    (lies setting.places setting.header.params.tiles n t is).col_from
    ∙ (λ i. tile_offset (setting.whole i).cols setting.header.params.tiles.columns_log2 (sym at i)) ∙ sym h.from

pub ends_there : (setting : FrameSetting) (n k : ℕ) (c : TileColumn) (t : TilePlaces) → k ≡ column_of setting.header.params.tiles n → t ≡ tile_places setting.places setting.header.params.tiles n
    → IsTileColumn setting.header n k c → t.col_to ≡ c.grid.to
ends_there setting n k c t at is h =
    (lies setting.places setting.header.params.tiles n t is).col_to
    ∙ (λ i. tile_offset (setting.whole i).cols setting.header.params.tiles.columns_log2 (sym at i + 1)) ∙ sym h.to

---- Room ----

-- what its rows of superblocks are to all of them
record IsTall (header : Header) (n tall : ℕ) : Type 0 where
  low : tall ≤ superblocks_before (mi_rows (shape_of header)) header.params.tiles.rows_log2 (tile_row_of header.params.tiles n + 1)
      - superblocks_before (mi_rows (shape_of header)) header.params.tiles.rows_log2 (tile_row_of header.params.tiles n)
  order : superblocks_before (mi_rows (shape_of header)) header.params.tiles.rows_log2 (tile_row_of header.params.tiles n)
      ≤ superblocks_before (mi_rows (shape_of header)) header.params.tiles.rows_log2 (tile_row_of header.params.tiles n + 1)
  within : superblocks_before (mi_rows (shape_of header)) header.params.tiles.rows_log2 (tile_row_of header.params.tiles n + 1) ≤ superblocks_along (mi_rows (shape_of header))

is_tall : (setting : FrameSetting) (n : ℕ) (t : TilePlaces) → n < 2 ^ setting.header.params.tiles.columns_log2 * 2 ^ setting.header.params.tiles.rows_log2
    → t ≡ tile_places setting.places setting.header.params.tiles n → IsTall setting.header n (superblocks_along (t.row_to - t.row_from))
is_tall setting n t below is =
    let tiles = setting.header.params.tiles in
    let rows = mi_rows (shape_of setting.header) in
    let h = lies (places_of (shape_of setting.header)) tiles n t (is ∙ ap (λ p. tile_places p tiles n) setting.whole) in
    let last = row_below tiles n below in record {
      low = rw (h.row_from, h.row_to) (tile_is_low rows tiles.rows_log2 (tile_row_of tiles n));
      order = before_grows rows tiles.rows_log2 (tile_row_of tiles n) (tile_row_of tiles n + 1) (omega arith);
      within = before_low rows tiles.rows_log2 (tile_row_of tiles n + 1) (omega (arith, last));
    }

room_there : (header : Header) (n k : ℕ) (c : TileColumn) → k ≡ column_of header.params.tiles n → IsTileColumn header n k c
    → 64 * (superblocks_along (c.grid.to - c.grid.from) * (superblocks_along (mi_rows (shape_of header))
    - superblocks_before (mi_rows (shape_of header)) header.params.tiles.rows_log2 (tile_row_of header.params.tiles n))) ≤ c.grid.room
room_there header n k c at h =
    let place = raster header.params.tiles n in
    h.room (tile_row_of header.params.tiles n) (omega (arith, place, at))

pub has_room : (setting : FrameSetting) (n k : ℕ) (c : TileColumn) (t : TilePlaces) → n < 2 ^ setting.header.params.tiles.columns_log2 * 2 ^ setting.header.params.tiles.rows_log2
    → k ≡ column_of setting.header.params.tiles n → t ≡ tile_places setting.places setting.header.params.tiles n → IsTileColumn setting.header n k c
    → 64 * (superblocks_along (c.grid.to - c.grid.from) * superblocks_along (t.row_to - t.row_from)) ≤ c.grid.room
has_room setting n k c t below at is h =
    let tall = is_tall setting n t below is in
    room_for (superblocks_along (c.grid.to - c.grid.from)) (superblocks_along (t.row_to - t.row_from)) (superblocks_along (mi_rows (shape_of setting.header))) _ _ c.grid.room
    tall.low tall.order tall.within (room_there setting.header n k c at h)

---- The columns behind a tile ----

next_row : (columns n r q k : ℕ) → n ≡ q * columns + k → n + 1 ≤ r * columns + k → q + 1 ≤ r
next_row columns n r q k at later = elim (cases_lt q r) [
  | inl less ↦ omega (arith, less)
  | inr more ↦ let low : r * columns ≤ q * columns = mul-le-mul_right columns more in absurd (omega (arith, at, later, low))
]

pub column_left : (setting : FrameSetting) (n k : ℕ) (c new : TileColumn) (t : TilePlaces)
    → n < 2 ^ setting.header.params.tiles.columns_log2 * 2 ^ setting.header.params.tiles.rows_log2
    → k ≡ column_of setting.header.params.tiles n → t ≡ tile_places setting.places setting.header.params.tiles n → IsTileColumn setting.header n k c
    → IsReady setting new → SameColumns c new
    → c.grid.room ≤ new.grid.room + 64 * (superblocks_along (c.grid.to - c.grid.from) * superblocks_along (t.row_to - t.row_from))
    → IsTileColumn setting.header (n + 1) k new
column_left setting n k c new t below at is h ready same left =
    let tiles = setting.header.params.tiles in
    let tall = is_tall setting n t below is in
    let place = raster tiles n in record {
      rows = ready.rows ∙ ap (λ (p : FramePlaces). p.rows) setting.whole;
      from = same.from ∙ h.from;
      to = same.to ∙ h.to;
      fit = ready.fit;
      room = λ r later. rw (same.from, same.to) (room_left (superblocks_along (c.grid.to - c.grid.from)) (superblocks_along (t.row_to - t.row_from)) (superblocks_along (mi_rows (shape_of setting.header))) _ _
          (superblocks_before (mi_rows (shape_of setting.header)) tiles.rows_log2 r) c.grid.room new.grid.room tall.low tall.order tall.within
          (before_grows (mi_rows (shape_of setting.header)) tiles.rows_log2 (tile_row_of tiles n + 1) r (next_row (2 ^ tiles.columns_log2) n r (tile_row_of tiles n) k (place ∙ ap (λ k. tile_row_of tiles n * 2 ^ tiles.columns_log2 + k) (sym at)) later))
          (room_there setting.header n k c at h) left);
      fit_blocks = ready.fit_blocks;
      lie = ready.lie;
      starts = subst (λ (p : FramePlaces). AllStart p.rows p.cols new.grid.blocks) setting.whole ready.starts;
      small = ready.small;
    }

pub later_is : (header : Header) (n k : ℕ) (c : TileColumn) → IsTileColumn header n k c → IsTileColumn header (n + 1) k c
later_is header n k c h = record {
  rows = h.rows;
  from = h.from;
  to = h.to;
  fit = h.fit;
  room = λ r low. h.room r (omega (arith, low));
  fit_blocks = h.fit_blocks;
  lie = h.lie;
  starts = h.starts;
  small = h.small;
}

pub columns_with : (setting : FrameSetting) (n k : ℕ) (columns : List TileColumn) (new : TileColumn) → k < length columns
    → AreTileColumns setting.header n columns → IsTileColumn setting.header (n + 1) k new → AreTileColumns setting.header (n + 1) (slice_set columns k new)
columns_with setting n k columns new low h is = record {
  many = length-set columns k new ∙ h.many;
  each = λ j d there. elim (cases_Bool (j == k)) [
    | inl same ↦
        let same : j ≡ k = eqb-true j k same in
        rw (same, get_or-set_same columns k new d low) is
    | inr other ↦
        rw (get_or-set_other columns k j new d (eqb-false j k other)) (later_is setting.header n j _ (h.each j d (rw (length-set columns k new) at there)))
  ];
}

pub columns_after : (setting : FrameSetting) (n k : ℕ) (columns : List TileColumn) (x new : TileColumn) (sides : TileSides) (t : TilePlaces) (result : Result (List ℕ) Rule)
    → n < 2 ^ setting.header.params.tiles.columns_log2 * 2 ^ setting.header.params.tiles.rows_log2 → k < length columns
    → k ≡ column_of setting.header.params.tiles n → t ≡ tile_places setting.places setting.header.params.tiles n → AreTileColumns setting.header n columns
    → OnOk result (IsReady setting new) → OnOk result (SameColumns (with_sides (slice_index_or columns k x) sides) new)
    → OnOk result ((slice_index_or columns k x).grid.room ≤ new.grid.room
    + 64 * (superblocks_along ((slice_index_or columns k x).grid.to - (slice_index_or columns k x).grid.from) * superblocks_along (t.row_to - t.row_from)))
    → OnOk result (AreTileColumns setting.header (n + 1) (slice_set columns k new))
columns_after setting n k columns x new sides t (Ok counts) below low at is h ready same left =
    columns_with setting n k columns new low h
    (column_left setting n k (slice_index_or columns k x) new t below at is (h.each k x low) ready (record { from = same.from; to = same.to }) left)
columns_after setting n k columns x new sides t (Err rule) below low at is h ready same left = tt

---- What is read ----

pub column_told : (header : Header) (columns : List TileColumn) (read : FrameRead) (k : ℕ) (x : TileColumn) → k < length columns → map column_of_code columns ≡ map column_as_listed read.columns
    → column_of_code (slice_index_or columns k x) ≡ column_as_listed (column_at header read k)
column_told header columns read k x low held =
    let none = no_column (shape_of header) in
    sym (get_or-map column_of_code columns k x (column_as_listed none) low)
    ∙ ap (λ told. get_or told k (column_as_listed none)) held
    ∙ map_at column_as_listed read.columns k none

pub sides_told : (shape : Shape) (p : Plane) (s : Sides) (above : List Bool) → s.above ≡ above → FitPlane shape p s → nothing_left s ≡ sides_below shape p above
sides_told shape p s above is fit = λ i. record { above = is i; left = replicate (fit.left i) false }

-- counts go on from those before
pub counted_on : (counting : Bool) (xs ys : List CountedBool) → counted_if counting (counts_if counting xs) ys ≡ counts_if counting (xs ++ ys)
unfolding counts_after
counted_on true xs ys = sym (fold-append with_bool no_counts xs ys)
counted_on false xs ys = refl

pub none_counted : (counting : Bool) (counts : List ℕ) → counts ≡ no_counts → counts ≡ counts_if counting []
unfolding counts_after
none_counted true counts is = is
none_counted false counts is = is

---- The columns at the beginning ----

last_at : {X : Type 0} (xs : List X) (c d : X) (k : ℕ) → k ≡ length xs → get_or (xs ++ c ∷ []) k d ≡ c
last_at xs c d k is = rw is (by_list xs c d)
  where
    by_list : {X : Type 0} (xs : List X) (c d : X) → get_or (xs ++ c ∷ []) (length xs) d ≡ c
    by_list [] c d = refl
    by_list (x ∷ xs) c d = by_list xs c d

-- so many columns are begun
pub record AreBegun (header : Header) (k : ℕ) (columns : List TileColumn) : Type 0 where
  pub many : length columns ≡ k
  pub each : (j : ℕ) (d : TileColumn) → j < length columns → IsTileColumn header 0 j (slice_index_or columns j d)
  pub told : map column_of_code columns ≡ map column_as_listed (replicate k (no_column (shape_of header)))

pub one_begun : (header : Header) (k : ℕ) (columns all : List TileColumn) (c : TileColumn) → all ≡ columns ++ c ∷ [] → AreBegun header k columns
    → IsTileColumn header 0 k c → column_of_code c ≡ column_as_listed (no_column (shape_of header)) → AreBegun header (k + 1) all
one_begun header k columns all c is h new start =
    let none = no_column (shape_of header) in
    let long = length-append columns (c ∷ []) in
    rw is (record {
      many = omega (arith, long, h.many);
      each = λ j d low. elim (cases_Bool (j == k)) [
        | inl same ↦
            let same : j ≡ k = eqb-true j k same in
            rw (last_at columns c d j (same ∙ sym h.many), same) new
        | inr other ↦
            let differ = eqb-false j k other in
            let there : j < length columns = omega (arith, low, long, h.many, differ) in
            rw (get_or-append columns (c ∷ []) d j there) (h.each j d there)
      ];
      told = map-append column_of_code columns (c ∷ []) ∙ (λ i. h.told i ++ start i ∷ [])
          ∙ sym (map-append column_as_listed (replicate k none) (none ∷ [])) ∙ ap (map column_as_listed) (replicate-append-replicate k 1 none);
    })

pub none_begun : (header : Header) → AreBegun header 0 []
none_begun header = record { many = refl; each = λ j d low. absurd (omega (arith, low)); told = refl }

pub tile_columns : (header : Header) (k : ℕ) (columns : List TileColumn) → k ≡ 2 ^ header.params.tiles.columns_log2 → AreBegun header k columns → AreTileColumns header 0 columns
tile_columns header k columns all h = record { many = h.many ∙ all; each = h.each }

-- as many columns as before
pub written_back : (new old : List TileColumn) (n : ℕ) → n ≡ length new → take n (new ++ drop (length new) old) ≡ new
written_back new old n many = ap (λ n. take n (new ++ drop (length new) old)) many ∙ take-append_seam new (drop (length new) old)

-- the columns' blocks
pub blocks_told : (columns : List TileColumn) (read : List Column) → map column_of_code columns ≡ map column_as_listed read → blocks_of columns ≡ map (λ c. infos c.blocks) read
blocks_told columns read held = sym (of_code columns) ∙ ap (map (λ told. told.0)) held ∙ as_listed read
  where
    of_code : (columns : List TileColumn) → map (λ told. told.0) (map column_of_code columns) ≡ blocks_of columns
    of_code [] = refl
    of_code (c ∷ columns) = ap (λ rest. c.grid.blocks ∷ rest) (of_code columns)

    as_listed : (read : List Column) → map (λ told. told.0) (map column_as_listed read) ≡ map (λ c. infos c.blocks) read
    as_listed [] = refl
    as_listed (c ∷ read) = ap (λ rest. infos c.blocks ∷ rest) (as_listed read)

-- a column begins with room for all of its blocks
pub begins : (header : Header) (k : ℕ) (c : TileColumn) → c.grid.rows ≡ mi_rows (shape_of header)
    → c.grid.from ≡ tile_offset (mi_cols (shape_of header)) header.params.tiles.columns_log2 k → c.grid.to ≡ tile_offset (mi_cols (shape_of header)) header.params.tiles.columns_log2 (k + 1)
    → FitPlanes (shape_of header) c.sides
    → 64 * (superblocks_along (c.grid.to - c.grid.from) * superblocks_along (mi_rows (shape_of header))) ≤ c.grid.room → c.grid.blocks ≡ [] → IsTileColumn header 0 k c
begins header k c rows from to fit room none = record {
  rows = rows;
  from = from;
  to = to;
  fit = fit;
  room = λ r low.
      let rows = mi_rows (shape_of header) in
      let less : superblocks_along rows - superblocks_before rows header.params.tiles.rows_log2 r ≤ superblocks_along rows = omega arith in
      let most = mul-le-mul_left (superblocks_along (c.grid.to - c.grid.from)) less in
      omega (arith, most, room);
  fit_blocks = rw none (λ i d low. absurd (omega (arith, low)));
  lie = rw none (λ i d low. absurd (omega (arith, low)));
  starts = rw none (λ i d low. absurd (omega (arith, low)));
  small = rw none (λ i d low. absurd (omega (arith, low)));
}

pub begins_by : (setting : FrameSetting) (k : ℕ) (c : TileColumn) → c.grid.rows ≡ setting.places.rows
    → c.grid.from ≡ tile_offset setting.places.cols setting.header.params.tiles.columns_log2 k → c.grid.to ≡ tile_offset setting.places.cols setting.header.params.tiles.columns_log2 (k + 1)
    → FitPlanes (shape_of setting.header) c.sides
    → 64 * (superblocks_along (c.grid.to - c.grid.from) * superblocks_along setting.places.rows) ≤ c.grid.room → c.grid.blocks ≡ [] → IsTileColumn setting.header 0 k c
begins_by setting k c rows from to fit room none =
    let high : setting.places.rows ≡ mi_rows (shape_of setting.header) = ap (λ (p : FramePlaces). p.rows) setting.whole in
    let wide : setting.places.cols ≡ mi_cols (shape_of setting.header) = ap (λ (p : FramePlaces). p.cols) setting.whole in
    begins setting.header k c (rows ∙ high) (from ∙ ap (λ n. tile_offset n setting.header.params.tiles.columns_log2 k) wide)
    (to ∙ ap (λ n. tile_offset n setting.header.params.tiles.columns_log2 (k + 1)) wide) fit
    (subst (λ n. 64 * (superblocks_along (c.grid.to - c.grid.from) * superblocks_along n) ≤ c.grid.room) high room) none
