-- The strips of the tile columns of a frame, side by side.
use Rattle.std.proofs.Common.{◌≡◌, ◌<◌, ◌≤◌, ◌+◌, ◌-◌, ◌*◌, ◌/◌, ◌^◌, Bool, true, false, ℕ, List, length, get_or, refl, sym, ◌∙◌, ap, subst, arith, min}
use Rattle.std.specs.Prelude.{if◌then◌else◌}
use Rattle.vp9_types.specs.Maps.{FrameMap}
use Rattle.vp9_types.specs.Shapes.{coded_height, coded_width, halved, mi_cols, mi_rows}
use Rattle.vp9_types.specs.Sizes.{superblocks_along}
use Rattle.vp9_types.specs.declared.block.ReferenceFrame.{ReferenceFrame}
use Rattle.vp9_types.specs.declared.job.Span.{Span}
use Rattle.vp9_types.specs.declared.shape.Plane.{Plane}
use Rattle.vp9_types.specs.declared.shape.Plane.TheVariants.{Y, U, V}
use Rattle.vp9_types.specs.declared.shape.Shape.{Shape}
use Rattle.frame_headers.specs.HeaderState.{shape_of}
use Rattle.frame_headers.specs.declared.header.Header.{Header}
use Rattle.counting_reader.specs.Counting.{Settled}
use Rattle.inter_places.specs.Places.{is_subsampled, coded_length}
use Rattle.inter_places.specs.declared.part.Direction.TheVariants.{Down, Across}
use Rattle.planes.specs.Planes.{right_end}
use Rattle.planes.specs.Pictures.{IsInRange, blank, plane_of, samples_of}
use Rattle.planes.specs.declared.area.Area.{Area}
use Rattle.planes.specs.declared.frame_planes.FramePlanes.{FramePlanes}
use Rattle.plane_parts.specs.PlaneParts.{IsInArea}
use Rattle.block_rebuild.specs.InterBlocks.{Rebuilding, ReferencePicture}
use Rattle.block_rebuild.specs.Strips.{IsIn, in_plane, strip_area, strip_places, with_blocks}
use Rattle.recon_rows.specs.frame_state.ColumnPlans.{ColumnRead}
use Rattle.recon_rows.specs.frame_state.FrameReading.{FrameRead}
use Rattle.recon_rows.specs.frame_state.Sources.{FrameSources}
use Rattle.recon_rows.proofs.of_frame_state.TileOffsets.{offset_low, part_at, place_below, place_from, place_to}
use Rattle.recon_rows.specs.column_order.ColumnStrips.{column_from, column_to}
use Rattle.recon_rows.proofs.of_column_order.FrameStrips.{frame_strips}
use Rattle.recon_rows.specs.OwnStrips.{HasStripAreas}
use Rattle.loop_filter.specs.Laws.{first_own}
use Rattle.column_strips.specs.Laws.{AreColumnStrips, AreFrameColumns, rebuilding}
use Rattle.column_strips.specs.StripRows.{AreRow, HasColumn, HasOwnRows, IsPartOfRow, rows_from}
use Rattle.column_strips.proofs.FrameEdge.{frame_ends}
use Rattle.column_strips.proofs.RowSteps.{top_inside}

---- Rows ----

at_rows : (ss : Bool) (r : ℕ) → halved ss (8 * (8 * r)) ≡ halved ss (64 * r)
at_rows ss r = ap (halved ss) (product r)
  where
    product : (r : ℕ) → 8 * (8 * r) ≡ 64 * r
    product r = omega arith

-- from its first row and its end
rows_are : (high top low bottom coded : ℕ) → high ≡ top → low ≡ bottom → top < coded → top ≤ bottom
    → (high - 1 ≤ min coded top) × (high - 1 + (min coded low - (high - 1)) ≡ min coded bottom)
rows_are high top low bottom coded same its inside rise = (omega (arith, same, inside), omega (arith, same, its, inside, rise))

tops_rise : (ss : Bool) (r : ℕ) → halved ss (64 * r) ≤ halved ss (64 * (r + 1))
tops_rise true r = omega arith
tops_rise false r = omega arith

lengths : (shape : Shape) (p : Plane) → (coded_length shape p Down ≡ coded_height shape p) × (coded_width shape p ≡ halved (is_subsampled shape p Across) (8 * mi_cols shape))
lengths shape Y = (refl, refl)
lengths shape U = (refl, refl)
lengths shape V = (refl, refl)

rises : (ss : Bool) (a b : ℕ) → a ≤ b → halved ss (8 * a) ≤ halved ss (8 * b)
rises true a b le = omega (arith, le)
rises false a b le = omega (arith, le)

width_kept : (left right coded : ℕ) → left ≤ coded → left + (min coded right - left) ≤ coded
width_kept left right coded low = omega (arith, low)

own_rows : (shape : Shape) (p : Plane) (from to r : ℕ) → from ≤ mi_cols shape → r < superblocks_along (mi_rows shape) → HasOwnRows shape p r (strip_area shape p from to r)
own_rows shape p from to r inside low =
    let ss = is_subsampled shape p Down in
    let told = rows_are (halved ss (8 * (8 * r))) (halved ss (64 * r)) (halved ss (8 * (8 * (r + 1)))) (halved ss (64 * (r + 1))) (coded_height shape p)
    (at_rows ss r) (at_rows ss (r + 1)) (top_inside shape p r low) (tops_rise ss r) in
    let begin : halved (is_subsampled shape p Across) (8 * from) ≤ coded_width shape p = rw (lengths shape p).1 (rises (is_subsampled shape p Across) from (mi_cols shape) inside) in
    record {
      top = told.0;
      bottom = told.1;
      right = width_kept (halved (is_subsampled shape p Across) (8 * from)) (halved (is_subsampled shape p Across) (8 * to)) (coded_width shape p) begin;
    }

is_between : (high top low bottom coded y : ℕ) → high ≡ top → low ≡ bottom → top < coded → top ≤ bottom → min coded top ≤ y → y < min coded top + (high - 1 + (min coded low - (high - 1)) - min coded top)
    → (high ≤ y) × (y < low)
is_between high top low bottom coded y same its inside rise below above = (omega (arith, same, inside, below), omega (arith, same, its, inside, rise, below, above))

in_strip : (shape : Shape) (p : Plane) (from to r y x : ℕ) → r < superblocks_along (mi_rows shape) → IsInArea (rows_from (first_own shape p r) (strip_area shape p from to r)) y x
    → IsIn (in_plane shape p (strip_places from to r)) y x
in_strip shape p from to r y x low i =
    let ss = is_subsampled shape p Down in
    let told = is_between (halved ss (8 * (8 * r))) (halved ss (64 * r)) (halved ss (8 * (8 * (r + 1)))) (halved ss (64 * (r + 1))) (coded_height shape p) y
    (at_rows ss r) (at_rows ss (r + 1)) (top_inside shape p r low) (tops_rise ss r) i.below i.above in
    let end : x < halved (is_subsampled shape p Across) (8 * from) + (min (coded_length shape p Across) (halved (is_subsampled shape p Across) (8 * to)) - halved (is_subsampled shape p Across) (8 * from)) = i.before in
    record {
      below = told.0;
      above = told.1;
      behind = i.behind;
      before = before_end x (halved (is_subsampled shape p Across) (8 * from)) (halved (is_subsampled shape p Across) (8 * to)) (coded_length shape p Across) i.behind end;
    }
  where
    before_end : (x left right coded : ℕ) → left ≤ x → x < left + (min coded right - left) → x < right
    before_end x left right coded behind before = omega (arith, behind, before)

area_of : {X : Type 0} (shape : Shape) (from to r : ℕ) (f : FramePlanes X) (p : Plane) → HasStripAreas shape from to r f → (plane_of f p).area ≡ strip_area shape p from to r
area_of shape from to r f Y areas = areas.y
area_of shape from to r f U areas = areas.u
area_of shape from to r f V areas = areas.v

part_is : {X : Type 0} (shape : Shape) (raw : FrameMap) (from to r : ℕ) (f : FramePlanes X) → from ≤ mi_cols shape → r < superblocks_along (mi_rows shape) → HasStripAreas shape from to r f → IsInRange shape.depth f
    → ((p : Plane) (y x : ℕ) → IsIn (in_plane shape p (strip_places from to r)) y x → samples_of f p y x ≡ raw p y x) → IsPartOfRow shape raw r f
part_is shape raw from to r f inside low areas range same = record {
  areas = λ p. subst (HasOwnRows shape p r) (sym (area_of shape from to r f p areas)) (own_rows shape p from to r inside low);
  range = range;
  samples = λ p y x i. same p y x (in_strip shape p from to r y x low (subst (λ (a : Area). IsInArea (rows_from (first_own shape p r) a) y x) (area_of shape from to r f p areas) i));
}

---- Columns ----

-- the place of 8x8 luma samples of a column of samples
abbrev place_at : Bool → ℕ → ℕ
place_at ss x = if ss then x / 4 else x / 8

place_low : (ss : Bool) (x n : ℕ) → x < halved ss (8 * n) → place_at ss x < n
place_low true x n low = omega (arith, low)
place_low false x n low = omega (arith, low)

place_begins : (ss : Bool) (x a : ℕ) → a ≤ place_at ss x → halved ss (8 * a) ≤ x
place_begins true x a low = omega (arith, low)
place_begins false x a low = omega (arith, low)

place_ends : (ss : Bool) (x b : ℕ) → place_at ss x < b → x < halved ss (8 * b)
place_ends true x b low = omega (arith, low)
place_ends false x b low = omega (arith, low)

-- a column's superblocks reach to the next one
reach_on : (from next place : ℕ) → place < next → from ≤ place → place < from + 8 * superblocks_along (next - from)
reach_on from next place before behind = omega (arith, before, behind)

inner : (x left right coded : ℕ) → left ≤ x → x < right → x < coded → x < left + (min coded right - left)
inner x left right coded behind before low = omega (arith, behind, before, low)

module _ {X : Type 0} (header : Header) (r : ℕ) (strips : List (FramePlanes X)) (many : length strips ≡ 2 ^ header.params.tiles.columns_log2)
    (each : (k : ℕ) (d : FramePlanes X) → k < length strips → HasStripAreas (shape_of header) (column_from header k) (column_to header k) r (get_or strips k d)) where
  abbrev shape : Shape
  shape = shape_of header

  abbrev log2 : ℕ
  log2 = header.params.tiles.columns_log2

  -- the tile column of a column of samples
  abbrev column_at : Plane → ℕ → ℕ
  column_at p x = part_at (superblocks_along (mi_cols shape)) (2 ^ log2) (place_at (is_subsampled shape p Across) x / 8)

  column_there : (p : Plane) (x : ℕ) → x < coded_width shape p → HasColumn strips p x
  column_there p x low =
      let ss = is_subsampled shape p Across in
      let there : place_at ss x < mi_cols shape = place_low ss x (mi_cols shape) (rw (lengths shape p).1 at low) in
      let few : column_at p x < length strips = rw many (place_below (mi_cols shape) log2 (place_at ss x) there) in
      let begin = place_from (mi_cols shape) log2 (place_at ss x) there in
      let end = reach_on (column_from header (column_at p x)) (column_from header (column_at p x + 1)) (place_at ss x) (place_to (mi_cols shape) log2 (place_at ss x) there) begin in
      record {
        number = column_at p x;
        low = few;
        column = λ d. (let area = area_of shape (column_from header (column_at p x)) (column_to header (column_at p x)) r (get_or strips (column_at p x) d) p (each (column_at p x) d few) in
            subst (λ (a : Area). (a.first_column ≤ x) × (x < right_end a)) (sym area) (
              place_begins ss x (column_from header (column_at p x)) begin,
              inner x (halved ss (8 * column_from header (column_at p x))) (halved ss (8 * column_to header (column_at p x))) (coded_width shape p) (place_begins ss x (column_from header (column_at p x)) begin)
                  (place_ends ss x (column_to header (column_at p x)) end) low,
            ));
      }

pub row_is : {X : Type 0} (by : FrameSources) (bytes : List ℕ) (compressed : Span) (read : FrameRead) (plans : ℕ → Settled ColumnRead) (references : ReferenceFrame → ReferencePicture) (r : ℕ) (strips : List (FramePlanes X))
    → AreFrameColumns by bytes compressed read plans → r < superblocks_along (mi_rows (shape_of by.header)) → AreColumnStrips (rebuilding by references) by plans r strips
    → AreRow (shape_of by.header) (with_blocks (rebuilding by references) blank read.blocks) r strips
row_is by bytes compressed read plans references r strips columns low are =
    let put : Rebuilding = rebuilding by references in
    let log2 : ℕ = by.header.params.tiles.columns_log2 in
    record {
      row = low;
      parts = λ k d there. (let held = are.each k d there in
          let strip = frame_strips by bytes compressed columns.spans read references k r (plans k) columns.cut columns.frame (columns.columns k (rw are.many at there)) in
          part_is (shape_of by.header) (with_blocks put blank read.blocks) (column_from by.header k) (column_to by.header k) r (get_or strips k d) (offset_low (mi_cols (shape_of by.header)) log2 k) low held.areas held.range
          (λ p y x i. held.samples p y x i ∙ sym (strip p y x i)));
      columns = column_there by.header r strips are.many (λ k d there. (are.each k d there).areas);
      edge = frame_ends put read.blocks;
    }
