-- Which rows the buffers of some rows of superblocks have.
use Rattle.std.proofs.Common.{◌≡◌, ◌∙◌, ◌<◌, ◌≤◌, ◌+◌, ◌*◌, ◌-◌, ◌/◌, inl, inr, ℕ, Bool, true, false, List, [], ◌∷◌, ◌++◌, length, get_or, map, sym, ap, arith, min, subst, refl, Bor}
use Rattle.std.proofs.Math.ListN.{get_or-append, get_or-map}
use Rattle.std.proofs.lemmas.Bool.{cases_lt}
use Rattle.std.proofs.lemmas.List.{get_or_push, length-append, length-map}
use Rattle.std.proofs.lemmas.List.FromFn.{get_or-map-range_with_len, length-map-range_with_len}
use Rattle.vp9_types.specs.Maps.{Map, IsPiece, row_of}
use Rattle.vp9_types.specs.Shapes.{halved, subsampled_size, mi_rows, plane_width, plane_height, coded_width, coded_height}
use Rattle.vp9_types.specs.Sizes.{superblocks_along}
use Rattle.vp9_types.specs.declared.shape.Plane.{Plane}
use Rattle.vp9_types.specs.declared.shape.Plane.TheVariants.{Y, U, V}
use Rattle.vp9_types.specs.declared.shape.Shape.{Shape}
use Rattle.planes.specs.Planes.{PlaneSamples, HasRow, plane_map}
use Rattle.planes.specs.Pictures.{plane_of}
use Rattle.planes.specs.declared.frame_planes.FramePlanes.{FramePlanes}
use Rattle.block_rebuild.specs.declared.references.ReferencePicture.{ReferencePicture}
use Rattle.band_cells.specs.Bands.{Picture, band_height}
use Rattle.band_needs.specs.declared.ranges.BandRange.{BandRange}
use Rattle.band_references.specs.BandReferences.{IsRowOfBands}
use Rattle.loop_edges.specs.Cells.{sub_y}
use Rattle.loop_filter.proofs.Sides as sides
use Rattle.filter_rows.proofs.Bands.{same_height}
use Rattle.filtered_rows.specs.BufferRows.{RowSpan, HasFinalRows, HoldRows, IsFinalWithin, row_with}
use Rattle.filtered_rows.specs.Code.{held_in, map_in, rows_from, width_in}
use Rattle.filtered_rows.specs.Laws.{RowsHaveBands, AreAllRows, AllRowsAreHeld, NoneHoldRows, OneMoreHoldsRows}
use Rattle.filtered_rows.proofs.Finals.{final_with, row_is_there, row_there}

---- Bands ----

some_row : (sub : Bool) (end places y : ℕ) → end ≡ halved sub (8 * places) → y < end → y / halved sub 64 ≤ superblocks_along places - 1
some_row true end places y is inside = omega (arith, is, inside)
some_row false end places y is inside = omega (arith, is, inside)

between : (sub : Bool) (y : ℕ) → (y / halved sub 64 ≤ (y + 8) / halved sub 64) × ((y + 8) / halved sub 64 ≤ y / halved sub 64 + 1)
between true y = (omega arith, omega arith)
between false y = (omega arith, omega arith)

record Within (first end r : ℕ) : Type 0 where
  from : first ≤ r
  to : r < end

within : (first end low high rows own after : ℕ) → first ≤ low → min (high + 1) (rows - 1) < end → low ≤ own → own ≤ high → own ≤ rows - 1 → own ≤ after → after ≤ own + 1 → Within first end (min after (rows - 1))
within first end low high rows own after from to below above inside less more = record {
  from = omega (arith, from, below, inside, less);
  to = omega (arith, to, above, more);
}

held_row : (shape : Shape) (bands : BandRange) (rows : RowSpan) (p : Plane) (y : ℕ) → rows.first ≤ bands.first → min (bands.last + 1) (superblocks_along (mi_rows shape) - 1) < rows.end
    → IsRowOfBands shape bands p y → IsFinalWithin shape rows p y
held_row shape bands rows p y from to row =
    let height : band_height shape p ≡ halved (sub_y shape p) 64 = same_height shape p in
    let next = rw (sym height) at (between (sub_y shape p) y) in
    let inside = rw (sym height) at (some_row (sub_y shape p) (coded_height shape p) (mi_rows shape) y (sides.high shape p) row.inside) in
    let so = within rows.first rows.end bands.first bands.last (superblocks_along (mi_rows shape)) (y / band_height shape p) ((y + 8) / band_height shape p) from to row.from row.to inside next.0 next.1 in
    record { inside = row.inside; from = so.from; to = so.to }

half_low : (sub : Bool) (size : ℕ) → subsampled_size size sub ≤ halved sub (8 * ((size + 7) / 8))
half_low true size = omega arith
half_low false size = omega arith

width_low : (shape : Shape) (p : Plane) → plane_width shape p ≤ coded_width shape p
width_low shape Y = omega arith
width_low shape U = half_low shape.ss_x shape.w
width_low shape V = half_low shape.ss_x shape.w

height_low : (shape : Shape) (p : Plane) → plane_height shape p ≤ coded_height shape p
height_low shape Y = omega arith
height_low shape U = half_low shape.ss_y shape.h
height_low shape V = half_low shape.ss_y shape.h

pub rows_have_bands : (pictures : ℕ → Picture) (shape : Shape) (bands : BandRange) (r : ReferencePicture RowSpan) → RowsHaveBands pictures shape bands r
rows_have_bands pictures shape bands r by = record {
  reference = by.reference;
  held = λ p y row. subst (λ (s : Shape). IsFinalWithin s r.samples.now p y) by.same (held_row r.shape bands r.samples.now p y by.from by.to row);
  wide = λ p. subst (λ (s : Shape). plane_width r.shape p ≤ coded_width s p) by.same (width_low r.shape p);
  range = by.range;
}

---- All ----

last_low : (a rows : ℕ) → 0 < rows → min a (rows - 1) < rows
last_low a rows some = omega (arith, some)

some_rows : (sub : Bool) (end places y : ℕ) → end ≡ halved sub (8 * places) → y < end → 0 < superblocks_along places
some_rows true end places y is inside = omega (arith, is, inside)
some_rows false end places y is inside = omega (arith, is, inside)

coded_held : (pictures : ℕ → Picture) (rows : RowSpan) → AreAllRows (pictures rows.frame).shape rows → (p : Plane) (y : ℕ) → y < coded_height (pictures rows.frame).shape p → held_in pictures rows p y
coded_held pictures rows all p y inside =
    let shape : Shape = (pictures rows.frame).shape in
    record {
      inside = inside;
      from = rw all.from (omega arith);
      to = rw all.to (last_low ((y + 8) / band_height shape p) (superblocks_along (mi_rows shape)) (some_rows (sub_y shape p) (coded_height shape p) (mi_rows shape) y (sides.high shape p) inside));
    }

less : (y low end : ℕ) → y < low → low ≤ end → y < end
less y low end below rise = omega (arith, below, rise)

pub all_rows_held : (pictures : ℕ → Picture) (rows : RowSpan) → AllRowsAreHeld pictures rows
all_rows_held pictures rows all =
    let shape : Shape = (pictures rows.frame).shape in
    record {
      coded = coded_held pictures rows all;
      shown = λ p y inside. coded_held pictures rows all p y (less y (plane_height shape p) (coded_height shape p) inside (height_low shape p));
      wide = λ p. width_low shape p;
    }

---- One after another ----

pub none_hold : {X : Type 0} (picture : Picture) (first : ℕ) (buffers : List (FramePlanes X)) → NoneHoldRows picture first buffers
none_hold picture first buffers none inside = record {
  end = rw none (omega (arith, inside));
  each = λ k d low. absurd (let low = rw none at low in omega (arith, low));
}

pub one_more_holds : {X : Type 0} (picture : Picture) (first : ℕ) (buffers : List (FramePlanes X)) (next : FramePlanes X) → OneMoreHoldsRows picture first buffers next
one_more_holds {X} picture first buffers next hold inside has =
    let many : length (buffers ++ next ∷ []) ≡ length buffers + 1 = length-append buffers (next ∷ []) in
    record {
      end = omega (arith, many, inside);
      each = λ k d low. elim (cases_lt k (length buffers)) [
        | inl before ↦ subst (λ (f : FramePlanes X). HasFinalRows picture (first + k) f) (sym (get_or-append buffers (next ∷ []) d k before)) (hold.each k d before)
        | inr behind ↦
            let last : length buffers ≡ k = omega (arith, many, low, behind) in
            subst (λ (f : FramePlanes X). HasFinalRows picture (first + k) f) (sym (get_or_push buffers next d k last)) (subst (λ n. HasFinalRows picture (first + n) next) last has)
      ];
    }

---- As the code has it ----

lent_at : {X : Type 0} (lent : List (Bor X)) (k : ℕ) (one : Bor X) → one ≡ get_or lent k one → get_or (map (λ b. b.now) lent) k one.now ≡ one.now
lent_at lent k one is = get_or-map (λ b. b.now) lent k one ∙ sym (ap (λ b. b.now) is)

place_of : (first row many : ℕ) → first ≤ row → row < first + many → (row - first < many) × (first + (row - first) ≡ row)
place_of first row many from to = (omega (arith, from, to), omega (arith, from))

-- the buffer that is looked up has the row
looked_up : {X : Type 0} (picture : Picture) (shape : Shape) (frame first last filled row : ℕ) (lent : List (Bor (FramePlanes X))) (one : Bor (FramePlanes X)) (plane : Plane) (y : ℕ)
    → HoldRows picture first (map (λ b. b.now) lent) → IsFinalWithin picture.shape (rows_from frame first (length lent)) plane y → shape ≡ picture.shape
    → last ≡ superblocks_along (mi_rows shape) - 1 → filled ≡ (y + 8) / band_height shape plane → row ≡ min filled last → one ≡ get_or lent (row - first) one
    → HasFinalRows picture (row_with picture.shape plane y) one.now
looked_up {X} picture shape frame first last filled row lent one plane y hold held same last_is filled_is row_is is =
    let with : ℕ = row_with picture.shape plane y in
    let at : row ≡ with = row_is ∙ (ap (λ n. min n last) filled_is ∙ (ap (λ n. min ((y + 8) / band_height shape plane) n) last_is ∙ ap (λ (s : Shape). row_with s plane y) same)) in
    let place = place_of first with (length lent) held.from held.to in
    let there = lent_at lent (with - first) one (subst (λ n. one ≡ get_or lent (n - first) one) at is) in
    let many = length-map lent (λ b. b.now) in
    let has : HasFinalRows picture (first + (with - first)) (get_or (map (λ b. b.now) lent) (with - first) one.now) = hold.each (with - first) one.now (rw many place.0) in
    subst (λ n. HasFinalRows picture n one.now) place.1 (subst (λ (f : FramePlanes X). HasFinalRows picture (first + (with - first)) f) there has)

-- a row of a plane is there, and is the one that is asked for
pub record IsRead (s : PlaneSamples) (y n : ℕ) (row : List ℕ) : Type 0 where
  pub there : HasRow s.area y 0 n
  pub is : row_of (plane_map s) y 0 n ≡ row

pub row_read : {X : Type 0} (pictures : ℕ → Picture) (shape : Shape) (frame first last filled row n : ℕ) (lent : List (Bor (FramePlanes X))) (one : Bor (FramePlanes X)) (s : PlaneSamples) (plane : Plane) (y : ℕ) (rows : RowSpan)
    → HoldRows (pictures frame) first (map (λ b. b.now) lent) → rows_from frame first (length lent) ≡ rows → held_in pictures rows plane y → shape ≡ (pictures frame).shape
    → last ≡ superblocks_along (mi_rows shape) - 1 → filled ≡ (y + 8) / band_height shape plane → row ≡ min filled last → one ≡ get_or lent (row - first) one
    → s ≡ plane_of (get_or lent (row - first) one).now plane → n ≡ s.area.columns → IsRead s y n (row_of (map_in pictures rows plane) y 0 (width_in pictures rows plane))
row_read pictures shape frame first last filled row n lent one s plane y rows hold are held same last_is filled_is row_is is samples wide =
    let picture : Picture = pictures frame in
    let here : IsFinalWithin picture.shape (rows_from frame first (length lent)) plane y = subst (λ r. held_in pictures r plane y) (sym are) held in
    let has = looked_up picture shape frame first last filled row lent one plane y hold here same last_is filled_is row_is is in
    let final = final_with picture.shape plane y here.inside in
    let plane_is : s ≡ plane_of one.now plane = samples ∙ ap (λ b. plane_of b.now plane) (sym is) in
    record {
      there = row_there picture (row_with picture.shape plane y) y n one.now plane s has final plane_is wide;
      is = subst (λ r. row_of (plane_map s) y 0 n ≡ row_of (map_in pictures r plane) y 0 (width_in pictures r plane)) are
          (row_is_there picture (row_with picture.shape plane y) y n one.now plane s has final plane_is wide);
    }

---- Rows in one piece ----

mid_by : (sub : Bool) (y r n : ℕ) → r < n → ((y + 8) / halved sub 64 ≤ (y + r + 8) / halved sub 64) × ((y + r + 8) / halved sub 64 ≤ (y + 8 + n - 1) / halved sub 64)
mid_by true y r n low = (omega (arith, low), omega (arith, low))
mid_by false y r n low = (omega (arith, low), omega (arith, low))

mid_of : (low mid high last row : ℕ) → low ≤ mid → mid ≤ high → row ≡ min low last → row ≡ min high last → row ≡ min mid last
mid_of low mid high last row up down first end = omega (arith, up, down, first, end)

-- those between the first and the last are made final with them
with_both : (shape : Shape) (plane : Plane) (y r n low high last row : ℕ) → r < n → low ≡ (y + 8) / band_height shape plane → high ≡ (y + 8 + n - 1) / band_height shape plane
    → row ≡ min low last → row ≡ min high last → row ≡ min ((y + r + 8) / band_height shape plane) last
with_both shape plane y r n low high last row less low_is high_is first end =
    let height : band_height shape plane ≡ halved (sub_y shape plane) 64 = same_height shape plane in
    let mid = rw (sym height) at (mid_by (sub_y shape plane) y r n less) in
    mid_of ((y + 8) / band_height shape plane) ((y + r + 8) / band_height shape plane) ((y + 8 + n - 1) / band_height shape plane) last row mid.0 mid.1
    (first ∙ ap (λ k. min k last) low_is) (end ∙ ap (λ k. min k last) high_is)

pub rows_read : {X : Type 0} (pictures : ℕ → Picture) (shape : Shape) (frame first last low high row : ℕ) (lent : List (Bor (FramePlanes X))) (one : Bor (FramePlanes X)) (s : PlaneSamples) (plane : Plane) (y n : ℕ) (rows : RowSpan)
    → HoldRows (pictures frame) first (map (λ b. b.now) lent) → rows_from frame first (length lent) ≡ rows → ((r : ℕ) → r < n → held_in pictures rows plane (y + r)) → shape ≡ (pictures frame).shape
    → last ≡ superblocks_along (mi_rows shape) - 1 → low ≡ (y + 8) / band_height shape plane → high ≡ (y + 8 + n - 1) / band_height shape plane → row ≡ min low last → row ≡ min high last
    → one ≡ get_or lent (row - first) one → s ≡ plane_of (get_or lent (row - first) one).now plane
    → (r : ℕ) → r < n → IsRead s (y + r) s.area.columns (row_of (map_in pictures rows plane) (y + r) 0 (width_in pictures rows plane))
rows_read pictures shape frame first last low high row lent one s plane y n rows hold are held same last_is low_is high_is first_is end_is is samples r less =
    row_read pictures shape frame first last ((y + r + 8) / band_height shape plane) row s.area.columns lent one s plane (y + r) rows hold are (held r less) same last_is refl
    (with_both shape plane y r n low high last row less low_is high_is first_is end_is) is samples refl

row_long : (m : Map) (y w : ℕ) → length (row_of m y 0 w) ≡ w
row_long m y w = length-map-range_with_len (m y) 0 w

row_entry : (m : Map) (y w c : ℕ) → c < w → get_or (row_of m y 0 w) c 0 ≡ m y c
row_entry m y w c low = get_or-map-range_with_len (m y) 0 w c c 0 low (omega arith)

pub read_piece : (m : Map) (s : PlaneSamples) (w y n stride : ℕ) (ys : List ℕ) → 0 < n → ((r : ℕ) → r < n → IsRead s (y + r) s.area.columns (row_of m (y + r) 0 w))
    → IsPiece (plane_map s) s.area.columns y n ys stride → IsPiece m w y n ys stride
read_piece m s w y n stride ys some rows piece =
    let wide : s.area.columns ≡ w = sym (row_long (plane_map s) (y + 0) s.area.columns) ∙ ap (λ (l : List ℕ). length l) (rows 0 some).is ∙ row_long m (y + 0) w in
    record {
      value = λ r c high low.
          let near : c < s.area.columns = omega (arith, wide, low) in
          piece.value r c high near ∙ sym (row_entry (plane_map s) (y + r) s.area.columns c near) ∙ ap (λ (l : List ℕ). get_or l c 0) (rows r high).is ∙ row_entry m (y + r) w c low;
      room = λ r high. omega (arith, wide, piece.room r high);
      near = piece.near;
    }
