-- How a strip begins: zeros below the last row of the strip above.
use Rattle.std.proofs.Common.{◌≡◌, ◌<◌, ◌≤◌, ◌+◌, ◌-◌, ◌*◌, ℕ, suc, true, false, Bool, inl, inr, refl, sym, ◌∙◌, ap, subst, arith, min}
use Rattle.std.specs.Prelude.{nat_eq, if◌then◌else◌, Option, Some, None, IfSome, List}
use Rattle.std.proofs.lemmas.Bool.{cases_Bool, cases_eq, cases_lt, eq-eqb, ne_eqb}
use Rattle.std.proofs.lemmas.Bool.Decides.{nat_tests}
use Rattle.vp9_types.specs.Maps.{Map, rows_of}
use Rattle.vp9_types.specs.Shapes.{coded_height, halved, is_chroma, mi_rows}
use Rattle.vp9_types.specs.Sizes.{greatest, superblocks_along}
use Rattle.vp9_types.specs.declared.shape.Depth.{Depth}
use Rattle.vp9_types.specs.declared.shape.Plane.{Plane}
use Rattle.vp9_types.specs.declared.shape.Plane.TheVariants.{Y, U, V}
use Rattle.vp9_types.specs.declared.shape.Shape.{Shape}
use Rattle.block_plan.specs.Planned.{PlannedBlock}
use Rattle.inter_places.specs.Places.{is_subsampled, coded_length}
use Rattle.inter_places.specs.declared.part.Direction.TheVariants.{Down, Across}
use Rattle.planes.specs.Planes.{PlaneSamples, lower_end, moved_to, plane_map, right_end}
use Rattle.planes.specs.Pictures.{IsInRange, blank, samples_of}
use Rattle.planes.specs.declared.area.Area.{Area}
use Rattle.planes.specs.declared.frame_planes.FramePlanes.{FramePlanes}
use Rattle.planes.proofs.PlaneLemmas.{zeros_small}
use Rattle.plane_parts.specs.PlaneParts.{HasPart, IsInArea, LiesIn}
use Rattle.plane_parts.proofs.PartLemmas.{in_area_or_out, part_small}
use Rattle.block_rebuild.specs.InterBlocks.{Rebuilding}
use Rattle.block_rebuild.specs.Laws.{SameFrameAround}
use Rattle.block_rebuild.specs.Strips.{IsAround, IsIn, above_strip, in_plane, strip, strip_area, strip_places}
use Rattle.recon_rows.specs.Code.{Begins, BeginsBelow, ShareFirstRows, SharesFirstRow, first_row_of}
use Rattle.recon_rows.specs.OwnStrips.{HasStripAreas, HoldsStrip}

---- Where strips lie ----

-- right of its area a plane is 0
zero_right : (s : PlaneSamples) (y x : ℕ) → right_end s.area ≤ x → plane_map s y x ≡ 0
unfolding moved_to rows_of
zero_right s y x past = grind (arith, nat_tests)

-- a row of superblocks begins below the one before it
tops_rise : (ss : Bool) (q : ℕ) → halved ss (8 * (8 * q)) < halved ss (8 * (8 * (q + 1)))
tops_rise true q = omega arith
tops_rise false q = omega arith

-- and inside of the plane
half_inside : (ss : Bool) (r rows : ℕ) → r < superblocks_along rows → halved ss (8 * (8 * r)) < halved ss (8 * rows)
half_inside true r rows low = omega (arith, low)
half_inside false r rows low = omega (arith, low)

top_inside : (shape : Shape) (p : Plane) (r : ℕ) → r < superblocks_along (mi_rows shape) → halved (is_subsampled shape p Down) (8 * (8 * r)) < coded_length shape p Down
top_inside shape Y r low = half_inside false r (mi_rows shape) low
top_inside shape U r low = half_inside shape.ss_y r (mi_rows shape) low
top_inside shape V r low = half_inside shape.ss_y r (mi_rows shape) low

-- the first row of a strip is the last one of the strip above
row_shared : (high top end coded : ℕ) → high < top → top < end → top < coded
    → (0 < min coded end - (top - 1)) × ((high - 1 ≤ top - 1) × (top - 1 + 1 ≤ high - 1 + (min coded top - (high - 1))))
row_shared high top end coded rise inner low = (omega (arith, rise, inner, low), (omega (arith, rise), omega (arith, rise, low)))

shares_next : (shape : Shape) (p : Plane) (from to q : ℕ) → q + 1 < superblocks_along (mi_rows shape) → SharesFirstRow (strip_area shape p from to (q + 1)) (strip_area shape p from to q)
shares_next shape p from to q low =
    let ss = is_subsampled shape p Down in
    let told = row_shared (halved ss (8 * (8 * q))) (halved ss (8 * (8 * (q + 1)))) (halved ss (8 * (8 * (q + 1 + 1)))) (coded_length shape p Down)
    (tops_rise ss q) (tops_rise ss (q + 1)) (top_inside shape p (q + 1) low) in record {
      some = told.0;
      lies = record { top = told.1.0; bottom = told.1.1; left = omega arith; right = omega arith };
    }

shares : (shape : Shape) (p : Plane) (from to q r : ℕ) (a above : Area) → r ≡ q + 1 → r < superblocks_along (mi_rows shape) → a ≡ strip_area shape p from to r → above ≡ strip_area shape p from to q
    → SharesFirstRow a above
shares shape p from to q r a above next low is its =
    let at : a ≡ strip_area shape p from to (q + 1) = is ∙ ap (strip_area shape p from to) next in
    rw (at, its) (shares_next shape p from to q (omega (arith, next, low)))

pub all_share : {X : Type 0} (put : Rebuilding) (from to r : ℕ) (column : List PlannedBlock) (f above : FramePlanes X) → 0 < r → r < superblocks_along (mi_rows put.shape)
    → HasStripAreas put.shape from to r f → HoldsStrip put from to (r - 1) column above → ShareFirstRows f above
all_share put from to r column f above some low areas held =
    let next : r ≡ r - 1 + 1 = omega (arith, some) in record {
      y = shares put.shape Y from to (r - 1) r f.y.area above.y.area next low areas.y held.areas.y;
      u = shares put.shape U from to (r - 1) r f.u.area above.u.area next low areas.u held.areas.u;
      v = shares put.shape V from to (r - 1) r f.v.area above.v.area next low areas.v held.areas.v;
    }

---- What stands above a strip ----

-- a plane of a strip that begins below another one has around its places what the other one has in its last row
row_begun : (shape : Shape) (p : Plane) (from to q : ℕ) (above : PlaneSamples) (new s : Map) → above.area ≡ strip_area shape p from to q
    → HasPart (first_row_of (strip_area shape p from to (q + 1))) (plane_map above) (λ _ _. 0) new
    → ((y x : ℕ) → IsIn (in_plane shape p (strip_places from to q)) y x → plane_map above y x ≡ s y x)
    → (y x : ℕ) → IsAround (in_plane shape p (strip_places from to (q + 1))) y x
    → new y x ≡ (if nat_eq (y + 1) (halved (is_subsampled shape p Down) (8 * (8 * (q + 1)))) then s y x else 0)
row_begun shape p from to q above new s its has same y x near =
    let top : ℕ = halved (is_subsampled shape p Down) (8 * (8 * (q + 1))) in
    let rise : halved (is_subsampled shape p Down) (8 * (8 * q)) < top = tops_rise (is_subsampled shape p Down) q in
    let least : top ≤ y + 1 = near.below in
    let row : Area = first_row_of (strip_area shape p from to (q + 1)) in
    elim (cases_eq (y + 1) top) [
      | inl last ↦
          let last_one : y + 1 ≡ top = last in
          let inner : IsIn (in_plane shape p (strip_places from to q)) y x = record { below = omega (arith, rise, last_one); above = omega (arith, last_one); behind = near.behind; before = near.before } in
          rw (eq-eqb (y + 1) top last) (elim (cases_lt x (right_end row)) [
            | inl before ↦ has.inside y x (record { below = omega (arith, last_one); above = omega (arith, last_one, rise); behind = near.behind; before = before }) ∙ same y x inner
            | inr past ↦
                let out : right_end above.area ≤ x = rw its past in
                has.outside y x (λ i. (let before = i.before in omega (arith, before, past))) ∙ (sym (zero_right above y x out) ∙ same y x inner)
          ])
      | inr other ↦
          let apart : y + 1 ≡ top → ⊥ = other in
          rw (ne_eqb (y + 1) top other) (has.outside y x (λ i. (let low = i.below in let high = i.above in absurd (apart (omega (arith, low, high, least, rise))))))
    ]

plane_begun : (shape : Shape) (p : Plane) (from to q r : ℕ) (above new : PlaneSamples) (s : Map) → r ≡ q + 1 → new.area ≡ strip_area shape p from to r → above.area ≡ strip_area shape p from to q
    → HasPart (first_row_of new.area) (plane_map above) (λ _ _. 0) (plane_map new)
    → ((y x : ℕ) → IsIn (in_plane shape p (strip_places from to q)) y x → plane_map above y x ≡ s y x)
    → (y x : ℕ) → IsAround (in_plane shape p (strip_places from to r)) y x
    → plane_map new y x ≡ (if nat_eq (y + 1) (halved (is_subsampled shape p Down) (8 * (8 * (q + 1)))) then s y x else 0)
plane_begun shape p from to q r above new s next is its has same y x near =
    row_begun shape p from to q above (plane_map new) s its
    (subst (λ (a : Area). HasPart (first_row_of a) (plane_map above) (λ _ _. 0) (plane_map new)) (is ∙ ap (strip_area shape p from to) next) has) same y x
    (subst (λ n. IsAround (in_plane shape p (strip_places from to n)) y x) next near)

-- as a strip asks for what stands above it
below_another : {X : Type 0} (put : Rebuilding) (from to q r : ℕ) (column : List PlannedBlock) (above f : FramePlanes X) → r ≡ q + 1 → HasStripAreas put.shape from to r f
    → HoldsStrip put from to q column above → BeginsBelow above f
    → (p : Plane) (y x : ℕ) → IsAround (in_plane put.shape p (strip_places from to r)) y x
    → samples_of f p y x ≡ (if nat_eq (y + 1) (halved (is_subsampled put.shape p Down) (8 * (8 * (q + 1)))) then strip put column q p y x else 0)
below_another put from to q r column above f next areas held has Y y x near =
    plane_begun put.shape Y from to q r above.y f.y (strip put column q Y) next areas.y held.areas.y has.y (held.samples Y) y x near
below_another put from to q r column above f next areas held has U y x near =
    plane_begun put.shape U from to q r above.u f.u (strip put column q U) next areas.u held.areas.u has.u (held.samples U) y x near
below_another put from to q r column above f next areas held has V y x near =
    plane_begun put.shape V from to q r above.v f.v (strip put column q V) next areas.v held.areas.v has.v (held.samples V) y x near

above_next : (put : Rebuilding) (column : List PlannedBlock) (q r : ℕ) (p : Plane) (y x : ℕ) → r ≡ q + 1
    → (if nat_eq (y + 1) (halved (is_subsampled put.shape p Down) (8 * (8 * (q + 1)))) then strip put column q p y x else 0) ≡ above_strip put column r p y x
above_next put column q r p y x next =
    let is : suc q ≡ r = omega (arith, next) in
    ap (λ n. above_strip put column n p y x) is

pub begun_below : {X : Type 0} (put : Rebuilding) (from to r : ℕ) (column : List PlannedBlock) (above f : FramePlanes X) → 0 < r → HasStripAreas put.shape from to r f
    → HoldsStrip put from to (r - 1) column above → BeginsBelow above f → SameFrameAround put.shape (strip_places from to r) (samples_of f) (above_strip put column r)
begun_below put from to r column above f some areas held has p y x near =
    let next : r ≡ r - 1 + 1 = omega (arith, some) in
    below_another put from to (r - 1) r column above f next areas held has p y x near ∙ above_next put column (r - 1) r p y x next

pub begun_first : {X : Type 0} (put : Rebuilding) (from to r : ℕ) (column : List PlannedBlock) (f : FramePlanes X) → r ≡ 0 → samples_of f ≡ blank
    → SameFrameAround put.shape (strip_places from to r) (samples_of f) (above_strip put column r)
begun_first put from to r column f is zero p y x near =
    ap (λ (m : Plane → Map). m p y x) zero ∙ ap (λ n. above_strip put column n p y x) (sym is)

---- Its range ----

pub zeros_in_range : {X : Type 0} (depth : Depth) (f : FramePlanes X) → samples_of f ≡ blank → IsInRange depth f
zeros_in_range depth f zero = record {
  y = zeros_small (greatest depth) (plane_map f.y) (ap (λ (m : Plane → Map). m Y) zero);
  u = zeros_small (greatest depth) (plane_map f.u) (ap (λ (m : Plane → Map). m U) zero);
  v = zeros_small (greatest depth) (plane_map f.v) (ap (λ (m : Plane → Map). m V) zero);
}

pub below_in_range : {X : Type 0} (depth : Depth) (above f : FramePlanes X) → IsInRange depth above → BeginsBelow above f → IsInRange depth f
below_in_range depth above f range has = record {
  y = part_small (first_row_of f.y.area) (plane_map above.y) (λ _ _. 0) (plane_map f.y) has.y (greatest depth) range.y (zeros_small (greatest depth) (λ _ _. 0) refl);
  u = part_small (first_row_of f.u.area) (plane_map above.u) (λ _ _. 0) (plane_map f.u) has.u (greatest depth) range.u (zeros_small (greatest depth) (λ _ _. 0) refl);
  v = part_small (first_row_of f.v.area) (plane_map above.v) (λ _ _. 0) (plane_map f.v) has.v (greatest depth) range.v (zeros_small (greatest depth) (λ _ _. 0) refl);
}
