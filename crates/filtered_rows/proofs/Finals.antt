-- Which row of superblocks makes a row final, and what its buffer has there.
use Rattle.std.proofs.Common.{◌≡◌, ◌∙◌, ◌<◌, ◌≤◌, ◌+◌, ◌*◌, ◌-◌, ◌/◌, inl, inr, ℕ, zero, suc, ◌∷◌, Bool, true, false, List, map, refl, sym, ap, arith, min, subst}
use Rattle.std.specs.List.{range_with_len}
use Rattle.std.proofs.lemmas.Bool.{cases_lt, lt-ltb, le-ltb}
use Rattle.vp9_types.specs.Maps.{FrameMap, row_of}
use Rattle.vp9_types.specs.Shapes.{halved, mi_rows, coded_width, coded_height}
use Rattle.vp9_types.specs.Sizes.{superblocks_along}
use Rattle.vp9_types.specs.declared.shape.Plane.{Plane}
use Rattle.vp9_types.specs.declared.shape.Plane.TheVariants.{Y, U, V}
use Rattle.vp9_types.specs.declared.shape.Shape.{Shape}
use Rattle.block_plan.specs.declared.block.BlockInfo.{BlockInfo}
use Rattle.planes.specs.Planes.{PlaneSamples, HasRow, plane_map}
use Rattle.planes.specs.Pictures.{plane_of, samples_of}
use Rattle.planes.specs.declared.area.Area.{Area}
use Rattle.planes.specs.declared.frame_planes.FramePlanes.{FramePlanes}
use Rattle.band_cells.specs.Bands.{Picture}
use Rattle.loop_edges.specs.Cells.{sub_y}
use Rattle.loop_edges.specs.declared.setting.EdgeSetting.{EdgeSetting}
use Rattle.loop_filter.proofs.Sides as sides
use Rattle.filter_rows.specs.Buffer.{StandsAt, buffer_area}
use Rattle.filter_rows.specs.Laws.{BecomesFinal}
use Rattle.filter_rows.proofs.Bands.{same_height, ends_low, final_rows_held}
use Rattle.filtered_rows.specs.BufferRows.{row_with, HasFinalRows}
use Rattle.filtered_rows.specs.Laws.{BecomesFinalWith, FilteredIsFinal}

---- By the height of a row of superblocks ----

abbrev with_height : ℕ → ℕ → ℕ → ℕ
with_height height rows y = min ((y + 8) / height) (rows - 1)

from_by : (sub : Bool) (rows y : ℕ) → halved sub (64 * with_height (halved sub 64) rows y) - 8 ≤ y
from_by true rows y = omega arith
from_by false rows y = omega arith

-- not the last one
to_by : (sub : Bool) (rows y : ℕ) → with_height (halved sub 64) rows y + 1 < rows → y < halved sub (64 * (with_height (halved sub 64) rows y + 1)) - 8
to_by true rows y more = omega (arith, more)
to_by false rows y more = omega (arith, more)

-- the last one
end_by : (sub : Bool) (end places y : ℕ) → end ≡ halved sub (8 * places) → y < end → superblocks_along places ≤ with_height (halved sub 64) (superblocks_along places) y + 1
    → y < min end (halved sub (64 * (with_height (halved sub 64) (superblocks_along places) y + 1)))
end_by true end places y is inside last = omega (arith, is, inside, last)
end_by false end places y is inside last = omega (arith, is, inside, last)

row_is_with : (shape : Shape) (plane : Plane) (y : ℕ) → row_with shape plane y ≡ with_height (halved (sub_y shape plane) 64) (superblocks_along (mi_rows shape)) y
row_is_with shape plane y = rw (same_height shape plane) refl

final_by : (shape : Shape) (plane : Plane) (y sr : ℕ) → sr ≡ with_height (halved (sub_y shape plane) 64) (superblocks_along (mi_rows shape)) y → y < coded_height shape plane → BecomesFinal shape plane sr y
final_by shape plane y sr is inside =
    let sub = sub_y shape plane in
    let rows = superblocks_along (mi_rows shape) in
    record {
      from = rw is (from_by sub rows y);
      to = elim (cases_lt (sr + 1) rows) [
        | inl more ↦ rw (lt-ltb (sr + 1) rows more) (rw is (to_by sub rows y (rw is at more)))
        | inr last ↦ rw (le-ltb (sr + 1) rows last) (rw is (end_by sub (coded_height shape plane) (mi_rows shape) y (sides.high shape plane) inside (rw is at last)))
      ];
    }

pub final_with : (shape : Shape) (plane : Plane) (y : ℕ) → y < coded_height shape plane → BecomesFinal shape plane (row_with shape plane y) y
final_with shape plane y inside = final_by shape plane y (row_with shape plane y) (row_is_with shape plane y) inside

---- No other one does ----

alone_more : (sub : Bool) (rows sr y : ℕ) → sr + 1 < rows → halved sub (64 * sr) - 8 ≤ y → y < halved sub (64 * (sr + 1)) - 8 → sr ≡ with_height (halved sub 64) rows y
alone_more true rows sr y more from to = omega (arith, more, from, to)
alone_more false rows sr y more from to = omega (arith, more, from, to)

alone_last : (sub : Bool) (rows sr y : ℕ) → sr < rows → rows ≤ sr + 1 → halved sub (64 * sr) - 8 ≤ y → sr ≡ with_height (halved sub 64) rows y
alone_last true rows sr y low last from = omega (arith, low, last, from)
alone_last false rows sr y low last from = omega (arith, low, last, from)

alone_with : (shape : Shape) (plane : Plane) (y sr : ℕ) → sr < superblocks_along (mi_rows shape) → BecomesFinal shape plane sr y → sr ≡ row_with shape plane y
alone_with shape plane y sr low final =
    let sub = sub_y shape plane in
    let rows = superblocks_along (mi_rows shape) in
    elim (cases_lt (sr + 1) rows) [
      | inl more ↦ alone_more sub rows sr y more final.from (rw (lt-ltb (sr + 1) rows more) at final.to) ∙ sym (row_is_with shape plane y)
      | inr last ↦ alone_last sub rows sr y low last final.from ∙ sym (row_is_with shape plane y)
    ]

pub becomes_final_with : (shape : Shape) (plane : Plane) (y : ℕ) → BecomesFinalWith shape plane y
becomes_final_with shape plane y = record { final = final_with shape plane y; alone = alone_with shape plane y }

---- What a buffer has ----

in_frame : (shape : Shape) (plane : Plane) (sr y : ℕ) → BecomesFinal shape plane sr y → y < coded_height shape plane
in_frame shape plane sr y final = let low = ends_low shape plane sr y final.to in omega (arith, low)

pub filtered_is_final : {X : Type 0} (f : EdgeSetting) (blocks : List BlockInfo) (raw : FrameMap) (picture : Picture) (sr : ℕ) (planes : FramePlanes X) → FilteredIsFinal f blocks raw picture sr planes
filtered_is_final f blocks raw picture sr planes of done = record {
  place = subst (λ (s : Shape). StandsAt s sr planes) of.shape done.place;
  final = λ plane y x final inner.
      let now = subst (λ (s : Shape). BecomesFinal s plane sr y) (sym of.shape) final in
      done.rows.final plane y x now.from now.to
      ∙ sym (of.map plane y x (in_frame f.shape plane sr y now) (subst (λ (s : Shape). x < coded_width s plane) (sym of.shape) inner));
}

area_at : {X : Type 0} (shape : Shape) (sr : ℕ) (planes : FramePlanes X) (plane : Plane) → StandsAt shape sr planes → (plane_of planes plane).area ≡ buffer_area shape plane sr
area_at shape sr planes Y at = at.y
area_at shape sr planes U at = at.u
area_at shape sr planes V at = at.v

maps_agree : {X : Type 0} (planes : FramePlanes X) (plane : Plane) → samples_of planes plane ≡ plane_map (plane_of planes plane)
maps_agree planes Y = refl
maps_agree planes U = refl
maps_agree planes V = refl

mapped_range : {X : Type 0} (f g : ℕ → X) (a n : ℕ) → ((k : ℕ) → a ≤ k → k < a + n → f k ≡ g k) → map f (range_with_len a n) ≡ map g (range_with_len a n)
mapped_range f g a zero same = refl
mapped_range f g a (suc n) same =
    ap (λ x. x ∷ map f (range_with_len (a + 1) n)) (same a (omega arith) (omega arith))
    ∙ ap (λ l. g a ∷ l) (mapped_range f g (a + 1) n (λ k low high. same k (omega arith) (omega arith)))

-- the row is there
pub row_there : {X : Type 0} (picture : Picture) (sr y n : ℕ) (planes : FramePlanes X) (plane : Plane) (s : PlaneSamples) → HasFinalRows picture sr planes → BecomesFinal picture.shape plane sr y
    → s ≡ plane_of planes plane → n ≡ s.area.columns → HasRow s.area y 0 n
row_there picture sr y n planes plane s has final is wide =
    let area : s.area ≡ buffer_area picture.shape plane sr = ap (λ (p : PlaneSamples). p.area) is ∙ area_at picture.shape sr planes plane has.place in
    rw (wide, area) (final_rows_held picture.shape plane sr y final)

-- and is the picture's
pub row_is_there : {X : Type 0} (picture : Picture) (sr y n : ℕ) (planes : FramePlanes X) (plane : Plane) (s : PlaneSamples) → HasFinalRows picture sr planes → BecomesFinal picture.shape plane sr y
    → s ≡ plane_of planes plane → n ≡ s.area.columns → row_of (plane_map s) y 0 n ≡ row_of (picture.map plane) y 0 (coded_width picture.shape plane)
row_is_there picture sr y n planes plane s has final is wide =
    let area : s.area ≡ buffer_area picture.shape plane sr = ap (λ (p : PlaneSamples). p.area) is ∙ area_at picture.shape sr planes plane has.place in
    let all : n ≡ coded_width picture.shape plane = wide ∙ ap (λ (a : Area). a.columns) area in
    let here : (x : ℕ) → plane_map s y x ≡ samples_of planes plane y x = λ x. ap (λ (p : PlaneSamples). plane_map p y x) is ∙ ap (λ m. m y x) (sym (maps_agree planes plane)) in
    rw all (mapped_range (plane_map s y) (picture.map plane y) 0 (coded_width picture.shape plane) (λ x low high. here x ∙ has.final plane y x final (omega (arith, high))))
