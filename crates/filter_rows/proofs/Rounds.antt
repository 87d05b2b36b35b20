-- What the buffer has while a row of superblocks is put in and filtered.
use Rattle.std.proofs.Common.{◌≡◌, ◌<◌, ◌*◌, ◌-◌, ℕ, Bool, true, false, sym, ◌∙◌, arith, List, min, subst}
use Rattle.vp9_types.specs.Maps.{FrameMap}
use Rattle.vp9_types.specs.Shapes.{halved, coded_height}
use Rattle.vp9_types.specs.declared.shape.Plane.{Plane}
use Rattle.vp9_types.specs.declared.shape.Plane.TheVariants.{Y, U, V}
use Rattle.vp9_types.specs.declared.shape.Shape.{Shape}
use Rattle.block_plan.specs.declared.block.BlockInfo.{BlockInfo}
use Rattle.planes.specs.Planes.{plane_map}
use Rattle.planes.specs.Pictures.{IsInRange, samples_of, blank}
use Rattle.planes.specs.declared.frame_planes.FramePlanes.{FramePlanes}
use Rattle.planes.proofs.PictureLemmas.{blank_in_range}
use Rattle.loop_edges.specs.Cells.{sub_y}
use Rattle.loop_edges.specs.declared.setting.EdgeSetting.{EdgeSetting}
use Rattle.loop_filter.specs.Code.{HasAreasOf}
use Rattle.loop_filter.specs.Laws.{IsNextOf}
use Rattle.filter_rows.specs.Buffer.{StandsAt, AwaitsRow, HasFiltered}
use Rattle.filter_rows.specs.Code.{HasPut}

-- no row is pending for the first row of superblocks
none_pending : (sub : Bool) (end y : ℕ) → y < min end (halved sub (64 * 0)) → ⊥
none_pending true end y high = omega (arith, high)
none_pending false end y high = omega (arith, high)

pub first_row : {X : Type 0} (shape : Shape) (f : EdgeSetting) (blocks : List BlockInfo) (raw : FrameMap) (planes : FramePlanes X) → f.shape ≡ shape → StandsAt shape 0 planes
    → samples_of planes ≡ blank → AwaitsRow f blocks raw 0 planes
first_row shape f blocks raw planes same at zero = record {
  place = subst (λ (s : Shape). StandsAt s 0 planes) (sym same) at;
  range = blank_in_range f.shape.depth planes zero;
  pending = λ plane y x low high. absurd (none_pending (sub_y f.shape plane) (coded_height f.shape plane) y high);
}

put_in : {X : Type 0} (shape : Shape) (sr : ℕ) (raw : FrameMap) (old new : FramePlanes X) → HasPut shape Y sr (raw Y) (plane_map old.y) (plane_map new.y)
    → HasPut shape U sr (raw U) (plane_map old.u) (plane_map new.u) → HasPut shape V sr (raw V) (plane_map old.v) (plane_map new.v)
    → (plane : Plane) → HasPut shape plane sr (raw plane) (samples_of old plane) (samples_of new plane)
put_in shape sr raw old new y u v Y = y
put_in shape sr raw old new y u v U = u
put_in shape sr raw old new y u v V = v

pub put_stands : {X : Type 0} (shape : Shape) (sr : ℕ) (old mid : FramePlanes X) → StandsAt shape sr old → mid.y.area ≡ old.y.area → mid.u.area ≡ old.u.area → mid.v.area ≡ old.v.area
    → StandsAt shape sr mid
put_stands shape sr old mid at y u v = record { y = y ∙ at.y; u = u ∙ at.u; v = v ∙ at.v }

pub filtered_in : {X : Type 0} (f : EdgeSetting) (blocks : List BlockInfo) (raw : FrameMap) (sr : ℕ) (old mid new : FramePlanes X) → AwaitsRow f blocks raw sr old → StandsAt f.shape sr mid
    → HasPut f.shape Y sr (raw Y) (plane_map old.y) (plane_map mid.y) → HasPut f.shape U sr (raw U) (plane_map old.u) (plane_map mid.u)
    → HasPut f.shape V sr (raw V) (plane_map old.v) (plane_map mid.v) → HasAreasOf mid new → IsInRange f.shape.depth new
    → IsNextOf f blocks sr (samples_of mid) (samples_of new) → HasFiltered f blocks raw sr new
filtered_in f blocks raw sr old mid new awaits at py pu pv same range next =
    let put = put_in f.shape sr raw old mid py pu pv in
    record {
      place = record { y = same.y ∙ at.y; u = same.u ∙ at.u; v = same.v ∙ at.v };
      range = range;
      rows = next raw (λ plane y x low high. (put plane).above y x high ∙ awaits.pending plane y x low high) (λ plane y x low high. (put plane).put y x low high);
    }
