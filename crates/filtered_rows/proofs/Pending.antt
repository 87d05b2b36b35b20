-- What a buffer has once the pending rows are copied.
use Rattle.std.proofs.Common.{◌≡◌, ◌∙◌, ◌<◌, ◌≤◌, ◌+◌, ◌*◌, ◌-◌, inl, inr, ℕ, Bool, true, false, List, sym, arith, min, subst}
use Rattle.std.specs.Prelude.{Option, Some, None, Result, Ok, Err, IfOk}
use Rattle.std.proofs.lemmas.Bool.{cases_lt}
use Rattle.std.proofs.lemmas.Bool.Decides.{nat_tests}
use Rattle.vp9_types.specs.Maps.{Map, FrameMap, IsAtMost, rows_of}
use Rattle.vp9_types.specs.Shapes.{halved, coded_width, coded_height}
use Rattle.vp9_types.specs.Sizes.{greatest}
use Rattle.vp9_types.specs.declared.shape.Plane.{Plane}
use Rattle.vp9_types.specs.declared.shape.Plane.TheVariants.{Y, U, V}
use Rattle.vp9_types.specs.declared.shape.Shape.{Shape}
use Rattle.block_plan.specs.declared.block.BlockInfo.{BlockInfo}
use Rattle.planes.specs.Planes.{PlaneSamples, moved_to, plane_map, right_end}
use Rattle.planes.specs.Pictures.{IsInRange, samples_of}
use Rattle.planes.specs.declared.frame_planes.FramePlanes.{FramePlanes}
use Rattle.planes.specs.declared.area.Area.{Area}
use Rattle.plane_parts.specs.PlaneParts.{HasPart}
use Rattle.loop_edges.specs.Cells.{sub_y}
use Rattle.loop_edges.specs.declared.setting.EdgeSetting.{EdgeSetting}
use Rattle.loop_filter.specs.Laws.{HoldsPending}
use Rattle.filter_rows.specs.Buffer.{StandsAt, AwaitsRow, buffer_area}
use Rattle.filter_rows.specs.Code.{KeepsPending}
use Rattle.filtered_rows.specs.Buffers.{StandsAbove, IsFilteredAbove}
use Rattle.filtered_rows.specs.Code.{pending_part}

back : (row : ℕ) → 0 < row → row - 1 + 1 ≡ row
back row some = omega (arith, some)

-- right of its area a plane is 0
zero_right : (s : PlaneSamples) (y x : ℕ) → right_end s.area ≤ x → plane_map s y x ≡ 0
unfolding moved_to rows_of
zero_right s y x past = grind (arith, nat_tests)

zero_past : (shape : Shape) (plane : Plane) (row y x : ℕ) (s : PlaneSamples) → s.area ≡ buffer_area shape plane row → coded_width shape plane ≤ x → plane_map s y x ≡ 0
zero_past shape plane row y x s is past = zero_right s y x (subst (λ (a : Area). right_end a ≤ x) (sym is) (omega (arith, past)))

pub keeps_pending : (shape : Shape) (plane : Plane) (row above : ℕ) (from old new : PlaneSamples) → from.area ≡ buffer_area shape plane above → new.area ≡ buffer_area shape plane row
    → HasPart (pending_part shape plane row) (plane_map from) (plane_map old) (plane_map new) → KeepsPending shape plane row (plane_map from) (plane_map new)
keeps_pending shape plane row above from old new from_is new_is has y x low high = elim (cases_lt x (coded_width shape plane)) [
  | inl inner ↦ has.inside y x (record { below = low; above = omega (arith, low, high); behind = omega arith; before = omega (arith, inner) })
  | inr past ↦ zero_past shape plane row y x new new_is past ∙ sym (zero_past shape plane above y x from from_is past)
]

kept_in : {X : Type 0} (shape : Shape) (row : ℕ) (old new : FramePlanes X) → KeepsPending shape Y row (plane_map old.y) (plane_map new.y) → KeepsPending shape U row (plane_map old.u) (plane_map new.u)
    → KeepsPending shape V row (plane_map old.v) (plane_map new.v) → (plane : Plane) → KeepsPending shape plane row (samples_of old plane) (samples_of new plane)
kept_in shape row old new y u v Y = y
kept_in shape row old new y u v U = u
kept_in shape row old new y u v V = v

abbrev KeepsRange : Map → Map → Map → Type 0
KeepsRange from old new = (most : ℕ) → IsAtMost most from → IsAtMost most old → IsAtMost most new

pub awaits_below : {X : Type 0} (shape : Shape) (row : ℕ) (above old new : FramePlanes X) → StandsAt shape row new → IsInRange shape.depth old
    → KeepsPending shape Y row (plane_map above.y) (plane_map new.y) → KeepsPending shape U row (plane_map above.u) (plane_map new.u) → KeepsPending shape V row (plane_map above.v) (plane_map new.v)
    → KeepsRange (plane_map above.y) (plane_map old.y) (plane_map new.y) → KeepsRange (plane_map above.u) (plane_map old.u) (plane_map new.u) → KeepsRange (plane_map above.v) (plane_map old.v) (plane_map new.v)
    → (f : EdgeSetting) (blocks : List BlockInfo) (raw : FrameMap) → f.shape ≡ shape → IsFilteredAbove f blocks raw row (Some above) → AwaitsRow f blocks raw row new
awaits_below shape row above old new at range ky ku kv ry ru rv f blocks raw same done =
    let kept = subst (λ (s : Shape). (plane : Plane) → KeepsPending s plane row (samples_of above plane) (samples_of new plane)) (sym same) (kept_in shape row above new ky ku kv) in
    let had : HoldsPending f blocks raw row (samples_of above) = subst (λ n. HoldsPending f blocks raw n (samples_of above)) (back row done.0) done.1.rows.pending in
    let old_range = subst (λ (s : Shape). IsInRange s.depth old) (sym same) range in
    record {
      place = subst (λ (s : Shape). StandsAt s row new) (sym same) at;
      range = record {
        y = ry (greatest f.shape.depth) done.1.range.y old_range.y;
        u = ru (greatest f.shape.depth) done.1.range.u old_range.u;
        v = rv (greatest f.shape.depth) done.1.range.v old_range.v;
      };
      pending = λ plane y x low high. kept plane y x low high ∙ had plane y x low high;
    }

-- no row is pending for the first row of superblocks
none_pending : (sub : Bool) (end y : ℕ) → y < min end (halved sub (64 * 0)) → ⊥
none_pending true end y high = omega (arith, high)
none_pending false end y high = omega (arith, high)

none_holds : (f : EdgeSetting) (blocks : List BlockInfo) (raw m : FrameMap) → HoldsPending f blocks raw 0 m
none_holds f blocks raw m plane y x low high = absurd (none_pending (sub_y f.shape plane) (coded_height f.shape plane) y high)

pub awaits_first : {X : Type 0} (shape : Shape) (row : ℕ) (planes : FramePlanes X) → StandsAt shape row planes → IsInRange shape.depth planes
    → (f : EdgeSetting) (blocks : List BlockInfo) (raw : FrameMap) → f.shape ≡ shape → row ≡ 0 → AwaitsRow f blocks raw row planes
awaits_first shape row planes at range f blocks raw same first = record {
  place = subst (λ (s : Shape). StandsAt s row planes) (sym same) at;
  range = subst (λ (s : Shape). IsInRange s.depth planes) (sym same) range;
  pending = subst (λ n. HoldsPending f blocks raw n (samples_of planes)) (sym first) (none_holds f blocks raw (samples_of planes));
}

-- a new buffer awaits the first row
pub new_awaits : {X E : Type 0} (shape : Shape) (row : ℕ) (above : Option (FramePlanes X)) (result : Result (FramePlanes X) E) → StandsAbove shape row above → above ≡ None
    → IfOk result (λ planes. (f : EdgeSetting) (blocks : List BlockInfo) (raw : FrameMap) → f.shape ≡ shape → AwaitsRow f blocks raw 0 planes)
    → IfOk result (λ planes. (f : EdgeSetting) (blocks : List BlockInfo) (raw : FrameMap) → f.shape ≡ shape → IsFilteredAbove f blocks raw row above → AwaitsRow f blocks raw row planes)
new_awaits shape row above (Err e) stands none new = tt
new_awaits {X} shape row above (Ok planes) stands none new =
    let first : row ≡ 0 = subst (λ (o : Option (FramePlanes X)). StandsAbove shape row o) none stands in
    λ f blocks raw same done. subst (λ n. AwaitsRow f blocks raw n planes) (sym first) (new f blocks raw same)
