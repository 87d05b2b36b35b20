-- A block's level is that of its segment and kind; the limits of a level.
use Rattle.std.proofs.Common.{◌≡◌, ◌≤◌, arith, refl, ap, pos, ◌+ℤ◌, ◌*ℤ◌, ◌^◌, ◌/◌, ◌+◌, ℕ, ℤ}
use Rattle.std.specs.Prelude.{slice_index_or, if◌then◌else◌}
use Rattle.vp9_types.specs.declared.block.InterMode.{InterMode}
use Rattle.vp9_types.specs.declared.block.InterMode.TheVariants.{Nearest, Near, Zero, New}
use Rattle.vp9_types.specs.declared.block.ReferenceFrame.{ReferenceFrame}
use Rattle.vp9_types.specs.declared.block.ReferenceFrame.TheVariants.{Last, Golden, Altref}
use Rattle.vp9_types.specs.declared.shape.Depth.{Depth}
use Rattle.vp9_types.specs.declared.shape.Depth.TheVariants as depth
use Rattle.frame_headers.specs.declared.filter.LoopDeltas.{LoopDeltas}
use Rattle.block_plan.specs.declared.block.BlockInfo.{BlockInfo}
use Rattle.block_plan.specs.declared.block.Prediction.{Prediction}
use Rattle.block_plan.specs.declared.block.Prediction.TheVariants.{Intra, Inter}
use Rattle.loop_edges.specs.FilterLevels.{reference_delta, mode_delta_index, mode_delta, delta_of, lvl_seg, to_level, filter_level, limits_of}
use Rattle.loop_edges.specs.Code.{reference_kind, kind_of, delta_by, level_by}
use Rattle.loop_edges.specs.declared.setting.EdgeSetting.{EdgeSetting}

by_parts : (d : LoopDeltas) (r : ReferenceFrame) (m : InterMode) → (reference_delta d r +ℤ mode_delta d m) ≡ delta_by d (reference_kind r + mode_delta_index m)
by_parts d Last Zero = refl
by_parts d Last Nearest = refl
by_parts d Last Near = refl
by_parts d Last New = refl
by_parts d Golden Zero = refl
by_parts d Golden Nearest = refl
by_parts d Golden Near = refl
by_parts d Golden New = refl
by_parts d Altref Zero = refl
by_parts d Altref Nearest = refl
by_parts d Altref Near = refl
by_parts d Altref New = refl

delta_is : (d : LoopDeltas) (p : Prediction) → delta_of d p ≡ delta_by d (kind_of p)
delta_is d (Intra modes) = refl
delta_is d (Inter b) = by_parts d b.references.first (slice_index_or b.modes 3 New)

pub level_is : (f : EdgeSetting) (b : BlockInfo) → filter_level f b ≡ level_by f b.segment (kind_of b.prediction)
unfolding filter_level level_by
level_is f b = ap (λ (z : ℤ). if f.filter.delta_enabled
    then to_level (pos (lvl_seg f b.segment) +ℤ z *ℤ pos (2 ^ (f.filter.level / 32))) else lvl_seg f b.segment) (delta_is f.filter.deltas b.prediction)

pub half_low : (d : Depth) (sharpness level : ℕ) → (limits_of d sharpness level).half ≤ 2048
unfolding limits_of
half_low depth.Eight sharpness level = omega arith
half_low depth.Ten sharpness level = omega arith
half_low depth.Twelve sharpness level = omega arith
