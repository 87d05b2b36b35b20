-- The motion vector scaling process (8.5.2.3 of the standard) along one direction: the names are those of x, and y has the same
-- formulas. REF_SCALE_SHIFT is 14, SUBPEL_BITS 4, SUBPEL_MASK 15.
use Rattle.std.specs.Prelude.{ℕ, ◌+◌, ◌*◌, ◌/◌, ◌%◌, ◌^◌, ◌≤◌, ◌<◌, ℤ, pos, ◌+ℤ◌, ◌*ℤ◌, Bool, if◌then◌else◌}
use Rattle.std.specs.Int.{int_shr}
use Rattle.vp9_types.specs.Shapes.{halved}
use Rattle.inter_places.specs.PlaneVectors.{clamped_vector}
use Rattle.inter_places.specs.declared.axis.Axis.{Axis}
use Rattle.inter_places.specs.declared.span.BlockSpan.{BlockSpan}

-- xScale = (RefFrameWidth << REF_SCALE_SHIFT) / FrameWidth
abbrev pub x_scale : ℕ → ℕ → ℕ
x_scale reference own = reference * 2 ^ 14 / own

-- baseX = (x * xScale) >> REF_SCALE_SHIFT
abbrev pub base_x : ℕ → ℕ → ℕ
base_x scale x = x * scale / 2 ^ 14

-- lumaX = x << subsampling_x in chroma, else x
abbrev pub luma_x : Bool → ℕ → ℕ
luma_x ss x = if ss then 2 * x else x

-- fracX = ((16 * lumaX * xScale) >> REF_SCALE_SHIFT) & SUBPEL_MASK
abbrev pub frac_x : ℕ → ℕ → ℕ
frac_x scale luma = 16 * luma * scale / 2 ^ 14 % 16

-- dX = ((clampMv * xScale) >> REF_SCALE_SHIFT) + fracX
abbrev pub d_x : ℕ → ℕ → ℤ → ℤ
d_x scale luma mv = int_shr (mv *ℤ pos scale) 14 +ℤ pos (frac_x scale luma)

-- startX = (baseX << SUBPEL_BITS) + dX, of a place in a plane, which may be subsampled, and a clamped vector
abbrev pub start_x : ℕ → Bool → ℕ → ℤ → ℤ
start_x scale ss x mv = pos (16 * base_x scale x) +ℤ d_x scale (luma_x ss x) mv

-- stepX = (16 * xScale) >> REF_SCALE_SHIFT: 16 where both have one size
abbrev pub step_x : ℕ → ℕ
step_x scale = 16 * scale / 2 ^ 14

-- a block's first sample in the plane
abbrev pub span_start : BlockSpan → ℕ
span_start s = halved s.ss (8 * s.first)

-- where a part is predicted from that begins so many samples after its block's first
abbrev pub axis_of : BlockSpan → ℕ → ℤ → ℕ → ℕ → Axis
axis_of s offset_in_block mv scale size = record {
  start = start_x scale s.ss (span_start s + offset_in_block) (clamped_vector s mv);
  step = step_x scale;
  size = size;
}

-- a reference is at most twice as large and at most 16 times as small as the frame
pub record IsInScale (reference own : ℕ) : Type 0 where
  pub some : 0 < own
  pub near : reference ≤ 65536
  pub large : reference ≤ 2 * own
  pub small : own ≤ 16 * reference
