-- Vectors of a block in a plane, in sixteenths of the plane's samples (8.5.2.1 and 8.5.2.2 of the standard: motion vector
-- selection and clamping).
use Rattle.std.specs.Prelude.{ℕ, ◌+◌, ◌*◌, ◌/◌, ◌≤◌, ◌<◌, ℤ, pos, negsuc, neg_ℤ, ◌+ℤ◌, ◌-ℤ◌, ◌*ℤ◌, Bool, true, false, if◌then◌else◌}
use Rattle.vp9_types.specs.Shapes.{halved}
use Rattle.block_plan.specs.BlockMvs.{clip3}
use Rattle.block_plan.specs.declared.block.Mv.{Mv}
use Rattle.inter_places.specs.declared.span.BlockSpan.{BlockSpan}
use Rattle.inter_places.specs.declared.part.Direction.{Direction}
use Rattle.inter_places.specs.declared.part.Direction.TheVariants.{Down, Across}

-- the mean of n numbers, of their sum: rounded, halves away from 0
abbrev pub vector_mean : ℕ → ℤ → ℤ
vector_mean n (pos sum) = pos ((sum + n / 2) / n)
vector_mean n (negsuc sum) = neg_ℤ (pos ((sum + 1 + n / 2) / n))

abbrev pub component : Direction → Mv → ℤ
component Down v = v.row
component Across v = v.column

-- what a 4x4 of a plane takes: the mean of the vectors of the quarters that it covers, by its number in the plane
abbrev pub mean_vector : Bool → Bool → ℕ → (ℕ → ℤ) → ℤ
mean_vector false false n vector = vector n
mean_vector true false n vector = vector_mean 2 (vector n +ℤ vector (n + 1))
mean_vector false true n vector = vector_mean 2 (vector n +ℤ vector (n + 2))
mean_vector true true n vector = vector_mean 4 ((vector 0 +ℤ vector 1) +ℤ (vector 2 +ℤ vector 3))

-- vectors are in eighths of a luma sample
abbrev pub in_sixteenths : Bool → ℤ → ℤ
in_sixteenths ss mv = if ss then mv else pos 2 *ℤ mv

-- the block's samples along a direction of the plane
abbrev pub span_length : BlockSpan → ℕ
span_length s = halved s.ss (8 * s.count)

-- spelLeft and spelTop, with 4 samples more than the block has (INTERP_EXTEND), spelRight and spelBottom, with 3: how far a vector
-- may point out of the frame
abbrev pub spel : ℕ → BlockSpan → ℤ
spel more s = pos (16 * (more + span_length s))

-- mbToLeftEdge - spelLeft, and so at the top
abbrev pub least_vector : BlockSpan → ℤ
least_vector s = neg_ℤ (in_sixteenths s.ss (pos (64 * s.first))) -ℤ spel 4 s

-- mbToRightEdge + spelRight, and so at the bottom
abbrev pub greatest_vector : BlockSpan → ℤ
greatest_vector s = in_sixteenths s.ss (pos 64 *ℤ ((pos s.all -ℤ pos s.count) -ℤ pos s.first)) +ℤ spel 3 s

-- clampMv
unfoldable pub clamped_vector : BlockSpan → ℤ → ℤ
clamped_vector s mv = clip3 (least_vector s) (greatest_vector s) (in_sixteenths s.ss mv)

-- a block that starts in a frame
pub record IsSpan (s : BlockSpan) : Type 0 where
  pub inside : s.first < s.all
  pub few : s.all ≤ 8192
  pub some : 1 ≤ s.count
  pub short : s.count ≤ 8
