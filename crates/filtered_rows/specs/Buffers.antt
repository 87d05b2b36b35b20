-- The buffer of a row of superblocks, made from that of the row above it, which stays.
use Rattle.std.specs.Prelude.{ℕ, ◌-◌, ◌<◌, ◌≡◌, List, Option, Some, None}
use Rattle.vp9_types.specs.declared.shape.Shape.{Shape}
use Rattle.vp9_types.specs.Maps.{FrameMap}
use Rattle.block_plan.specs.declared.block.BlockInfo.{BlockInfo}
use Rattle.planes.specs.declared.frame_planes.FramePlanes.{FramePlanes}
use Rattle.loop_edges.specs.declared.setting.EdgeSetting.{EdgeSetting}
use Rattle.filter_rows.specs.Buffer.{StandsAt, HasFiltered}

-- above the first row of superblocks there is no buffer, above each other one there is one at the row before it
abbrev pub StandsAbove : {X : Type 0} → Shape → ℕ → Option (FramePlanes X) → Type 0
StandsAbove shape row None = row ≡ 0
StandsAbove shape row (Some planes) = (0 < row) × StandsAt shape (row - 1) planes

-- in which that row is filtered
abbrev pub IsFilteredAbove : {X : Type 0} → EdgeSetting → List BlockInfo → FrameMap → ℕ → Option (FramePlanes X) → Type 0
IsFilteredAbove f blocks raw row None = row ≡ 0
IsFilteredAbove f blocks raw row (Some planes) = (0 < row) × HasFiltered f blocks raw (row - 1) planes
