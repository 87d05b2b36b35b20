-- The blocks of a frame and their neighbours (6.4.4, 7.4.4 and 9.3.1 of the standard: AvailU, AvailL and what stands there).
use Rattle.std.specs.Prelude.{ℕ, ◌-◌, Bool, true, false, List, [], ◌∷◌, Option, Some, None, nat_lt, if◌then◌else◌}
use Rattle.block_geometry.specs.BlockSizes.{is_covered}
use Rattle.block_plan.specs.declared.block.BlockInfo.{BlockInfo}
use Rattle.block_plan.specs.declared.block.BlockAt.{BlockAt}
use Rattle.block_plan.specs.declared.block.Prediction.{Prediction}
use Rattle.block_plan.specs.declared.block.Prediction.TheVariants.{Intra, Inter}

abbrev pub is_inter : Prediction → Bool
is_inter (Intra modes) = false
is_inter (Inter modes) = true

abbrev pub IsIntra : Prediction → Type 0
IsIntra (Intra modes) = Unit {0}
IsIntra (Inter modes) = ⊥

-- a block covers a place of 8x8
abbrev pub covers : BlockInfo → ℕ → ℕ → Bool
covers block r c = is_covered block.row block.col block.size r c

-- the first, or else the second
abbrev pub or_else : {A : Type 0} → Option A → Option A → Option A
or_else (Some x) other = Some x
or_else None other = other

-- the last listed block that covers a place
unfoldable pub covering : List BlockInfo → ℕ → ℕ → Option BlockInfo
covering [] r c = None
covering (block ∷ blocks) r c = or_else (covering blocks r c) (if covers block r c then Some block else None)

-- The block above a place of a frame, whatever tile it is in.
unfoldable pub above_place : List BlockInfo → ℕ → ℕ → Option BlockInfo
above_place earlier r c = if nat_lt 0 r then covering earlier (r - 1) c else None

-- The block at the left of a place, in a tile whose columns begin at `tile_from`.
unfoldable pub left_place : List BlockInfo → ℕ → ℕ → ℕ → Option BlockInfo
left_place earlier tile_from r c = if nat_lt tile_from c then covering earlier r (c - 1) else None

-- The blocks above a block and at its left, at its corner. AvailU says that there is one above (`is_some (above_of earlier at)`), and
-- AvailL that there is one at the left (`is_some (left_of earlier at)`).
abbrev pub above_of : List BlockInfo → BlockAt → Option BlockInfo
above_of earlier at = above_place earlier at.row at.col

abbrev pub left_of : List BlockInfo → BlockAt → Option BlockInfo
left_of earlier at = left_place earlier at.tile_from at.row at.col
