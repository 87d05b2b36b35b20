-- A list of blocks, and which of them covers each place of some columns of a frame.
use Rattle.std.specs.Prelude.{◌≡◌, ℕ, zero, suc, ◌+◌, ◌*◌, ◌<◌, ◌≤◌, List, Option, None, slice_get, slice_index}
use Rattle.block_plan.specs.Blocks.{covering}
use Rattle.block_plan.specs.declared.block.BlockInfo.{BlockInfo}

-- the columns `from` to `to` of a frame of so many rows, and room for so many blocks more
pub record GridOf : Type 0 where
  pub rows : ℕ
  pub from : ℕ
  pub to : ℕ
  pub room : ℕ
  pub blocks : List BlockInfo

-- the number 0 is for none, and n + 1 for the block with the index n
abbrev pub numbered : List BlockInfo → ℕ → Option BlockInfo
numbered blocks zero = None
numbered blocks (suc n) = slice_get blocks n

abbrev pub NumbersBelow : ℕ → ℕ → ℕ → List ℕ → Type 0
NumbersBelow most rows width places = (r c : ℕ) → r < rows → c < width → slice_index places (r * width + c) ≤ most

abbrev pub AgreesWith : List BlockInfo → ℕ → ℕ → ℕ → List ℕ → Type 0
AgreesWith blocks rows from width places =
    (r c : ℕ) → r < rows → c < width → numbered blocks (slice_index places (r * width + c)) ≡ covering blocks r (from + c)

-- a place of the grid's columns
abbrev pub IsInGrid : GridOf → ℕ → ℕ → Type 0
IsInGrid grid r c = (r < grid.rows) × (grid.from ≤ c) × (c < grid.to)
