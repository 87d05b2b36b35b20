-- Where the rows of superblocks of a tile column begin in its plan (6.4 of the standard: decode_tile, which reads a tile's
-- superblocks row by row).
use Rattle.std.specs.Prelude.{ℕ, ◌/◌, ◌≤◌, List, [], ◌∷◌, length, nat_eq, nat_lt, if◌then◌else◌}
use Rattle.std.specs.List.{AllPairs, filter}
use Rattle.vp9_types.specs.declared.shape.Shape.{Shape}
use Rattle.block_plan.specs.declared.block.BlockInfo.{BlockInfo}
use Rattle.block_plan.specs.Planned.{PlannedBlock}
use Rattle.column_plan.specs.PlannedBlocks.{total}
use Rattle.column_plan.specs.declared.rows.RowPlace.{RowPlace}

-- the row of superblocks that a block starts in
abbrev pub row_of : BlockInfo → ℕ
row_of b = b.row / 8

-- the blocks before the first one that starts in the r-th row of superblocks or below it
unfoldable pub before_row : ℕ → List BlockInfo → List BlockInfo
before_row r [] = []
before_row r (b ∷ blocks) = if nat_lt (row_of b) r then b ∷ before_row r blocks else []

-- how many they are, and how many transform blocks they have
abbrev pub place_of_row : Shape → ℕ → List BlockInfo → RowPlace
place_of_row shape r blocks = record { block = length (before_row r blocks); piece = total shape (before_row r blocks) }

-- rows of superblocks follow one another
abbrev pub AreInOrder : List BlockInfo → Type 0
AreInOrder blocks = AllPairs (λ a b. row_of a ≤ row_of b) blocks

-- the blocks that start in the r-th row of superblocks
abbrev pub in_row : ℕ → List BlockInfo → List BlockInfo
in_row r blocks = filter (λ b. nat_eq (row_of b) r) blocks

abbrev pub planned_in_row : ℕ → List PlannedBlock → List PlannedBlock
planned_in_row r blocks = filter (λ b. nat_eq (row_of b.info) r) blocks
