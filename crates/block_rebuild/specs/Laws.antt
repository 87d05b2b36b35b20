-- What blocks owe to one another while they are put in.
use Rattle.std.specs.Prelude.{ℕ, ◌+◌, ◌%◌, ◌≤◌, ◌≡◌, ◌⊎◌, List, map}
use Rattle.std.specs.List.{All, AllPairs}
use Rattle.vp9_types.specs.Maps.{Map, FrameMap}
use Rattle.vp9_types.specs.declared.shape.Plane.{Plane}
use Rattle.vp9_types.specs.declared.shape.Shape.{Shape}
use Rattle.block_geometry.specs.BlockSizes.{width_8, height_8}
use Rattle.block_geometry.specs.declared.transform_blocks.TransformPlace.{TransformPlace}
use Rattle.block_plan.specs.InPlanes.{places_in}
use Rattle.block_plan.specs.Planned.{PlannedBlock, Residue, residues_in}
use Rattle.block_plan.specs.declared.block.BlockInfo.{BlockInfo}
use Rattle.planes.specs.Pictures.{blank}
use Rattle.block_rebuild.specs.Code.{HoldsBlock, IsPlaced}
use Rattle.block_rebuild.specs.InterBlocks.{Rebuilding}
use Rattle.block_rebuild.specs.Strips.{Region, IsIn, IsAround, in_plane, strip_places, superblock_row, column_blocks, with_blocks, strip, strip_below, above_strip, strip_area}

abbrev pub IsOutside : Region → ℕ → ℕ → Type 0
IsOutside g y x = IsIn g y x → ⊥

-- two maps have the same samples in a region and in the row just above it
abbrev pub SameAround : Region → Map → Map → Type 0
SameAround g m n = (y x : ℕ) → IsAround g y x → m y x ≡ n y x

-- What is done to a map changes it only in `own`, and needs it only in `around` and in the row just above that.
pub record StaysIn (own around : Region) (f : Map → Map) : Type 0 where
  pub leaves : (m : Map) (y x : ℕ) → IsOutside own y x → f m y x ≡ m y x
  pub needs : (m n : Map) → SameAround around m n → SameAround around (f m) (f n)

-- the same of a frame, in each plane
abbrev pub SameFrameAround : Shape → Region → FrameMap → FrameMap → Type 0
SameFrameAround shape g m n = (p : Plane) → SameAround (in_plane shape p g) (m p) (n p)

pub record FrameStaysIn (shape : Shape) (own around : Region) (f : FrameMap → FrameMap) : Type 0 where
  pub leaves : (m : FrameMap) (p : Plane) (y x : ℕ) → IsOutside (in_plane shape p own) y x → f m p y x ≡ m p y x
  pub needs : (m n : FrameMap) → SameFrameAround shape around m n → SameFrameAround shape around (f m) (f n)

-- A block as it is read: it starts inside its frame and its tile, lies in one row of superblocks, and its residues stand at its
-- transform blocks.
pub record IsRead (shape : Shape) (b : PlannedBlock) : Type 0 where
  pub placed : IsPlaced shape b.tile_from b.info
  pub row : b.info.row % 8 + height_8 b.info.size ≤ 8
  pub places : (p : Plane) → map (λ (r : TransformPlace × Residue). r.0) (residues_in b p) ≡ places_in shape b.info p

-- the places that a block covers, and those with what its tile has left of it
abbrev pub own_places : BlockInfo → Region
own_places b = record { top = b.row; bottom = b.row + height_8 b.size; left = b.col; right = b.col + width_8 b.size }

abbrev pub places_around : PlannedBlock → Region
places_around b = record { top = b.info.row; bottom = b.info.row + height_8 b.info.size; left = b.tile_from; right = b.info.col + width_8 b.info.size }

-- A block is one of the tile column with these places, or lies in another one.
pub record IsInColumn (from to : ℕ) (b : PlannedBlock) : Type 0 where
  pub begin : b.tile_from ≡ from
  pub end : b.info.col + width_8 b.info.size ≤ to

pub record IsBesideColumn (from to : ℕ) (b : PlannedBlock) : Type 0 where
  pub other : b.tile_from ≡ from → ⊥
  pub beside : (b.info.col + width_8 b.info.size ≤ from) ⊎ (to ≤ b.info.col)

abbrev pub KeepToColumns : ℕ → ℕ → List PlannedBlock → Type 0
KeepToColumns from to blocks = All (λ b. IsInColumn from to b ⊎ IsBesideColumn from to b) blocks

-- The rows of superblocks of a tile column come one after another.
abbrev pub AreInOrder : List PlannedBlock → Type 0
AreInOrder blocks = AllPairs (λ a b. superblock_row a ≤ superblock_row b) blocks

-- In row r of superblocks of a tile column a frame is the strip that the column's blocks alone make.
abbrev pub IsStrip : Rebuilding → ℕ → ℕ → ℕ → List PlannedBlock → Type 0
IsStrip by from to r blocks = (p : Plane) (y x : ℕ) → IsIn (in_plane by.shape p (strip_places from to r)) y x →
    with_blocks by blank blocks p y x ≡ strip by (column_blocks from blocks) r p y x

-- A strip needs of the samples above it only those of the last row in its own columns.
abbrev pub NeedsLastRow : Rebuilding → ℕ → ℕ → ℕ → List PlannedBlock → Type 0
NeedsLastRow by from to r column = (m n : FrameMap) → SameFrameAround by.shape (strip_places from to r) m n →
    SameFrameAround by.shape (strip_places from to r) (strip_below by column r m) (strip_below by column r n)

-- So from samples that are those above a strip its blocks make the strip, whatever the samples elsewhere are.
abbrev pub MakesStrip : Rebuilding → ℕ → ℕ → ℕ → List PlannedBlock → Type 0
MakesStrip by from to r column = (m : FrameMap) → SameFrameAround by.shape (strip_places from to r) m (above_strip by column r) →
    (p : Plane) (y x : ℕ) → IsIn (in_plane by.shape p (strip_places from to r)) y x → strip_below by column r m p y x ≡ strip by column r p y x

-- The area of a strip holds its blocks.
abbrev pub StripHolds : Shape → ℕ → ℕ → PlannedBlock → Type 0
StripHolds shape from to b = (p : Plane) → HoldsBlock shape p b.tile_from b.info (strip_area shape p from to (superblock_row b))
