-- What the code keeps, and what it takes of a block's buffer.
use Rattle.std.specs.Prelude.{◌≡◌, All, ◌≤◌, ◌<◌, ℕ, ◌+◌, ◌*◌, ℤ, Bool, false, List, [], ◌++◌, length, map, get_or, take, drop, slice_range, Some, None, if◌then◌else◌}
use Rattle.std.specs.List.{range_with_len}
use Rattle.vp9_types.specs.declared.shape.Plane.{Plane}
use Rattle.vp9_types.specs.declared.shape.Plane.TheVariants.{Y, U, V}
use Rattle.vp9_types.specs.declared.shape.Shape.{Shape}
use Rattle.vp9_tables.specs.Scans.{area}
use Rattle.block_geometry.specs.declared.transform_blocks.TransformPlace.{TransformPlace}
use Rattle.block_plan.specs.InPlanes.{places_in, tx_in}
use Rattle.block_plan.specs.Planned.{PlannedBlock, Residue, Residues}
use Rattle.block_plan.specs.declared.block.BlockInfo.{BlockInfo}
use Rattle.block_plan.specs.declared.residues.BlockResidues.{BlockResidues}
use Rattle.block_plan.specs.declared.residues.PlaneResidues.{PlaneResidues}
use Rattle.column_plan.specs.PlanRows.{before_row, place_of_row, row_of}
use Rattle.column_plan.specs.declared.chunks.Piece.{Piece}
use Rattle.column_plan.specs.declared.rows.RowPlace.{RowPlace}

---- Pieces among chunks ----

-- its chunk has the values of a piece
abbrev pub LiesIn : List (List ℤ) → Piece → Type 0
LiesIn chunks p = p.from + p.count ≤ length (get_or chunks p.chunk [])

-- the values of a piece
abbrev pub values_in : List (List ℤ) → Piece → List ℤ
values_in chunks p = slice_range (get_or chunks p.chunk []) p.from (p.from + p.count)

-- those of pieces, one behind another
unfoldable pub pieces_in : List (List ℤ) → List Piece → List (List ℤ)
pieces_in chunks pieces = map (values_in chunks) pieces

-- values may have come behind those of each chunk
abbrev pub GoOn : List (List ℤ) → List (List ℤ) → Type 0
GoOn old new = (k : ℕ) → (more : List ℤ) × (get_or new k [] ≡ get_or old k [] ++ more)

---- The pieces of a block ----

-- the values of the k-th transform block in a buffer, of so many each, or none
abbrev pub piece_held : ℕ → List Bool → List ℤ → ℕ → List ℤ
piece_held area some values k = if get_or some k false then take area (drop (k * area) values) else []

-- those of n transform blocks
unfoldable pub pieces_held : ℕ → List Bool → List ℤ → ℕ → List (List ℤ)
pieces_held area some values n = map (piece_held area some values) (range_with_len 0 n)

abbrev pub plane_pieces : Shape → BlockInfo → Plane → PlaneResidues → List (List ℤ)
plane_pieces shape b p r = pieces_held (area (tx_in shape b p)) r.some r.values (length (places_in shape b p))

-- of a block, plane by plane
abbrev pub block_pieces : Shape → BlockInfo → BlockResidues → List (List ℤ)
block_pieces shape b r = plane_pieces shape b Y r.y ++ plane_pieces shape b U r.u ++ plane_pieces shape b V r.v

-- no values, or so many
abbrev pub IsWhole : ℕ → Residue → Type 0
IsWhole n None = Unit {0}
IsWhole n (Some values) = length values ≡ n

abbrev pub AreWhole : ℕ → Residues → Type 0
AreWhole n residues = All (λ (r : TransformPlace × Residue). IsWhole n r.1) residues

-- each residue of a planned block has as many values as its transform block has samples, or none
pub record HoldsWhole (shape : Shape) (b : PlannedBlock) : Type 0 where
  pub y : AreWhole (area (tx_in shape b.info Y)) b.y
  pub u : AreWhole (area (tx_in shape b.info U)) b.u
  pub v : AreWhole (area (tx_in shape b.info V)) b.v

---- Rows of superblocks ----

-- where the rows of superblocks that its blocks reach begin
pub record AreRowPlaces (shape : Shape) (blocks : List BlockInfo) (places : List RowPlace) : Type 0 where
  pub each : (r : ℕ) (d : RowPlace) → r < length places → get_or places r d ≡ place_of_row shape r blocks
  pub reached : (r : ℕ) → r < length places → length (before_row r blocks) < length blocks
  pub low : All (λ b. row_of b < length places) blocks
