-- A block that is read, and isn't put into its frame's planes yet.
use Rattle.std.specs.Prelude.{ℕ, ℤ, List, Option}
use Rattle.vp9_types.specs.declared.shape.Plane.{Plane}
use Rattle.vp9_types.specs.declared.shape.Plane.TheVariants.{Y, U, V}
use Rattle.block_geometry.specs.declared.transform_blocks.TransformPlace.{TransformPlace}
use Rattle.block_plan.specs.declared.block.BlockInfo.{BlockInfo}

-- the residue of a transform block, row by row, if it has coefficients
abbrev pub Residue : Type 0
Residue = Option (List ℤ)

-- those of a block in a plane, each with its place
abbrev pub Residues : Type 0
Residues = List (TransformPlace × Residue)

-- all that it takes to put it in: what its modes say, the first column of its tile, its residues
pub record PlannedBlock : Type 0 where
  pub info : BlockInfo
  pub tile_from : ℕ
  pub y : Residues
  pub u : Residues
  pub v : Residues

abbrev pub residues_in : PlannedBlock → Plane → Residues
residues_in b Y = b.y
residues_in b U = b.u
residues_in b V = b.v
