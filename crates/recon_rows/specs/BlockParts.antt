-- A block's part of its column's plan: which pieces it has in each plane.
use Rattle.std.specs.Prelude.{◌≡◌, ℕ, ℤ, ◌+◌, ◌<◌, List, [], length, get_or}
use Rattle.vp9_types.specs.declared.shape.Plane.{Plane}
use Rattle.vp9_types.specs.declared.shape.Plane.TheVariants.{Y, U, V}
use Rattle.vp9_types.specs.declared.shape.Shape.{Shape}
use Rattle.block_plan.specs.Planned.{Residue}
use Rattle.block_plan.specs.declared.block.BlockInfo.{BlockInfo}
use Rattle.block_rebuild.specs.Residues.{IsWhole}
use Rattle.column_plan.specs.PlannedBlocks.{count_in, residue_of_piece}
use Rattle.recon_rows.specs.declared.part.PlanPart.{PlanPart}

-- the first one of a plane
abbrev pub first_in : ℕ → ℕ → ℕ → Plane → ℕ
first_in y u v Y = y
first_in y u v U = u
first_in y u v V = v

-- the residue of the k-th piece behind a first one
abbrev pub piece_residue : List (List ℤ) → ℕ → ℕ → Residue
piece_residue pieces first k = residue_of_piece (get_or pieces (first + k) [])

-- there is such a piece, and it has no values, or so many
abbrev pub has_piece : List (List ℤ) → ℕ → ℕ → ℕ → Type 0
has_piece pieces first area k = (first + k < length pieces) × IsWhole area (piece_residue pieces first k)

-- A block's part begins with the first piece, and the pieces of its planes follow one another.
pub record IsPartOf (shape : Shape) (b : BlockInfo) (pieces : List (List ℤ)) (first : ℕ) (part : PlanPart) : Type 0 where
  pub residues : part.residues.now ≡ pieces
  pub y : part.y ≡ first
  pub u : part.u ≡ first + count_in shape b Y
  pub v : part.v ≡ part.u + count_in shape b U
