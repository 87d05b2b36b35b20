-- The blocks of a tile column, by the residues of their transform blocks, which are kept one behind another (6.4.21 of the
-- standard: residual, whose order is that of the planes and of the transform blocks in each).
use Rattle.std.specs.Prelude.{ℕ, ◌+◌, ℤ, List, [], ◌∷◌, length, drop, Some, None}
use Rattle.vp9_types.specs.declared.shape.Plane.{Plane}
use Rattle.vp9_types.specs.declared.shape.Plane.TheVariants.{Y, U, V}
use Rattle.vp9_types.specs.declared.shape.Shape.{Shape}
use Rattle.block_geometry.specs.declared.transform_blocks.TransformPlace.{TransformPlace}
use Rattle.block_plan.specs.InPlanes.{places_in}
use Rattle.block_plan.specs.Planned.{PlannedBlock, Residue, Residues}
use Rattle.block_plan.specs.declared.block.BlockInfo.{BlockInfo}

-- The values of a transform block are a piece. One without coefficients has no values.
abbrev pub residue_of_piece : List ℤ → Residue
residue_of_piece [] = None
residue_of_piece (x ∷ xs) = Some (x ∷ xs)

-- the residues of transform blocks at these places, from the first of these pieces on
unfoldable pub residues_from : List TransformPlace → List (List ℤ) → Residues
residues_from [] pieces = []
residues_from (at ∷ places) [] = []
residues_from (at ∷ places) (piece ∷ pieces) = (at, residue_of_piece piece) ∷ residues_from places pieces

-- how many transform blocks a block has in a plane, and in all of them
abbrev pub count_in : Shape → BlockInfo → Plane → ℕ
count_in shape b p = length (places_in shape b p)

abbrev pub count_of : Shape → BlockInfo → ℕ
count_of shape b = count_in shape b Y + count_in shape b U + count_in shape b V

-- a block, whose residues begin with the first of these pieces, plane by plane
abbrev pub planned_from : Shape → ℕ → BlockInfo → List (List ℤ) → PlannedBlock
planned_from shape tile_from b pieces = record {
  info = b;
  tile_from = tile_from;
  y = residues_from (places_in shape b Y) pieces;
  u = residues_from (places_in shape b U) (drop (count_in shape b Y) pieces);
  v = residues_from (places_in shape b V) (drop (count_in shape b U) (drop (count_in shape b Y) pieces));
}

-- blocks one behind another
unfoldable pub planned_blocks : Shape → ℕ → List BlockInfo → List (List ℤ) → List PlannedBlock
planned_blocks shape tile_from [] pieces = []
planned_blocks shape tile_from (b ∷ blocks) pieces =
    planned_from shape tile_from b pieces ∷ planned_blocks shape tile_from blocks (drop (count_of shape b) pieces)

-- how many transform blocks these have
abbrev pub total : Shape → List BlockInfo → ℕ
total shape [] = 0
total shape (b ∷ blocks) = count_of shape b + total shape blocks
