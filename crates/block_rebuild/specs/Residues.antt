-- The residues of a block that are taken one after another, by the number of each transform block, from whoever keeps them.
-- Who keeps them is known by `residue`, which gives them by plane, by how many values each of the plane has, and by number,
-- and by `holds`, which says the same way which are there.
use Rattle.std.specs.Prelude.{◌≡◌, ◌<◌, ◌*◌, ℕ, false, List, get_or, length, map, take, drop, Some, None}
use Rattle.std.specs.List.{range_with_len}
use Rattle.vp9_types.specs.declared.shape.Plane.{Plane}
use Rattle.vp9_types.specs.declared.shape.Plane.TheVariants.{Y, U, V}
use Rattle.vp9_types.specs.declared.shape.Shape.{Shape}
use Rattle.vp9_tables.specs.Scans.{area}
use Rattle.block_geometry.specs.TransformBlocks.{place_at}
use Rattle.block_geometry.specs.declared.transform_blocks.TransformPlace.{TransformPlace}
use Rattle.block_plan.specs.InPlanes.{places_in, tx_in}
use Rattle.block_plan.specs.Planned.{Residue, Residues, PlannedBlock}
use Rattle.block_plan.specs.Code.{residue_if}
use Rattle.block_plan.specs.declared.block.BlockInfo.{BlockInfo}
use Rattle.block_plan.specs.declared.residues.BlockResidues.{BlockResidues}
use Rattle.block_plan.specs.declared.residues.PlaneResidues.{PlaneResidues}

-- the first n of some residues, each with the place of its transform block
unfoldable pub first_residues : (ℕ → Residue) → List TransformPlace → ℕ → Residues
first_residues residue places n = map (λ k. (get_or places k (place_at 0 0), residue k)) (range_with_len 0 n)

-- one for each of these places
abbrev pub residues_at : (ℕ → Residue) → List TransformPlace → Residues
residues_at residue places = first_residues residue places (length places)

-- those of a block in a plane
abbrev pub residues_of : (Plane → ℕ → ℕ → Residue) → Shape → BlockInfo → Plane → Residues
residues_of residue shape b p = residues_at (residue p (area (tx_in shape b p))) (places_in shape b p)

-- a block with its residues
abbrev pub planned_by : (Plane → ℕ → ℕ → Residue) → Shape → ℕ → BlockInfo → PlannedBlock
planned_by residue shape tile_from b = record {
  info = b;
  tile_from = tile_from;
  y = residues_of residue shape b Y;
  u = residues_of residue shape b U;
  v = residues_of residue shape b V;
}

-- a transform block has no values, or so many
abbrev pub IsWhole : ℕ → Residue → Type 0
IsWhole n None = Unit {0}
IsWhole n (Some values) = length values ≡ n

-- all residues of a block in a plane are there
abbrev pub HoldsAll : (Plane → ℕ → ℕ → Type 0) → Shape → BlockInfo → Plane → Type 0
HoldsAll holds shape b p = (k : ℕ) → k < length (places_in shape b p) → holds p (area (tx_in shape b p)) k

-- all residues of a block are there
abbrev pub AreHeld : (Plane → ℕ → ℕ → Type 0) → Shape → BlockInfo → Type 0
AreHeld holds shape b = (p : Plane) (k : ℕ) → k < length (places_in shape b p) → holds p (area (tx_in shape b p)) k

---- In a block's buffer ----

abbrev pub plane_of : BlockResidues → Plane → PlaneResidues
plane_of r Y = r.y
plane_of r U = r.u
plane_of r V = r.v

-- the k-th transform block of a plane, of so many values each, has those behind the values of the blocks before it
abbrev pub residue_held : PlaneResidues → ℕ → ℕ → Residue
residue_held r area k = residue_if (get_or r.some k false) (take area (drop (k * area) r.values))
