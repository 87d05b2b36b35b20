-- What the code holds of the residue of a block.
use Rattle.std.specs.Prelude.{ℕ, ℤ, ◌*◌, ◌<◌, ◌^◌, Bool, true, false, List, length, map, get_or, take, drop, Some, None, unsigned_abs}
use Rattle.std.specs.List.{All, range_with_len}
use Rattle.vp9_types.specs.declared.shape.Plane.{Plane}
use Rattle.vp9_types.specs.declared.shape.Plane.TheVariants.{Y, U, V}
use Rattle.vp9_types.specs.declared.shape.Shape.{Shape}
use Rattle.vp9_tables.specs.Scans.{area}
use Rattle.block_geometry.specs.TransformBlocks.{place_at}
use Rattle.block_geometry.specs.declared.transform_blocks.TransformPlace.{TransformPlace}
use Rattle.block_plan.specs.InPlanes.{places_in, tx_in}
use Rattle.block_plan.specs.Planned.{Residue, Residues, PlannedBlock}
use Rattle.block_plan.specs.declared.block.BlockInfo.{BlockInfo}
use Rattle.block_plan.specs.declared.residues.BlockResidues.{BlockResidues}
use Rattle.block_plan.specs.declared.residues.PlaneResidues.{PlaneResidues}

-- values that are there, or none
abbrev pub residue_if : Bool → List ℤ → Residue
residue_if true values = Some values
residue_if false values = None

-- the k-th transform block has so many values behind those of the blocks before it
abbrev pub held_at : List TransformPlace → ℕ → List Bool → List ℤ → ℕ → TransformPlace × Residue
held_at places area some values k = (get_or places k (place_at 0 0), residue_if (get_or some k false) (take area (drop (k * area) values)))

-- the first n of them
unfoldable pub residues_held : List TransformPlace → ℕ → List Bool → List ℤ → ℕ → Residues
residues_held places area some values n = map (held_at places area some values) (range_with_len 0 n)

-- those of a block whose transform blocks, of so many values each, lie at these places
abbrev pub held : List TransformPlace → ℕ → PlaneResidues → Residues
held places area r = residues_held places area r.some r.values (length places)

-- values that are far from the ends of 32 bits
abbrev pub IsSmall : Residue → Type 0
IsSmall None = Unit {0}
IsSmall (Some values) = All (λ x. unsigned_abs x < 2 ^ 24) values

abbrev pub AreSmall : Residues → Type 0
AreSmall residues = All (λ (r : TransformPlace × Residue). IsSmall r.1) residues

-- the residues of a block that the code holds of a plane
abbrev pub held_in : Shape → BlockInfo → Plane → PlaneResidues → Residues
held_in shape b p r = held (places_in shape b p) (area (tx_in shape b p)) r

-- a block with the residues that the code holds, as it is listed
abbrev pub planned_with : Shape → ℕ → BlockInfo → BlockInfo → BlockResidues → PlannedBlock
planned_with shape tile_from b info r = record {
  info = info;
  tile_from = tile_from;
  y = held_in shape b Y r.y;
  u = held_in shape b U r.u;
  v = held_in shape b V r.v;
}

-- those of a planned block are small
pub record HoldsSmall (b : PlannedBlock) : Type 0 where
  pub y : AreSmall b.y
  pub u : AreSmall b.u
  pub v : AreSmall b.v
