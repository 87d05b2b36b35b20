-- What the levels of a block say of its residue: what a reader makes of them, transform block by transform block, plane by
-- plane (6.4.21 and 6.4.24 of the standard, 8.6.2 and 8.7.2).
use Rattle.std.specs.Prelude.{ℕ, ◌+◌, ◌*◌, ℤ, List, [], ◌∷◌, ◌++◌, take, drop, slice_index, nat_eq, nat_lt, Some, None, Result, Ok, if◌then◌else◌}
use Rattle.vp9_types.specs.Results.{map_ok, ◌>>=◌}
use Rattle.vp9_types.specs.declared.rule.Rule.{Rule}
use Rattle.vp9_types.specs.declared.shape.Plane.{Plane}
use Rattle.vp9_types.specs.declared.shape.Plane.TheVariants.{Y, U, V}
use Rattle.vp9_tables.specs.Scans.{area}
use Rattle.block_geometry.specs.declared.transform_blocks.TransformPlace.{TransformPlace}
use Rattle.frame_headers.specs.HeaderState.{shape_of}
use Rattle.frame_headers.specs.declared.header.Header.{Header}
use Rattle.block_plan.specs.InPlanes.{places_in}
use Rattle.block_plan.specs.Planned.{Residue, PlannedBlock}
use Rattle.block_plan.specs.declared.block.BlockInfo.{BlockInfo}
use Rattle.residue_transforms.specs.Residue.{residue}
use Rattle.residue_syntax.specs.BlocksInPlanes.{block_in, type_at}
use Rattle.residue_syntax.specs.Residues.{ReadPlane, with_sides, read_skipped, planned}
use Rattle.residue_syntax.specs.Sides.{Sides}
use Rattle.residue_syntax.specs.declared.in_plane.BlockInPlane.{BlockInPlane}
use Rattle.residue_syntax.specs.declared.sides.TileSides.{TileSides}
use Rattle.residue_writer.specs.declared.levels.BlockLevels.{BlockLevels}
use Rattle.residue_writer.specs.declared.levels.PlaneLevels.{PlaneLevels}

---- A transform block ----

-- the levels of the k-th, by position: so many behind those of the blocks before it
abbrev pub levels_at : PlaneLevels → ℕ → ℕ → List ℤ
levels_at levels area k = take area (drop (k * area) levels.values)

-- of these levels, of which so many places are coded
unfoldable pub residue_said : BlockInPlane → ℕ → ℕ → ℕ → List ℤ → Result Residue Rule
residue_said b y x count levels =
    if nat_eq count 0 then Ok None else map_ok Some (residue b.quant b.block.tx (type_at b y x) levels)

---- A block in a plane ----

-- a transform block more, with its residue
abbrev pub with_read_residue : BlockInPlane → TransformPlace → ℕ → Residue → ReadPlane → ReadPlane
with_read_residue b at count residue s = record {
  residues = s.residues ++ (at, residue) ∷ [];
  sides = with_sides b.block at.row at.column (nat_lt 0 count) s.sides;
}

-- the transform blocks at these places, from the k-th on, behind what was said of those before it
unfoldable pub residues_said : BlockInPlane → PlaneLevels → List TransformPlace → ℕ → ReadPlane → Result ReadPlane Rule
residues_said b levels [] k s = Ok s
residues_said b levels (at ∷ places) k s = do
  residue ← residue_said b at.row at.column (slice_index levels.counts k) (levels_at levels (area b.block.tx) k)
  residues_said b levels places (k + 1) (with_read_residue b at (slice_index levels.counts k) residue s)

-- a skipped block has no coefficients, whatever its levels
unfoldable pub said_in_plane : Header → BlockInfo → Plane → PlaneLevels → Sides → Result ReadPlane Rule
said_in_plane header b p levels s =
    if b.skip then Ok (read_skipped (block_in header b p) (places_in (shape_of header) b p) s)
    else residues_said (block_in header b p) levels (places_in (shape_of header) b p) 0 (record { residues = []; sides = s })

---- A block ----

-- the planned block, in a tile whose columns begin at `tile_from`, and the sides behind it
unfoldable pub block_residues_said : Header → ℕ → BlockInfo → BlockLevels → TileSides → Result (PlannedBlock × TileSides) Rule
block_residues_said header tile_from b levels s = do
  y ← said_in_plane header b Y levels.y s.y
  u ← said_in_plane header b U levels.u s.u
  v ← said_in_plane header b V levels.v s.v
  Ok (planned tile_from b y u v, record { y = y.sides; u = u.sides; v = v.sides })
