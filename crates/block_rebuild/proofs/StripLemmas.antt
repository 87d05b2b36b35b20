-- Planes that blocks are put into.
use Rattle.std.proofs.Common.{ℕ, sym, subst}
use Rattle.vp9_types.specs.declared.shape.Plane.TheVariants.{Y, U, V}
use Rattle.vp9_types.specs.declared.shape.Shape.{Shape}
use Rattle.block_plan.specs.declared.block.BlockInfo.{BlockInfo}
use Rattle.planes.specs.declared.area.Area.{Area}
use Rattle.planes.specs.declared.frame_planes.FramePlanes.{FramePlanes}
use Rattle.block_rebuild.specs.Code.{HasAreasOf, HoldsBlock, HoldsBlockIn}

-- planes that lie in the same places hold the same blocks
pub areas_hold : {X : Type 0} (shape : Shape) (tile_from : ℕ) (b : BlockInfo) (f g : FramePlanes X) → HasAreasOf f g → HoldsBlockIn shape tile_from b f → HoldsBlockIn shape tile_from b g
areas_hold shape tile_from b f g same holds = record {
  y = subst (λ (a : Area). HoldsBlock shape Y tile_from b a) (sym same.y) holds.y;
  u = subst (λ (a : Area). HoldsBlock shape U tile_from b a) (sym same.u) holds.u;
  v = subst (λ (a : Area). HoldsBlock shape V tile_from b a) (sym same.v) holds.v;
}
