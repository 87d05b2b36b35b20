-- Rows of superblocks one after another.
use Rattle.std.proofs.Common.{◌≡◌, ◌+◌, ℕ, refl, sym, ◌∙◌, arith, ap, List}
use Rattle.std.proofs.Math.Path.{fun_ext}
use Rattle.vp9_types.specs.Maps.{FrameMap}
use Rattle.vp9_types.specs.Sizes.{superblocks_along}
use Rattle.vp9_types.specs.Shapes.{mi_rows}
use Rattle.vp9_types.specs.declared.shape.Plane.{Plane}
use Rattle.vp9_types.specs.declared.shape.Plane.TheVariants.{Y, U, V}
use Rattle.vp9_types.specs.declared.shape.Shape.{Shape}
use Rattle.planes.specs.Pictures.{HasSizes, coded_area}
use Rattle.planes.specs.declared.area.Area.{Area}
use Rattle.planes.specs.declared.frame_planes.FramePlanes.{FramePlanes}
use Rattle.block_plan.specs.declared.block.BlockInfo.{BlockInfo}
use Rattle.loop_edges.specs.Code.{edges_before, with_row, filtered_before}
use Rattle.loop_edges.specs.FrameEdges.{row_edges, filtered_frame}
use Rattle.loop_edges.specs.declared.setting.EdgeSetting.{EdgeSetting}
use Rattle.loop_edges.proofs.Rows.{all_rows}
use Rattle.loop_filter.specs.Code.{HasFilterRows, HoldsFilterRows, HasAreasOf}
use Rattle.loop_filter.proofs.Walks.{one_more_plain}

-- one row more is filtered
pub row_more : (f : EdgeSetting) (blocks : List BlockInfo) (m : FrameMap) (r : ℕ) → filtered_before f blocks m (r + 1) ≡ with_row f blocks (filtered_before f blocks m r) r
unfolding filtered_before with_row edges_before
row_more f blocks m r = fun_ext λ plane. one_more_plain (row_edges f blocks plane) (m plane) r

pub no_rows : (f : EdgeSetting) (blocks : List BlockInfo) (m : FrameMap) → m ≡ filtered_before f blocks m 0
unfolding filtered_before edges_before
no_rows f blocks m = refl

pub rows_done : (f : EdgeSetting) (blocks : List BlockInfo) (m old new : FrameMap) (r : ℕ) → old ≡ filtered_before f blocks m r → new ≡ with_row f blocks old r
    → new ≡ filtered_before f blocks m (r + 1)
rows_done f blocks m old new r so done = done ∙ (rw so refl ∙ sym (row_more f blocks m r))

pub all_done : (f : EdgeSetting) (blocks : List BlockInfo) (m new : FrameMap) (n : ℕ) → n ≡ superblocks_along (mi_rows f.shape) → new ≡ filtered_before f blocks m n
    → new ≡ filtered_frame f blocks m
all_done f blocks m new n all done = done ∙ (ap (filtered_before f blocks m) all ∙ all_rows f blocks m)

-- whole planes have all rows
whole_rows : (shape : Shape) (plane : Plane) (sr : ℕ) (a : Area) → a ≡ coded_area shape plane → HasFilterRows shape plane sr a
whole_rows shape plane sr a is = rw is (record { above = omega arith; below = omega arith; end = omega arith; left = refl; right = omega arith })

pub holds_rows : {X : Type 0} (shape : Shape) (sr : ℕ) (f : FramePlanes X) → HasSizes shape f → HoldsFilterRows shape sr f
holds_rows shape sr f so = record { y = whole_rows shape Y sr f.y.area so.y; u = whole_rows shape U sr f.u.area so.u; v = whole_rows shape V sr f.v.area so.v }

pub sizes_kept : {X : Type 0} (shape : Shape) (f g : FramePlanes X) → HasSizes shape f → HasAreasOf f g → HasSizes shape g
sizes_kept shape f g so same = record { y = same.y ∙ so.y; u = same.u ∙ so.u; v = same.v ∙ so.v }

pub areas_kept : {X : Type 0} (f g h : FramePlanes X) → HasAreasOf f g → HasAreasOf g h → HasAreasOf f h
areas_kept f g h first second = record { y = second.y ∙ first.y; u = second.u ∙ first.u; v = second.v ∙ first.v }

pub rows_kept : {X : Type 0} (shape : Shape) (sr : ℕ) (f g : FramePlanes X) → HoldsFilterRows shape sr f → HasAreasOf f g → HoldsFilterRows shape sr g
rows_kept shape sr f g so same = record { y = rw same.y so.y; u = rw same.u so.u; v = rw same.v so.v }
