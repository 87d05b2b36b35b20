use Rattle.std.proofs.Common.{◌≡◌, arith}
use Rattle.vp9_types.specs.Shapes.{mi_cols}
use Rattle.vp9_types.specs.Sizes.{superblocks_along}
use Rattle.vp9_types.specs.declared.shape.Plane.TheVariants.{Y, U, V}
use Rattle.planes.specs.Planes.{plane_map}
use Rattle.loop_edges.specs.FrameEdges.{superblock_edges}
use Rattle.loop_filter.proofs.Frames.{areas_kept, rows_kept}
use Rattle.loop_filter.proofs.Walks.{walk_more_plain, row_by, three_planes}
use Rattle.loop_filter.proofs.rows.filter_superblocks.Goals as goal

pub filter_planes-requires-clause-rows : goal.filter_planes-requires-clause-rows
filter_planes-requires-clause-rows g c = rows_kept c.args.f.now.setting.shape c.args.sr c.args.planes.now c.loop-sc.planes c.requires.rows c.loop-sc.invariant.areas

pub loop-sc-preserved : goal.loop-sc-preserved
loop-sc-preserved g c = let a = c.args in let i = c.loop-sc.invariant in let blocks = g.N.Neighbours.blocks a.blocks.now in record {
  areas = areas_kept a.planes.now c.loop-sc.planes c.filter_planes.new.planes i.areas c.filter_planes.ensures.areas;
  range = c.filter_planes.ensures.range;
  y = walk_more_plain (superblock_edges a.f.now.setting blocks Y a.sr) (plane_map a.planes.now.y) _ _ c.loop-sc.sc i.y c.filter_planes.ensures.y;
  u = walk_more_plain (superblock_edges a.f.now.setting blocks U a.sr) (plane_map a.planes.now.u) _ _ c.loop-sc.sc i.u c.filter_planes.ensures.u;
  v = walk_more_plain (superblock_edges a.f.now.setting blocks V a.sr) (plane_map a.planes.now.v) _ _ c.loop-sc.sc i.v c.filter_planes.ensures.v;
}

pub returns-clause-map : goal.returns-clause-map
returns-clause-map g c = let a = c.args in let i = c.loop-sc.invariant in let blocks = g.N.Neighbours.blocks a.blocks.now in let p = a.planes.now in
    let all : c.loop-sc.sc ≡ superblocks_along (mi_cols a.f.now.setting.shape) = omega (arith, c.loop-sc-test.false, c.loop-sc.auto) in
    three_planes a.f.now.setting blocks a.sr (plane_map p.y) (plane_map p.u) (plane_map p.v) _ _ _
    (row_by a.f.now.setting blocks Y a.sr (plane_map p.y) _ c.loop-sc.sc c.requires.on all i.y)
    (row_by a.f.now.setting blocks U a.sr (plane_map p.u) _ c.loop-sc.sc c.requires.on all i.u)
    (row_by a.f.now.setting blocks V a.sr (plane_map p.v) _ c.loop-sc.sc c.requires.on all i.v)
