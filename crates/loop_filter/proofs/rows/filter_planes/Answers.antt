use Rattle.vp9_types.specs.declared.shape.Plane.TheVariants.{Y, U, V}
use Rattle.planes.specs.Planes.{plane_map}
use Rattle.loop_filter.proofs.PlannedEdges.{both_passes}
use Rattle.loop_filter.proofs.Within.{cells_within}
use Rattle.loop_filter.proofs.rows.filter_planes.Goals as goal

pub filter_superblock-requires-clause-cells : goal.filter_superblock-requires-clause-cells
filter_superblock-requires-clause-cells g c = let a = c.args in let so = c.plan_superblock.ensures Y in
    cells_within a.f.now.setting Y a.planes.now.y.area a.sr c.plan_superblock.new.plans.luma c.requires.rows.y so.few so.cells

pub filter_superblock-requires-2-clause-cells : goal.filter_superblock-requires-2-clause-cells
filter_superblock-requires-2-clause-cells g c = let a = c.args in let so = c.plan_superblock.ensures U in
    cells_within a.f.now.setting U a.planes.now.u.area a.sr c.plan_superblock.new.plans.chroma c.requires.rows.u so.few so.cells

pub filter_superblock-requires-3-clause-cells : goal.filter_superblock-requires-3-clause-cells
filter_superblock-requires-3-clause-cells g c = let a = c.args in let so = c.plan_superblock.ensures V in
    cells_within a.f.now.setting V a.planes.now.v.area a.sr c.plan_superblock.new.plans.chroma c.requires.rows.v so.few so.cells

pub returns-clause-y : goal.returns-clause-y
returns-clause-y g c = let a = c.args in
    both_passes a.f.now.setting (g.N.Neighbours.blocks a.blocks.now) Y a.sr a.sc c.plan_superblock.new.plans.luma (plane_map a.planes.now.y) _
    (c.plan_superblock.ensures Y) c.filter_superblock.ensures.map

pub returns-clause-u : goal.returns-clause-u
returns-clause-u g c = let a = c.args in
    both_passes a.f.now.setting (g.N.Neighbours.blocks a.blocks.now) U a.sr a.sc c.plan_superblock.new.plans.chroma (plane_map a.planes.now.u) _
    (c.plan_superblock.ensures U) c.filter_superblock-2.ensures.map

pub returns-clause-v : goal.returns-clause-v
returns-clause-v g c = let a = c.args in
    both_passes a.f.now.setting (g.N.Neighbours.blocks a.blocks.now) V a.sr a.sc c.plan_superblock.new.plans.chroma (plane_map a.planes.now.v) _
    (c.plan_superblock.ensures V) c.filter_superblock-3.ensures.map
