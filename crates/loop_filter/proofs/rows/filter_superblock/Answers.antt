use Rattle.planes.specs.Planes.{plane_map}
use Rattle.line_filter.specs.declared.edge.Pass.TheVariants.{Vertical, Horizontal}
use Rattle.loop_filter.specs.FilterPlans.{listed_edges}
use Rattle.loop_filter.proofs.Walks.{two_lists}
use Rattle.loop_filter.proofs.rows.filter_superblock.Goals as goal

pub returns-clause-map : goal.returns-clause-map
returns-clause-map g c = let a = c.args in let f = a.f.now.setting in
    two_lists (plane_map a.samples.now) _ _ (listed_edges f a.plane Vertical a.list.now) (listed_edges f a.plane Horizontal a.list.now)
    c.filter_pass.ensures.map c.filter_pass-2.ensures.map
