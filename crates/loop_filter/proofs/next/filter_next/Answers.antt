use Rattle.std.proofs.Common.{sym, subst}
use Rattle.vp9_types.specs.Maps.{FrameMap}
use Rattle.planes.specs.Pictures.{samples_of}
use Rattle.loop_filter.specs.Laws.{IsNextOf}
use Rattle.loop_filter.proofs.Following.{rows_follow}
use Rattle.loop_filter.proofs.next.filter_next.Goals as goal

pub returns-clause-next : goal.returns-clause-next
returns-clause-next g c = let a = c.args in
    subst (λ (m : FrameMap). IsNextOf a.f.now (g.N.Neighbours.blocks a.blocks.now) a.sr (samples_of a.planes.now) m) (sym c.filter_row.ensures.map)
    (rows_follow a.f.now (g.N.Neighbours.blocks a.blocks.now) a.sr (samples_of a.planes.now) c.requires.row)
