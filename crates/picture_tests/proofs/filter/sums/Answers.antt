use Rattle.planes.proofs.PictureLemmas.{blank_in_range}
use Rattle.picture_tests.proofs.filter.sums.Goals as goal

pub draw-requires-clause-range : goal.draw-requires-clause-range
draw-requires-clause-range g c = blank_in_range c.args.f.now.shape.depth c.in_ok-planes.planes c.in_ok-planes.ensures.zero
