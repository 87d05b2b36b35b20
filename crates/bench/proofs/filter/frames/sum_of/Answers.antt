use Rattle.planes.proofs.PictureLemmas.{blank_in_range}
use Rattle.bench.proofs.filter.frames.sum_of.Goals as goal

pub filter_frames-requires-clause-range : goal.filter_frames-requires-clause-range
filter_frames-requires-clause-range g c = blank_in_range c.setting_of-f.result.shape.depth c.in_ok-planes.planes c.in_ok-planes.ensures.zero
