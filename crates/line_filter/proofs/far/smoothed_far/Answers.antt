use Rattle.line_filter.proofs.NearMasks.{smoothed_is}
use Rattle.line_filter.proofs.far.smoothed_far.Goals as goal

pub returns : goal.returns
returns c = smoothed_is c.args.l c.args.x c.args.y c.filter_mask-calm.result c.smooth_far-smooth.result c.chosen_far.result c.filter_mask-calm.ensures c.smooth_far-smooth.ensures c.chosen_far.ensures
