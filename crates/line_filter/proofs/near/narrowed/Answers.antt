use Rattle.line_filter.proofs.NearMasks.{near_is}
use Rattle.line_filter.proofs.near.narrowed.Goals as goal

pub returns : goal.returns
returns c = near_is c.args.x c.filter_mask-calm.result _ c.narrow-narrow.result _ _ c.filter_mask-calm.ensures c.narrow-narrow.ensures c.where_calm.ensures
