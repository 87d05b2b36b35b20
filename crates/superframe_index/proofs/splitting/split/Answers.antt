use Rattle.superframe_index.proofs.Splits.{split_as, whole_as}
use Rattle.superframe_index.proofs.splitting.split.Goals as goal

pub returns-in-Some : goal.returns-in-Some
returns-in-Some c = split_as c.args.payload.now _ _ c.in-Some.ensures.exact c.split_by.ensures

pub returns-in-None : goal.returns-in-None
returns-in-None c = whole_as c.args.payload.now c.whole.result c.in-None.ensures.exact c.whole.ensures
