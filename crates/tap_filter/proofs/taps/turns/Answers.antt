use Rattle.tap_filter.proofs.LaneLemmas.{turns_kept}
use Rattle.tap_filter.proofs.taps.turns.Goals as goal

pub returns : goal.returns
returns c = turns_kept c.args.s c.args.t c.requires.s c.requires.t
