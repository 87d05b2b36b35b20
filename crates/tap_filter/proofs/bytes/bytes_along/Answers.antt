use Rattle.std.proofs.Common.{◌∙◌}
use Rattle.tap_filter.proofs.ByteLemmas.{along_is}
use Rattle.tap_filter.proofs.bytes.bytes_along.Goals as goal

pub returns : goal.returns
returns c = λ j low. let a = c.args in c.filtered_bytes.ensures j low ∙ along_is a.taps.now a.samples.now a.place j
