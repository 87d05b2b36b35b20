use Rattle.std.proofs.Common.{◌+◌, ◌*◌, ◌^◌, slice_index, arith}
use Rattle.tap_filter.proofs.LaneLemmas.{samples_again, taps_again, sums_again, neighbours_value}
use Rattle.tap_filter.proofs.sixteen.neighbours_at.Goals as goal

pub pair_sums-requires-clause-p : goal.pair_sums-requires-clause-p
pair_sums-requires-clause-p c = samples_again c.load-p.result c.load-p.ensures.lanes

pub pair_sums-requires-clause-taps : goal.pair_sums-requires-clause-taps
pair_sums-requires-clause-taps c = taps_again c.args.taps c.requires.taps.lanes

pub returns-clause-lanes : goal.returns-clause-lanes
returns-clause-lanes c = sums_again c.pair_sums.result (2 ^ 20) (omega arith) c.pair_sums.ensures.lanes

pub returns-clause-value : goal.returns-clause-value
returns-clause-value c = λ j low. let a = c.args in
    neighbours_value a.taps c.load-p.result (slice_index a.samples.now (a.place + 2 * j)) (slice_index a.samples.now (a.place + (2 * j + 1))) j c.pair_sums.result
    low c.requires.taps c.load-p.ensures.lanes c.pair_sums.ensures.lanes (c.pair_sums.ensures.value j low)
    (c.load-p.ensures.value (2 * j) (omega arith)) (c.load-p.ensures.value (2 * j + 1) (omega arith))
