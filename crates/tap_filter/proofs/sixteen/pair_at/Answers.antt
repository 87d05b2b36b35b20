use Rattle.std.proofs.Common.{◌+◌, slice_index, arith, ◌^◌}
use Rattle.tap_filter.specs.Code.{low_lane, high_lane}
use Rattle.tap_filter.proofs.LaneLemmas.{samples_again, taps_again, sums_again, pair_value, low_below, high_below}
use Rattle.tap_filter.proofs.sixteen.pair_at.Goals as goal

pub woven-requires-clause-p : goal.woven-requires-clause-p
woven-requires-clause-p c = samples_again c.load-p.result c.load-p.ensures.lanes

pub woven-requires-clause-q : goal.woven-requires-clause-q
woven-requires-clause-q c = samples_again c.load-q.result c.load-q.ensures.lanes

pub pair_sums-first-requires-clause-p : goal.pair_sums-first-requires-clause-p
pair_sums-first-requires-clause-p c = samples_again c.woven.result.0 c.woven.ensures.first

pub pair_sums-first-requires-clause-taps : goal.pair_sums-first-requires-clause-taps
pair_sums-first-requires-clause-taps c = taps_again c.args.taps c.requires.taps.lanes

pub pair_sums-second-requires-clause-p : goal.pair_sums-second-requires-clause-p
pair_sums-second-requires-clause-p c = samples_again c.woven.result.1 c.woven.ensures.second

pub pair_sums-second-requires-clause-taps : goal.pair_sums-second-requires-clause-taps
pair_sums-second-requires-clause-taps c = taps_again c.args.taps c.requires.taps.lanes

pub returns-clause-first : goal.returns-clause-first
returns-clause-first c = sums_again c.pair_sums-first.result (2 ^ 20) (omega arith) c.pair_sums-first.ensures.lanes

pub returns-clause-second : goal.returns-clause-second
returns-clause-second c = sums_again c.pair_sums-second.result (2 ^ 20) (omega arith) c.pair_sums-second.ensures.lanes

pub returns-clause-first_value : goal.returns-clause-first_value
returns-clause-first_value c = λ j low. let a = c.args in
    pair_value a.taps c.woven.result.0 c.load-p.result c.load-q.result (slice_index a.samples.now (a.place + low_lane j)) (slice_index a.samples.now (a.place + a.step + low_lane j)) (low_lane j) j c.pair_sums-first.result
    low c.requires.taps c.woven.ensures.first c.load-p.ensures.lanes c.load-q.ensures.lanes c.pair_sums-first.ensures.lanes (c.pair_sums-first.ensures.value j low)
    (c.woven.ensures.first_even j low) (c.woven.ensures.first_odd j low) (c.load-p.ensures.value (low_lane j) (low_below j low)) (c.load-q.ensures.value (low_lane j) (low_below j low))

pub returns-clause-second_value : goal.returns-clause-second_value
returns-clause-second_value c = λ j low. let a = c.args in
    pair_value a.taps c.woven.result.1 c.load-p.result c.load-q.result (slice_index a.samples.now (a.place + high_lane j)) (slice_index a.samples.now (a.place + a.step + high_lane j)) (high_lane j) j
    c.pair_sums-second.result low c.requires.taps c.woven.ensures.second c.load-p.ensures.lanes c.load-q.ensures.lanes c.pair_sums-second.ensures.lanes (c.pair_sums-second.ensures.value j low)
    (c.woven.ensures.second_even j low) (c.woven.ensures.second_odd j low) (c.load-p.ensures.value (high_lane j) (high_below j low)) (c.load-q.ensures.value (high_lane j) (high_below j low))
