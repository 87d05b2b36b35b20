use Rattle.tap_filter.specs.Code.{AreLanes}
use Rattle.tap_filter.proofs.LaneLemmas.{samples_again, taps_again, sum_again, run_value}
use Rattle.tap_filter.proofs.numbers.weighted_run.Goals as goal

pub pair_sums_of_eight-requires-clause-p : goal.pair_sums_of_eight-requires-clause-p
pair_sums_of_eight-requires-clause-p c = samples_again c.load_eight-run.result c.load_eight-run.ensures.lanes

pub pair_sums_of_eight-requires-clause-taps : goal.pair_sums_of_eight-requires-clause-taps
pair_sums_of_eight-requires-clause-taps c = let taps : AreLanes 8 128 c.args.taps.now = record { long = c.told-taps; small = c.requires.taps } in taps_again c.args.taps.now taps

pub four_of-requires-clause-a : goal.four_of-requires-clause-a
four_of-requires-clause-a c = rw (sum_again c.pair_sums_of_eight.result 0 c.pair_sums_of_eight.ensures.lanes) (c.pair_sums_of_eight.ensures.lanes.small 0)

pub four_of-requires-clause-b : goal.four_of-requires-clause-b
four_of-requires-clause-b c = rw (sum_again c.pair_sums_of_eight.result 1 c.pair_sums_of_eight.ensures.lanes) (c.pair_sums_of_eight.ensures.lanes.small 1)

pub four_of-requires-clause-c : goal.four_of-requires-clause-c
four_of-requires-clause-c c = rw (sum_again c.pair_sums_of_eight.result 2 c.pair_sums_of_eight.ensures.lanes) (c.pair_sums_of_eight.ensures.lanes.small 2)

pub four_of-requires-clause-d : goal.four_of-requires-clause-d
four_of-requires-clause-d c = rw (sum_again c.pair_sums_of_eight.result 3 c.pair_sums_of_eight.ensures.lanes) (c.pair_sums_of_eight.ensures.lanes.small 3)

pub returns-clause-value : goal.returns-clause-value
returns-clause-value c = let a = c.args in let taps : AreLanes 8 128 a.taps.now = record { long = c.told-taps; small = c.requires.taps } in
    run_value a.taps.now c.load_eight-run.result a.samples.now a.place c.pair_sums_of_eight.result c.four_of.result taps c.load_eight-run.ensures.lanes c.pair_sums_of_eight.ensures.lanes
    c.four_of.ensures.size c.four_of.ensures.value c.pair_sums_of_eight.ensures.value c.load_eight-run.ensures.value
