use Rattle.std.proofs.Common.{arith, ◌^◌}
use Rattle.tap_filter.proofs.LaneLemmas.{sums_again, turned_again, half_value}
use Rattle.tap_filter.proofs.taps.TapLanes.four_sums_along.Goals as goal

pub half_of-a-requires : goal.half_of-a-requires
half_of-a-requires c = turned_again c.self.inside.first c.self.invariant.0

pub half_of-b-requires : goal.half_of-b-requires
half_of-b-requires c = turned_again c.self.inside.second c.self.invariant.1

pub half_of-c-requires : goal.half_of-c-requires
half_of-c-requires c = turned_again c.self.inside.third c.self.invariant.2

pub half_of-d-requires : goal.half_of-d-requires
half_of-d-requires c = turned_again c.self.inside.fourth c.self.invariant.3

pub four_neighbours_at-p-requires-clause-taps : goal.four_neighbours_at-p-requires-clause-taps
four_neighbours_at-p-requires-clause-taps c = turned_again c.half_of-a.result c.half_of-a.ensures.turned

pub four_neighbours_at-q-requires-clause-taps : goal.four_neighbours_at-q-requires-clause-taps
four_neighbours_at-q-requires-clause-taps c = turned_again c.half_of-b.result c.half_of-b.ensures.turned

pub four_neighbours_at-r-requires-clause-taps : goal.four_neighbours_at-r-requires-clause-taps
four_neighbours_at-r-requires-clause-taps c = turned_again c.half_of-c.result c.half_of-c.ensures.turned

pub four_neighbours_at-s-requires-clause-taps : goal.four_neighbours_at-s-requires-clause-taps
four_neighbours_at-s-requires-clause-taps c = turned_again c.half_of-d.result c.half_of-d.ensures.turned

pub four_sums_of_four-requires-clause-p : goal.four_sums_of_four-requires-clause-p
four_sums_of_four-requires-clause-p c = sums_again c.four_neighbours_at-p.result (2 ^ 20) (omega arith) c.four_neighbours_at-p.ensures.lanes

pub four_sums_of_four-requires-clause-q : goal.four_sums_of_four-requires-clause-q
four_sums_of_four-requires-clause-q c = sums_again c.four_neighbours_at-q.result (2 ^ 20) (omega arith) c.four_neighbours_at-q.ensures.lanes

pub four_sums_of_four-requires-clause-r : goal.four_sums_of_four-requires-clause-r
four_sums_of_four-requires-clause-r c = sums_again c.four_neighbours_at-r.result (2 ^ 20) (omega arith) c.four_neighbours_at-r.ensures.lanes

pub four_sums_of_four-requires-clause-s : goal.four_sums_of_four-requires-clause-s
four_sums_of_four-requires-clause-s c = sums_again c.four_neighbours_at-s.result (2 ^ 20) (omega arith) c.four_neighbours_at-s.ensures.lanes

pub returns-clause-lanes : goal.returns-clause-lanes
returns-clause-lanes c = sums_again c.four_sums_of_four.result (2 ^ 22) (omega arith) c.four_sums_of_four.ensures.lanes

pub returns-clause-value : goal.returns-clause-value
returns-clause-value c = λ j low. let a = c.args in let t = c.self.inside in let n = c.self.invariant in
    half_value a.self.now t.first t.second t.third t.fourth c.half_of-a.result c.half_of-b.result c.half_of-c.result c.half_of-d.result a.samples.now a.place j
    c.four_neighbours_at-p.result c.four_neighbours_at-q.result c.four_neighbours_at-r.result c.four_neighbours_at-s.result c.four_sums_of_four.result c.self.view_is n.0 n.1 n.2 n.3
    c.half_of-a.ensures.turned c.half_of-b.ensures.turned c.half_of-c.ensures.turned c.half_of-d.ensures.turned
    c.half_of-a.ensures.first c.half_of-a.ensures.second c.half_of-b.ensures.first c.half_of-b.ensures.second
    c.half_of-c.ensures.first c.half_of-c.ensures.second c.half_of-d.ensures.first c.half_of-d.ensures.second
    c.four_neighbours_at-p.ensures.lanes c.four_neighbours_at-q.ensures.lanes c.four_neighbours_at-r.ensures.lanes c.four_neighbours_at-s.ensures.lanes c.four_sums_of_four.ensures.lanes
    (c.four_sums_of_four.ensures.value j low) (c.four_neighbours_at-p.ensures.value j low) (c.four_neighbours_at-q.ensures.value j low) (c.four_neighbours_at-r.ensures.value j low)
    (c.four_neighbours_at-s.ensures.value j low)
