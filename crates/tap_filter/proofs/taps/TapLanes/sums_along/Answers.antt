use Rattle.std.proofs.Common.{arith, ◌^◌}
use Rattle.tap_filter.proofs.LaneLemmas.{sums_again, turned_again, along_value}
use Rattle.tap_filter.proofs.taps.TapLanes.sums_along.Goals as goal

pub neighbours_at-p-requires-clause-taps : goal.neighbours_at-p-requires-clause-taps
neighbours_at-p-requires-clause-taps c = turned_again c.self.inside.first c.self.invariant.0

pub neighbours_at-q-requires-clause-taps : goal.neighbours_at-q-requires-clause-taps
neighbours_at-q-requires-clause-taps c = turned_again c.self.inside.second c.self.invariant.1

pub neighbours_at-r-requires-clause-taps : goal.neighbours_at-r-requires-clause-taps
neighbours_at-r-requires-clause-taps c = turned_again c.self.inside.third c.self.invariant.2

pub neighbours_at-s-requires-clause-taps : goal.neighbours_at-s-requires-clause-taps
neighbours_at-s-requires-clause-taps c = turned_again c.self.inside.fourth c.self.invariant.3

pub four_sums-requires-clause-p : goal.four_sums-requires-clause-p
four_sums-requires-clause-p c = sums_again c.neighbours_at-p.result (2 ^ 20) (omega arith) c.neighbours_at-p.ensures.lanes

pub four_sums-requires-clause-q : goal.four_sums-requires-clause-q
four_sums-requires-clause-q c = sums_again c.neighbours_at-q.result (2 ^ 20) (omega arith) c.neighbours_at-q.ensures.lanes

pub four_sums-requires-clause-r : goal.four_sums-requires-clause-r
four_sums-requires-clause-r c = sums_again c.neighbours_at-r.result (2 ^ 20) (omega arith) c.neighbours_at-r.ensures.lanes

pub four_sums-requires-clause-s : goal.four_sums-requires-clause-s
four_sums-requires-clause-s c = sums_again c.neighbours_at-s.result (2 ^ 20) (omega arith) c.neighbours_at-s.ensures.lanes

pub returns-clause-lanes : goal.returns-clause-lanes
returns-clause-lanes c = sums_again c.four_sums.result (2 ^ 22) (omega arith) c.four_sums.ensures.lanes

pub returns-clause-value : goal.returns-clause-value
returns-clause-value c = λ j low. let a = c.args in let t = c.self.inside in let n = c.self.invariant in
    along_value a.self.now t.first t.second t.third t.fourth a.samples.now a.place j c.neighbours_at-p.result c.neighbours_at-q.result c.neighbours_at-r.result c.neighbours_at-s.result
    c.four_sums.result c.self.view_is n.0 n.1 n.2 n.3 c.neighbours_at-p.ensures.lanes c.neighbours_at-q.ensures.lanes c.neighbours_at-r.ensures.lanes c.neighbours_at-s.ensures.lanes
    c.four_sums.ensures.lanes (c.four_sums.ensures.value j low) (c.neighbours_at-p.ensures.value j low) (c.neighbours_at-q.ensures.value j low) (c.neighbours_at-r.ensures.value j low)
    (c.neighbours_at-s.ensures.value j low)
