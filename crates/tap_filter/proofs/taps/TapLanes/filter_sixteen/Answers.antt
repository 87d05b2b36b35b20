use Rattle.std.proofs.Common.{◌≡◌, ℕ, ◌+◌, ◌*◌, ◌^◌, arith, inl, inr, subst, slice_index, get_or}
use Rattle.tap_filter.specs.Filter.{filtered}
use Rattle.tap_filter.specs.Code.{low_lane, high_lane}
use Rattle.tap_filter.proofs.LaneLemmas.{sums_again, turned_again, sixteen_value, half_lane, half_below, lane_cases}
use Rattle.tap_filter.proofs.taps.TapLanes.filter_sixteen.Goals as goal

pub pair_at-p-requires-clause-taps : goal.pair_at-p-requires-clause-taps
pair_at-p-requires-clause-taps c = turned_again c.self.inside.first c.self.invariant.0

pub pair_at-q-requires-clause-taps : goal.pair_at-q-requires-clause-taps
pair_at-q-requires-clause-taps c = turned_again c.self.inside.second c.self.invariant.1

pub pair_at-r-requires-clause-taps : goal.pair_at-r-requires-clause-taps
pair_at-r-requires-clause-taps c = turned_again c.self.inside.third c.self.invariant.2

pub pair_at-s-requires-clause-taps : goal.pair_at-s-requires-clause-taps
pair_at-s-requires-clause-taps c = turned_again c.self.inside.fourth c.self.invariant.3

pub four_sums-low-requires-clause-p : goal.four_sums-low-requires-clause-p
four_sums-low-requires-clause-p c = sums_again c.pair_at-p.result.0 (2 ^ 20) (omega arith) c.pair_at-p.ensures.first

pub four_sums-low-requires-clause-q : goal.four_sums-low-requires-clause-q
four_sums-low-requires-clause-q c = sums_again c.pair_at-q.result.0 (2 ^ 20) (omega arith) c.pair_at-q.ensures.first

pub four_sums-low-requires-clause-r : goal.four_sums-low-requires-clause-r
four_sums-low-requires-clause-r c = sums_again c.pair_at-r.result.0 (2 ^ 20) (omega arith) c.pair_at-r.ensures.first

pub four_sums-low-requires-clause-s : goal.four_sums-low-requires-clause-s
four_sums-low-requires-clause-s c = sums_again c.pair_at-s.result.0 (2 ^ 20) (omega arith) c.pair_at-s.ensures.first

pub four_sums-high-requires-clause-p : goal.four_sums-high-requires-clause-p
four_sums-high-requires-clause-p c = sums_again c.pair_at-p.result.1 (2 ^ 20) (omega arith) c.pair_at-p.ensures.second

pub four_sums-high-requires-clause-q : goal.four_sums-high-requires-clause-q
four_sums-high-requires-clause-q c = sums_again c.pair_at-q.result.1 (2 ^ 20) (omega arith) c.pair_at-q.ensures.second

pub four_sums-high-requires-clause-r : goal.four_sums-high-requires-clause-r
four_sums-high-requires-clause-r c = sums_again c.pair_at-r.result.1 (2 ^ 20) (omega arith) c.pair_at-r.ensures.second

pub four_sums-high-requires-clause-s : goal.four_sums-high-requires-clause-s
four_sums-high-requires-clause-s c = sums_again c.pair_at-s.result.1 (2 ^ 20) (omega arith) c.pair_at-s.ensures.second

pub rounded_lanes-requires-clause-low : goal.rounded_lanes-requires-clause-low
rounded_lanes-requires-clause-low c = sums_again c.four_sums-low.result (2 ^ 22) (omega arith) c.four_sums-low.ensures.lanes

pub rounded_lanes-requires-clause-high : goal.rounded_lanes-requires-clause-high
rounded_lanes-requires-clause-high c = sums_again c.four_sums-high.result (2 ^ 22) (omega arith) c.four_sums-high.ensures.lanes

pub returns : goal.returns
returns c = λ i low. let a = c.args in let t = c.self.inside in let n = c.self.invariant in elim (lane_cases i) [
  | inl is ↦ let few = half_below i low in
      subst (λ (k : ℕ). slice_index c.rounded_lanes.result k ≡ filtered a.most a.self.now (λ m. get_or a.samples.now (a.place + m * a.step + k) 0)) is
      (sixteen_value a.most a.self.now t.first t.second t.third t.fourth a.samples.now a.place a.step (low_lane (half_lane i)) (half_lane i) (slice_index c.rounded_lanes.result (low_lane (half_lane i)))
      c.pair_at-p.result.0 c.pair_at-q.result.0 c.pair_at-r.result.0 c.pair_at-s.result.0 c.four_sums-low.result
      c.self.view_is n.0 n.1 n.2 n.3 c.pair_at-p.ensures.first c.pair_at-q.ensures.first c.pair_at-r.ensures.first c.pair_at-s.ensures.first c.four_sums-low.ensures.lanes
      (c.rounded_lanes.ensures.low (half_lane i) few) (c.four_sums-low.ensures.value (half_lane i) few)
      (c.pair_at-p.ensures.first_value (half_lane i) few) (c.pair_at-q.ensures.first_value (half_lane i) few) (c.pair_at-r.ensures.first_value (half_lane i) few) (c.pair_at-s.ensures.first_value (half_lane i) few))
  | inr is ↦ let few = half_below i low in
      subst (λ (k : ℕ). slice_index c.rounded_lanes.result k ≡ filtered a.most a.self.now (λ m. get_or a.samples.now (a.place + m * a.step + k) 0)) is
      (sixteen_value a.most a.self.now t.first t.second t.third t.fourth a.samples.now a.place a.step (high_lane (half_lane i)) (half_lane i) (slice_index c.rounded_lanes.result (high_lane (half_lane i)))
      c.pair_at-p.result.1 c.pair_at-q.result.1 c.pair_at-r.result.1 c.pair_at-s.result.1 c.four_sums-high.result
      c.self.view_is n.0 n.1 n.2 n.3 c.pair_at-p.ensures.second c.pair_at-q.ensures.second c.pair_at-r.ensures.second c.pair_at-s.ensures.second c.four_sums-high.ensures.lanes
      (c.rounded_lanes.ensures.high (half_lane i) few) (c.four_sums-high.ensures.value (half_lane i) few)
      (c.pair_at-p.ensures.second_value (half_lane i) few) (c.pair_at-q.ensures.second_value (half_lane i) few) (c.pair_at-r.ensures.second_value (half_lane i) few) (c.pair_at-s.ensures.second_value (half_lane i) few))
]
