use Rattle.std.proofs.Common.{◌≡◌, ℕ, ◌+◌, ◌*◌, ◌/◌, ◌^◌, arith, inl, inr, subst, slice_index, get_or}
use Rattle.tap_filter.specs.Filter.{filtered}
use Rattle.tap_filter.proofs.LaneLemmas.{sums_again, turn_value, halves}
use Rattle.tap_filter.proofs.taps.TapLanes.filter_eight_along.Goals as goal

pub rounded_turns_of_eight-requires-clause-even : goal.rounded_turns_of_eight-requires-clause-even
rounded_turns_of_eight-requires-clause-even c = sums_again c.four_sums_along-even.result (2 ^ 22) (omega arith) c.four_sums_along-even.ensures.lanes

pub rounded_turns_of_eight-requires-clause-odd : goal.rounded_turns_of_eight-requires-clause-odd
rounded_turns_of_eight-requires-clause-odd c = sums_again c.four_sums_along-odd.result (2 ^ 22) (omega arith) c.four_sums_along-odd.ensures.lanes

pub returns : goal.returns
returns c = λ j low. let a = c.args in elim (halves j) [
  | inl even ↦
      subst (λ (i : ℕ). slice_index c.rounded_turns_of_eight.result i ≡ filtered a.most a.self.now (λ k. get_or a.samples.now (a.place + (i + k)) 0)) even
      (turn_value a.most a.self.now a.samples.now (2 * (j / 2)) (j / 2) (slice_index c.rounded_turns_of_eight.result (2 * (j / 2))) a.place a.place c.four_sums_along-even.result c.four_sums_along-even.ensures.lanes
      (λ k. omega arith) (c.rounded_turns_of_eight.ensures.even (j / 2) (omega arith)) (c.four_sums_along-even.ensures.value (j / 2) (omega arith)))
  | inr odd ↦
      subst (λ (i : ℕ). slice_index c.rounded_turns_of_eight.result i ≡ filtered a.most a.self.now (λ k. get_or a.samples.now (a.place + (i + k)) 0)) odd
      (turn_value a.most a.self.now a.samples.now (2 * (j / 2) + 1) (j / 2) (slice_index c.rounded_turns_of_eight.result (2 * (j / 2) + 1)) a.place (a.place + 1) c.four_sums_along-odd.result
      c.four_sums_along-odd.ensures.lanes (λ k. omega arith) (c.rounded_turns_of_eight.ensures.odd (j / 2) (omega arith)) (c.four_sums_along-odd.ensures.value (j / 2) (omega arith)))
]
