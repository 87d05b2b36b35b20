use Rattle.std.proofs.Common.{ℕ, ◌-◌, ◌*◌, ◌/◌, ◌∙◌, arith, inl, inr}
use Rattle.std.proofs.lemmas.Bool.{cases_lt}
use Rattle.tap_filter.proofs.ByteLemmas.{line_is}
use Rattle.tap_filter.proofs.bytes.filter_byte_line.Goals as goal

pub returns-then-whole-n-clause-value : goal.returns-then-whole-n-clause-value
returns-then-whole-n-clause-value c = λ j low. let a = c.args in let whole : ℕ = 16 * (a.n / 16) in elim (cases_lt j (16 * (a.n / 16))) [
  | inl front ↦ c.put_first.ensures.before j front ∙ c.loop-b.invariant.value j (omega arith)
  | inr rest ↦ c.put_first.ensures.put j rest (omega arith)
      ∙ c.bytes_along-values-then-whole-n.ensures (j - whole) (omega arith)
      ∙ line_is a.taps.now a.samples.now a.from whole j rest
]
