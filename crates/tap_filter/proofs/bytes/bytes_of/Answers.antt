use Rattle.std.proofs.Common.{◌∙◌, sym, arith, inl, inr}
use Rattle.std.proofs.lemmas.Bool.{cases_lt}
use Rattle.std.proofs.lemmas.List.{get_or_past}
use Rattle.tap_filter.proofs.bytes.bytes_of.Goals as goal

pub returns : goal.returns
returns c = λ k. elim (cases_lt k 71) [
  | inl low ↦ c.loop-k.invariant.value k (omega (arith, low, c.loop-k-test.false))
  | inr past ↦ get_or_past c.loop-k.bytes k 0 (omega (arith, past, c.loop-k.invariant.long)) ∙ sym (get_or_past c.args.numbers.now k 0 (omega (arith, past, c.told-numbers)))
]
