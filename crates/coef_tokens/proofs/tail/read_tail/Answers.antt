use Rattle.std.proofs.Common.{◌∙◌}
use Rattle.vp9_types.specs.Trees.{tree_symbol}
use Rattle.coef_tokens.specs.TokenSymbols.{tail_token}
use Rattle.coef_tokens.proofs.Bits.{on_one, on_zero}
use Rattle.coef_tokens.proofs.tail.read_tail.Goals as goal

pub returns-then-not-branch-2-clause-read : goal.returns-then-not-branch-2-clause-read
unfolding tail_token tree_symbol
returns-then-not-branch-2-clause-read c =
    on_zero _ _ _ _ _ _ _ c.tail_prob.ensures c.branch-decoder.ensures.value c.branch-decoder.ensures.moves c.if-not-branch.true
    ∙ (on_zero _ _ _ _ _ _ _ c.tail_prob-then-not-branch.ensures c.branch-decoder-then-not-branch.ensures.value c.branch-decoder-then-not-branch.ensures.moves c.if-not-branch-2.true)

pub returns-then-bit-clause-read : goal.returns-then-bit-clause-read
unfolding tail_token tree_symbol
returns-then-bit-clause-read c =
    on_zero _ _ _ _ _ _ _ c.tail_prob.ensures c.branch-decoder.ensures.value c.branch-decoder.ensures.moves c.if-not-branch.true
    ∙ (on_one _ _ _ _ _ _ _ c.tail_prob-then-not-branch.ensures c.branch-decoder-then-not-branch.ensures.value c.branch-decoder-then-not-branch.ensures.moves c.if-not-branch-2.false
    ∙ (on_one _ _ _ _ _ _ _ c.tail_prob-then-not-branch-2.ensures c.bit.ensures.value c.bit.ensures.moves c.if-bit.true))

pub returns-else-bit-clause-read : goal.returns-else-bit-clause-read
unfolding tail_token tree_symbol
returns-else-bit-clause-read c =
    on_zero _ _ _ _ _ _ _ c.tail_prob.ensures c.branch-decoder.ensures.value c.branch-decoder.ensures.moves c.if-not-branch.true
    ∙ (on_one _ _ _ _ _ _ _ c.tail_prob-then-not-branch.ensures c.branch-decoder-then-not-branch.ensures.value c.branch-decoder-then-not-branch.ensures.moves c.if-not-branch-2.false
    ∙ (on_zero _ _ _ _ _ _ _ c.tail_prob-then-not-branch-2.ensures c.bit.ensures.value c.bit.ensures.moves c.if-bit.false))

pub returns-then-bit-2-clause-read : goal.returns-then-bit-2-clause-read
unfolding tail_token tree_symbol
returns-then-bit-2-clause-read c =
    on_one _ _ _ _ _ _ _ c.tail_prob.ensures c.branch-decoder.ensures.value c.branch-decoder.ensures.moves c.if-not-branch.false
    ∙ (on_zero _ _ _ _ _ _ _ c.tail_prob-2.ensures c.branch-decoder-2.ensures.value c.branch-decoder-2.ensures.moves c.if-not-branch-3.true
    ∙ (on_one _ _ _ _ _ _ _ c.tail_prob-then-not-branch-3.ensures c.bit-then-not-branch-3.ensures.value c.bit-then-not-branch-3.ensures.moves c.if-bit-2.true))

pub returns-else-bit-2-clause-read : goal.returns-else-bit-2-clause-read
unfolding tail_token tree_symbol
returns-else-bit-2-clause-read c =
    on_one _ _ _ _ _ _ _ c.tail_prob.ensures c.branch-decoder.ensures.value c.branch-decoder.ensures.moves c.if-not-branch.false
    ∙ (on_zero _ _ _ _ _ _ _ c.tail_prob-2.ensures c.branch-decoder-2.ensures.value c.branch-decoder-2.ensures.moves c.if-not-branch-3.true
    ∙ (on_zero _ _ _ _ _ _ _ c.tail_prob-then-not-branch-3.ensures c.bit-then-not-branch-3.ensures.value c.bit-then-not-branch-3.ensures.moves c.if-bit-2.false))

pub returns-then-bit-3-clause-read : goal.returns-then-bit-3-clause-read
unfolding tail_token tree_symbol
returns-then-bit-3-clause-read c =
    on_one _ _ _ _ _ _ _ c.tail_prob.ensures c.branch-decoder.ensures.value c.branch-decoder.ensures.moves c.if-not-branch.false
    ∙ (on_one _ _ _ _ _ _ _ c.tail_prob-2.ensures c.branch-decoder-2.ensures.value c.branch-decoder-2.ensures.moves c.if-not-branch-3.false
    ∙ (on_zero _ _ _ _ _ _ _ c.tail_prob-3.ensures c.branch-decoder-3.ensures.value c.branch-decoder-3.ensures.moves c.if-not-branch-4.true
    ∙ (on_one _ _ _ _ _ _ _ c.tail_prob-then-not-branch-4.ensures c.bit-then-not-branch-4.ensures.value c.bit-then-not-branch-4.ensures.moves c.if-bit-3.true)))

pub returns-else-bit-3-clause-read : goal.returns-else-bit-3-clause-read
unfolding tail_token tree_symbol
returns-else-bit-3-clause-read c =
    on_one _ _ _ _ _ _ _ c.tail_prob.ensures c.branch-decoder.ensures.value c.branch-decoder.ensures.moves c.if-not-branch.false
    ∙ (on_one _ _ _ _ _ _ _ c.tail_prob-2.ensures c.branch-decoder-2.ensures.value c.branch-decoder-2.ensures.moves c.if-not-branch-3.false
    ∙ (on_zero _ _ _ _ _ _ _ c.tail_prob-3.ensures c.branch-decoder-3.ensures.value c.branch-decoder-3.ensures.moves c.if-not-branch-4.true
    ∙ (on_zero _ _ _ _ _ _ _ c.tail_prob-then-not-branch-4.ensures c.bit-then-not-branch-4.ensures.value c.bit-then-not-branch-4.ensures.moves c.if-bit-3.false)))

pub returns-then-bit-4-clause-read : goal.returns-then-bit-4-clause-read
unfolding tail_token tree_symbol
returns-then-bit-4-clause-read c =
    on_one _ _ _ _ _ _ _ c.tail_prob.ensures c.branch-decoder.ensures.value c.branch-decoder.ensures.moves c.if-not-branch.false
    ∙ (on_one _ _ _ _ _ _ _ c.tail_prob-2.ensures c.branch-decoder-2.ensures.value c.branch-decoder-2.ensures.moves c.if-not-branch-3.false
    ∙ (on_one _ _ _ _ _ _ _ c.tail_prob-3.ensures c.branch-decoder-3.ensures.value c.branch-decoder-3.ensures.moves c.if-not-branch-4.false
    ∙ (on_one _ _ _ _ _ _ _ c.tail_prob-4.ensures c.bit-2.ensures.value c.bit-2.ensures.moves c.if-bit-4.true)))

pub returns-else-bit-4-clause-read : goal.returns-else-bit-4-clause-read
unfolding tail_token tree_symbol
returns-else-bit-4-clause-read c =
    on_one _ _ _ _ _ _ _ c.tail_prob.ensures c.branch-decoder.ensures.value c.branch-decoder.ensures.moves c.if-not-branch.false
    ∙ (on_one _ _ _ _ _ _ _ c.tail_prob-2.ensures c.branch-decoder-2.ensures.value c.branch-decoder-2.ensures.moves c.if-not-branch-3.false
    ∙ (on_one _ _ _ _ _ _ _ c.tail_prob-3.ensures c.branch-decoder-3.ensures.value c.branch-decoder-3.ensures.moves c.if-not-branch-4.false
    ∙ (on_zero _ _ _ _ _ _ _ c.tail_prob-4.ensures c.bit-2.ensures.value c.bit-2.ensures.moves c.if-bit-4.false)))
