use Rattle.coef_tokens.specs.TokenSymbols.{tail_token}
use Rattle.vp9_types.specs.Trees.{tree_symbol}
use Rattle.std.proofs.Common.{true, false, refl, sym, arith}
use Rattle.token_writer.proofs.Tails.{way, last_way}
use Rattle.token_writer.proofs.tail.put_small.Goals as goal

pub returns-then-token-eq2 : goal.returns-then-token-eq2
unfolding tail_token tree_symbol
returns-then-token-eq2 c =
    way _ _ _ false _ _ _ _ c.in_ok-put_node.ensures (way _ _ _ false _ _ _ _ c.in_ok-put_node-2.ensures (sym c.if-token-eq2.true, refl))

pub returns : goal.returns
unfolding tail_token tree_symbol
returns c =
    let least = c.requires.least in
    let other = c.if-token-eq2.false in
    way _ _ _ false _ _ _ _ c.in_ok-put_node.ensures (way _ _ _ true _ _ _ _ c.in_ok-put_node-3.ensures
    (last_way 3 _ c.args.token _ _ (omega arith) (omega arith) c.in_ok-put_node-4.ensures))
