use Rattle.coef_tokens.specs.TokenSymbols.{tail_token}
use Rattle.vp9_types.specs.Trees.{tree_symbol}
use Rattle.std.proofs.Common.{true, false, arith}
use Rattle.token_writer.proofs.Tails.{way, last_way}
use Rattle.token_writer.proofs.tail.put_large.Goals as goal

pub returns-then-token-lt9 : goal.returns-then-token-lt9
unfolding tail_token tree_symbol
returns-then-token-lt9 c =
    way _ _ _ true _ _ _ _ c.in_ok-put_node.ensures (way _ _ _ true _ _ _ _ c.in_ok-put_node-2.ensures (way _ _ _ false _ _ _ _ c.in_ok-put_node-3.ensures
    (last_way 7 _ c.args.token _ _ (omega arith) (omega arith) c.in_ok-put_node-4.ensures)))

pub returns : goal.returns
unfolding tail_token tree_symbol
returns c =
    way _ _ _ true _ _ _ _ c.in_ok-put_node.ensures (way _ _ _ true _ _ _ _ c.in_ok-put_node-2.ensures (way _ _ _ true _ _ _ _ c.in_ok-put_node-5.ensures
    (last_way 9 _ c.args.token _ _ (omega arith) (omega arith) c.in_ok-put_node-6.ensures)))
