use Rattle.coef_tokens.specs.TokenSymbols.{tail_token}
use Rattle.vp9_types.specs.Trees.{tree_symbol}
use Rattle.std.proofs.Common.{true, false, arith}
use Rattle.token_writer.proofs.Tails.{way, last_way}
use Rattle.token_writer.proofs.tail.put_tail.Goals as goal

pub returns : goal.returns
unfolding tail_token tree_symbol
returns c =
    way _ _ _ true _ _ _ _ c.in_ok-put_node.ensures (way _ _ _ false _ _ _ _ c.in_ok-put_node-2.ensures
    (last_way 5 _ c.args.token _ _ (omega arith) (omega arith) c.in_ok-put_node-3.ensures))
