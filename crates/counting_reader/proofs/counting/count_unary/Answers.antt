use Rattle.std.proofs.Common.{arith}
use Rattle.counting_reader.proofs.CountedBools.{counts_none, ones_more, unary_ends, unary_full}
use Rattle.counting_reader.proofs.counting.count_unary.Goals as goal

pub loop-k-init : goal.loop-k-init
loop-k-init c = counts_none c.args.counts.now

pub loop-k-preserved : goal.loop-k-preserved
loop-k-preserved c =
    ones_more c.args.kind c.args.first c.loop-k.k c.args.counts.now c.loop-k.counts c.count.new.self c.loop-k.invariant c.count.ensures

pub returns-then-symbol-nodes : goal.returns-then-symbol-nodes
returns-then-symbol-nodes c =
    unary_ends c.args.kind c.args.first c.args.nodes c.args.symbol c.loop-k.k c.args.counts.now c.loop-k.counts c.count-then-symbol-nodes.new.self
    (omega arith) c.if-symbol-nodes.true c.loop-k.invariant c.count-then-symbol-nodes.ensures

pub returns-else-symbol-nodes : goal.returns-else-symbol-nodes
returns-else-symbol-nodes c =
    unary_full c.args.kind c.args.first c.args.nodes c.args.symbol c.loop-k.k c.args.counts.now c.loop-k.counts
    (omega arith) c.if-symbol-nodes.false c.loop-k.invariant
