use Rattle.std.proofs.Common.{arith}
use Rattle.container_writer.proofs.WrittenIndexes.{greatest_goes, greatest_ends}
use Rattle.container_writer.proofs.index.greatest_of.Goals as goal

pub loop-i-init : goal.loop-i-init
loop-i-init c = omega arith

pub loop-i-preserved : goal.loop-i-preserved
loop-i-preserved c = rw c.larger-most.ensures (greatest_goes c.args.sizes.now c.loop-i.most c.loop-i.i c.loop-i-test.true c.loop-i.invariant)

pub returns : goal.returns
returns c = greatest_ends c.args.sizes.now c.loop-i.most c.loop-i.i c.loop-i-test.false c.loop-i.invariant
