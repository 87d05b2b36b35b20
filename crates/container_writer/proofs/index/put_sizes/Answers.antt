use Rattle.container_writer.proofs.WrittenIndexes.{sizes_go}
use Rattle.container_writer.proofs.index.put_sizes.Goals as goal

pub loop-i-preserved : goal.loop-i-preserved
loop-i-preserved c =
    sizes_go c.args.out.now.items c.loop-i.out.items c.put_size.new.out.items c.args.sizes.now c.args.width c.loop-i.i c.loop-i-test.true c.loop-i.invariant c.in_ok-put_size.ensures.put
