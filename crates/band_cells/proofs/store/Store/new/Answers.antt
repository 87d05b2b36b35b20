use Rattle.std.proofs.Common.{arith}
use Rattle.band_cells.proofs.Names.{name_more}
use Rattle.band_cells.proofs.store.Store.new.Goals as goal

pub loop-index-preserved : goal.loop-index-preserved
loop-index-preserved g c = (
  omega (arith, c.push_reserved.ensures.len, c.loop-index.invariant.0),
  omega (arith, c.push_reserved.ensures.capacity, c.loop-index.invariant.1),
  name_more _ _ _ _ 0 _ _ _ c.loop-index.invariant.2 (omega arith) c.new.ensures c.push_reserved.ensures.items,
)
