use Rattle.band_needs.proofs.RowLemmas.{range_is}
use Rattle.band_needs.proofs.blocks.part_range.Goals as goal

pub returns : goal.returns
returns c = let a = c.args in range_is a.b.now.shape.now a.reference.now a.b.now.block.now a.b.now.modes.now a.part _ _ _ c.place_rows-at.ensures.down c.place_rows-at.ensures.rows c.rows_range.ensures
