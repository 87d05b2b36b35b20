use Rattle.vp9_tables.proofs.Sizes.{greatest}
use Rattle.vp9_tables.proofs.blocks.max_tx_size.Goals as goal

pub returns-clause-greatest : goal.returns-clause-greatest
returns-clause-greatest c = greatest c.args.size _ c.max_tx_entry.ensures
