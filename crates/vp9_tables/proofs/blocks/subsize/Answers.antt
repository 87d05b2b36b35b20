use Rattle.vp9_tables.proofs.Sizes.{parts}
use Rattle.vp9_tables.proofs.blocks.subsize.Goals as goal

pub returns-clause-part : goal.returns-clause-part
returns-clause-part c = parts c.args.partition c.args.size _ c.subsize_entry.ensures
