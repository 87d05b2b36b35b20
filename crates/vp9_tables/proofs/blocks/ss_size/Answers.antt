use Rattle.vp9_tables.proofs.Sizes.{chroma}
use Rattle.vp9_tables.proofs.blocks.ss_size.Goals as goal

pub returns-clause-part : goal.returns-clause-part
returns-clause-part c = chroma c.args.size c.args.ss_x c.args.ss_y _ c.ss_size_entry.ensures
