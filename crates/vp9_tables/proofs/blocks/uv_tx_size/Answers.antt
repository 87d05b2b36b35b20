use Rattle.vp9_tables.proofs.Sizes.{uv}
use Rattle.vp9_tables.proofs.blocks.uv_tx_size.Goals as goal

pub returns-clause-rule : goal.returns-clause-rule
returns-clause-rule c = uv c.args.size c.args.tx c.args.ss_x c.args.ss_y _ c.uv_entry.ensures
