use Rattle.mode_syntax.proofs.BySize.{luma_by_size}
use Rattle.mode_writer.proofs.intra_modes.put_luma_modes.Goals as goal

pub returns : goal.returns
returns c = rw (luma_by_size c.args.size c.args.edge) c.put_by_size.ensures
