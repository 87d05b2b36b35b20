use Rattle.inter_modes.proofs.QuartersBySize.{luma_of_size}
use Rattle.inter_writer.proofs.intra_blocks.put_luma_modes.Goals as goal

pub returns : goal.returns
returns c = rw (luma_of_size c.args.probs.now c.args.size) c.put_by_size.ensures
