use Rattle.std.proofs.Common.{arith}
use Rattle.residue_transforms.proofs.Flats.{alone_to_end}
use Rattle.residue_transforms.proofs.first.is_first_alone.Goals as goal

pub returns : goal.returns
returns c = alone_to_end c.args.block.now c.loop-place.place c.loop-place.all (omega arith) c.loop-place.invariant
