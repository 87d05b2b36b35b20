use Rattle.std.proofs.Common.{arith}
use Rattle.residue_transforms.proofs.Skips.{zero_columns}
use Rattle.residue_transforms.proofs.kind.is_zero.Goals as goal

pub returns : goal.returns
returns c = zero_columns c.args.t.now c.loop-row.row-index (omega arith) c.loop-row.invariant
