use Rattle.std.proofs.Common.{length}
use Rattle.inverse_transforms.specs.LaneColumns.{column}
use Rattle.residue_transforms.proofs.Skips.{skipped}
use Rattle.residue_transforms.proofs.kind.transform_nonzero.Goals as goal

pub returns-then-is_zero-clause-gives : goal.returns-then-is_zero-clause-gives
returns-then-is_zero-clause-gives c = λ j low.
    skipped c.args.kind c.args.depth c.args.log2 (column j c.args.t.now) (length c.args.t.now) c.requires.kind c.requires.size (c.if-is_zero.ensures j)
