use Rattle.std.proofs.Common.{arith, rules}
use Rattle.residue_transforms.proofs.RepeatedGroups.{row_repeated, columns_repeated}
use Rattle.residue_transforms.proofs.repeats.repeat_columns.Goals as goal

pub loop-k-preserved : goal.loop-k-preserved
loop-k-preserved c =
    row_repeated c.args.n c.args.first c.args.width c.loop-k.k c.args.to.now c.loop-k.to c.repeat_values.new.to c.requires.before c.requires.columns (search rules)
    c.repeat_values.ensures c.loop-k.invariant

pub returns : goal.returns
returns c = columns_repeated c.args.n c.args.first c.args.width c.args.to.now c.loop-k.to c.loop-k.k c.requires.before (omega (arith, c.loop-k-test.false)) c.loop-k.invariant
