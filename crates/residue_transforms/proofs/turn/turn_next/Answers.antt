use Rattle.inverse_transforms.specs.Ranges.{limit_of}
use Rattle.residue_transforms.specs.Residue.{rounded_transform}
use Rattle.residue_transforms.proofs.RepeatedGroups.{group_repeated}
use Rattle.residue_transforms.proofs.turn.turn_next.Goals as goal

pub returns-then-is_repeated : goal.returns-then-is_repeated
returns-then-is_repeated c =
    group_repeated (rounded_transform c.args.pass.kind (limit_of c.args.pass.depth) c.args.pass.log2 c.args.pass.bits) c.args.n c.args.first 8
    c.args.from.now c.args.to.now c.repeat_columns.new.to c.if-first-ge8.true c.if-is_repeated.ensures c.requires.turned c.repeat_columns.ensures
