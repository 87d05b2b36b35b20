use Rattle.residue_transforms.proofs.Crossings.{lanes_set}
use Rattle.residue_transforms.proofs.cross.set_lanes.Goals as goal

pub returns : goal.returns
returns c = lanes_set c.args.row.now c.args.upper c.args.lower c.told-row c.requires.upper c.requires.lower
