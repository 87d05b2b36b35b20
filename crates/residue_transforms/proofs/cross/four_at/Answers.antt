use Rattle.residue_transforms.proofs.Crossings.{chunk_kept}
use Rattle.residue_transforms.proofs.cross.four_at.Goals as goal

pub returns : goal.returns
returns c = chunk_kept c.args.place c.args.from.now c.requires.room c.requires.small
