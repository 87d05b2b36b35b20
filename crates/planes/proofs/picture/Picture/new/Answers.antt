use Rattle.planes.proofs.PictureLemmas.{blank_picture}
use Rattle.planes.proofs.picture.Picture.new.Goals as goal

pub returns : goal.returns
returns g c = blank_picture c.args.shape c.in_ok-planes.planes c.in_ok-planes.ensures.sizes c.in_ok-planes.ensures.zero
