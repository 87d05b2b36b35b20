use Rattle.planes.proofs.PictureLemmas.{blank_picture}
use Rattle.planes.proofs.picture.Picture.renew.Goals as goal

pub returns-clause-blank : goal.returns-clause-blank
returns-clause-blank g c = blank_picture c.args.shape c.renew.new.self c.in_ok-renew.ensures.sizes c.in_ok-renew.ensures.zero
