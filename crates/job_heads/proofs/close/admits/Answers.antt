use Rattle.planes.specs.Pictures.{blank}
use Rattle.job_heads.proofs.close.admits.Goals as goal

pub returns-in-Some : goal.returns-in-Some
returns-in-Some c = rw c.in-Some.is (c.admits.ensures 0 blank)
