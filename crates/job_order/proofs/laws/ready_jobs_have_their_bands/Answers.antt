use Rattle.job_order.proofs.Next.{bands_done}
use Rattle.job_order.proofs.laws.ready_jobs_have_their_bands.Goals as goal

pub returns : goal.returns
returns g c = bands_done g.M.Meaning.rules g.M.Meaning.truth
