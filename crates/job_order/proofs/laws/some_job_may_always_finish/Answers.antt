use Rattle.job_order.proofs.Next.{next_there, least_ready, least_finishes}
use Rattle.job_order.proofs.laws.some_job_may_always_finish.Goals as goal

pub returns : goal.returns
returns g c = record {
  there = next_there g.M.Meaning.rules g.M.Meaning.truth;
  ready = least_ready g.M.Meaning.rules g.M.Meaning.truth;
  may_finish = least_finishes g.M.Meaning.rules g.M.Meaning.truth;
}
