use Rattle.job_order.proofs.Turns.{one_ticket, first_turn, in_turn}
use Rattle.job_order.proofs.laws.jobs_may_be_done_in_turn.Goals as goal

pub returns : goal.returns
returns g c = record {
  once = λ segments a b job h. one_ticket segments h a b job;
  first = first_turn;
  next = λ w n job x sound turn e. in_turn g.M.Meaning.rules g.M.Meaning.truth w n job x sound turn e;
}
