use Rattle.job_order.proofs.Later.{reached_first, reached_next, reached_sound}
use Rattle.job_order.proofs.laws.reached_worlds_are_sound.Goals as goal

pub returns : goal.returns
returns g c = record {
  first = reached_first g.M.Meaning.rules;
  next = reached_next g.M.Meaning.rules;
  sound = λ window w wide ok. reached_sound g.M.Meaning.rules g.M.Meaning.truth ok window w wide;
}
