use Rattle.job_order.proofs.Finished.{one_result}
use Rattle.job_order.proofs.Later.{stays, grows_no_more}
use Rattle.job_order.proofs.laws.later_events_change_no_result.Goals as goal

pub returns : goal.returns
returns g c = record {
  stays = stays g.M.Meaning.rules;
  one = λ w job x y h a b. one_result w.finished job x y h.once a b;
  refused = λ window events later wide ok. grows_no_more g.M.Meaning.rules g.M.Meaning.truth ok window events later wide;
}
