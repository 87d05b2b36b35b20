use Rattle.job_order.proofs.Settled.{reads_stay, needs_stay}
use Rattle.job_order.proofs.laws.needs_stay.Goals as goal

pub returns : goal.returns
returns g c = record {
  reads = λ window w later f c r wide ok settled reached a done. reads_stay g.M.Meaning.rules g.M.Meaning.truth ok settled f c r window w later wide reached a done;
  needs = λ window w later f c r wide ok settled reached a done. needs_stay g.M.Meaning.rules g.M.Meaning.truth ok settled f c r window w later wide reached a done;
}
