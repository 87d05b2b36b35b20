use Rattle.std.proofs.Common.{◌∙◌, ap, sym, subst}
use Rattle.job_crew.specs.Runs.{GoesOn}
use Rattle.job_rows.specs.job_results.Groups.{in_film}
use Rattle.job_rows.specs.job_results.Meaning.{decode_rules}
use Rattle.job_decoder.proofs.Groups.{goes_on_in_film}
use Rattle.job_decoder.proofs.lookup.FilmResultsLookupJobResultDecode.result.Goals as goal

pub returns-in-Some-clause-goes_on : goal.returns-in-Some-clause-goes_on
returns-in-Some-clause-goes_on g c =
    let format = g.B.DecodeRun.format in
    let film = g.B.DecodeRun.film in
    let first = g.B.DecodeRun.first in
    subst (λ j. GoesOn (decode_rules format film) j c.result.result.now) (ap (λ n. in_film n c.in-Some.own) (sym c.self.invariant) ∙ c.in-Some.ensures)
    (goes_on_in_film first format film c.in-Some.own c.result.result.now c.result.ensures.goes_on)
