use Rattle.job_decoder.proofs.Groups.{due_by_name, fits_in_film}
use Rattle.job_decoder.proofs.decoder.JobDecoder.named.Goals as goal

pub in_film-requires : goal.in_film-requires
in_film-requires g c =
    fits_in_film g.B.DecodeRun.first c.first.result g.B.DecodeRun.format g.B.DecodeRun.film c.args.job c.first.ensures.is c.first.ensures.few c.self.invariant c.requires.due c.requires.no_end

pub returns-clause-due : goal.returns-clause-due
returns-clause-due g c =
    due_by_name g.B.DecodeRun.first c.first.result g.B.DecodeRun.format g.B.DecodeRun.film c.args.job c.in_film.result c.first.ensures.is c.in_film.ensures c.self.invariant c.requires.due
