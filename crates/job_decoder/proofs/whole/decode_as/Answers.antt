use Rattle.job_rows.specs.numbered_frames.Films.{film_of}
use Rattle.job_decoder.proofs.Ends.{decodes_file, decodes_so}
use Rattle.job_decoder.proofs.whole.decode_as.Goals as goal

pub returns-clause-decodes : goal.returns-clause-decodes
returns-clause-decodes g c =
    let output = c.in-Ok-run_jobs.ran.output in
    decodes_file c.args.format c.args.bytes.now (g.K.Sink.taken c.args.sink) (g.K.Sink.taken output.sink) (g.K.Sink.faults c.args.sink) (g.K.Sink.faults output.sink) c.outcome_of-outcome.result
    (decodes_so c.args.format g.B.DecodeRun.format (film_of c.args.bytes.now) g.B.DecodeRun.film g.B.DecodeRun.first (g.K.Sink.taken c.args.sink) g.B.DecodeRun.taken c.in-Ok-run_jobs.ran.ending (g.K.Sink.taken output.sink)
    (g.K.Sink.can_put output.sink) (g.K.Sink.faults c.args.sink) g.B.DecodeRun.faults (g.K.Sink.faults output.sink) g.B.DecodeRun.grows (g.K.Sink.grows output.sink) c.outcome_of-outcome.result
    c.requires.format c.requires.film c.requires.first c.requires.taken c.requires.faults c.in-Ok-run_jobs.ensures.ended c.outcome_of-outcome.ensures)
