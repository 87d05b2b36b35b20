use Rattle.job_rows.specs.numbered_frames.Films.{film_of}
use Rattle.job_decoder.proofs.whole.decode_by_jobs.Given as goal

abbrev pub ghosts-decode_as : goal.ghosts-decode_as
ghosts-decode_as g a = record {
  format = a.format;
  film = film_of a.bytes.now;
  first = 0;
  taken = g.K.Sink.taken a.sink;
  faults = g.K.Sink.faults a.sink;
  grows = g.K.Sink.grows a.sink;
}
