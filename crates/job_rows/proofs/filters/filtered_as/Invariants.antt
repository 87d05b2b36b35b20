use Rattle.job_rows.specs.LentRows.{raw_frame}
use Rattle.job_rows.proofs.filters.filtered_as.Given as goal

abbrev pub ghosts-filtered_of : goal.ghosts-filtered_of
ghosts-filtered_of g a = record { raw = raw_frame g.B.DecodeRun.format g.B.DecodeRun.film a.of.now.frame }
