use Rattle.job_results.proofs.Decoding.{decodes}
use Rattle.job_results.proofs.laws.ended_runs_are_decodes.Goals as goal

pub returns : goal.returns
returns c = λ format film ending outcome old new faults now is tells. decodes format film ending outcome old new faults now is tells
