use Rattle.job_results.proofs.Later.{right_still}
use Rattle.job_results.proofs.laws.right_results_stay_right.Goals as goal

pub returns : goal.returns
returns c = λ format film more job x h low right. right_still format film more h job x low right
