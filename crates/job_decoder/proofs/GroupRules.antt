-- The rules of a group's run can be done.
use Rattle.std.specs.Prelude.{ℕ}
use Rattle.frame_output.specs.declared.rendering.Format.{Format}
use Rattle.job_crew.specs.Events.{CanDo}
use Rattle.job_rows.specs.numbered_frames.Films.{Film}
use Rattle.job_rows.specs.job_results.Groups.{group_rules, group_truth}
use Rattle.job_rows.proofs.of_job_results.TrueRules.{group_can}

pub rules_can : (n : ℕ) (format : Format) (film : Film) → CanDo (group_rules n format film) (group_truth n format film)
rules_can n format film = group_can n format film
