use Rattle.job_order.proofs.Later.{reached_sound}
use Rattle.job_results.specs.Groups.{group_rules, group_truth}
use Rattle.job_results.proofs.TrueRules.{group_can, group_true}
use Rattle.job_results.proofs.laws.rules_of_groups_are_true.Goals as goal

pub returns-clause-are_true : goal.returns-clause-are_true
returns-clause-are_true c = λ n format film. group_true n format film

pub returns-clause-can : goal.returns-clause-can
returns-clause-can c = λ n format film. group_can n format film

pub returns-clause-sound : goal.returns-clause-sound
returns-clause-sound c = λ n window format film w least reached. reached_sound (group_rules n format film) (group_truth n format film) (group_true n format film) window w least reached
