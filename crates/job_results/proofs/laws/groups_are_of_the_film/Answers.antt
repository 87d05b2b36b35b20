use Rattle.job_results.proofs.GroupDue.{due_counted, due_in_film, texts_behind}
use Rattle.job_results.proofs.laws.groups_are_of_the_film.Goals as goal

pub returns-clause-due : goal.returns-clause-due
returns-clause-due c = λ n format film job first due. due_in_film n format film job first due

pub returns-clause-texts : goal.returns-clause-texts
returns-clause-texts c = λ text n k. texts_behind text n k

pub returns-clause-counted : goal.returns-clause-counted
returns-clause-counted c = λ format film job due. due_counted format film job due
