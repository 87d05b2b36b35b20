use Rattle.counting_reader.proofs.CountingRuns.{run_settle, run_count, run_uncounted, counting_bind, run_silent}
use Rattle.counting_reader.proofs.laws.counting_syntaxes_compose.Goals as goal

pub returns-clause-settle : goal.returns-clause-settle
returns-clause-settle g c = run_settle

pub returns-clause-count : goal.returns-clause-count
returns-clause-count g c = run_count

pub returns-clause-uncounted : goal.returns-clause-uncounted
returns-clause-uncounted g c = run_uncounted

pub returns-clause-bind : goal.returns-clause-bind
returns-clause-bind g c = counting_bind

pub returns-clause-silent : goal.returns-clause-silent
returns-clause-silent g c = run_silent
