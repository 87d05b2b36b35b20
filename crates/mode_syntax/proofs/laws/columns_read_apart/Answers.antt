use Rattle.mode_syntax.proofs.Columns.{all_read, counts_add, first_broken}
use Rattle.mode_syntax.proofs.laws.columns_read_apart.Goals as goal

pub returns-clause-read : goal.returns-clause-read
returns-clause-read g c = all_read

pub returns-clause-counted : goal.returns-clause-counted
returns-clause-counted g c = counts_add

pub returns-clause-broken : goal.returns-clause-broken
returns-clause-broken g c = first_broken
