use Rattle.bool_encoder.proofs.CountedPuts.{counting_puts, counting_read}
use Rattle.bool_encoder.proofs.laws.what_is_put_is_counted.Goals as goal

pub returns-clause-bind : goal.returns-clause-bind
returns-clause-bind g c = counting_puts

pub returns-clause-read : goal.returns-clause-read
returns-clause-read g c = counting_read
