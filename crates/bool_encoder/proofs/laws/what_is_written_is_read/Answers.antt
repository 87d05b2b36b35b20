use Rattle.bool_encoder.proofs.WriteLaws.{writes_bind}
use Rattle.bool_encoder.proofs.LedLaws.{led_writes, writes_led}
use Rattle.bool_encoder.proofs.Starts.{written_is_read_from}
use Rattle.bool_encoder.proofs.laws.what_is_written_is_read.Goals as goal

pub returns-clause-bind : goal.returns-clause-bind
returns-clause-bind g c = writes_bind

pub returns-clause-read : goal.returns-clause-read
returns-clause-read g c = written_is_read_from

pub returns-clause-led : goal.returns-clause-led
returns-clause-led g c = led_writes

pub returns-clause-leads : goal.returns-clause-leads
returns-clause-leads g c = writes_led
