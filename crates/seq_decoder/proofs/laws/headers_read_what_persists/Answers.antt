use Rattle.seq_decoder.proofs.Slots.{coded_persists, shown_stays, start_persists}
use Rattle.seq_decoder.proofs.laws.headers_read_what_persists.Goals as goal

pub returns-clause-start : goal.returns-clause-start
returns-clause-start c = start_persists

pub returns-clause-coded : goal.returns-clause-coded
returns-clause-coded c = coded_persists

pub returns-clause-shown : goal.returns-clause-shown
returns-clause-shown c = shown_stays
