use Rattle.std.proofs.Common.{refl}
use Rattle.job_decoder.proofs.PastFrames.{none_past}
use Rattle.job_decoder.proofs.past.Past.none.Goals as goal

pub returns-clause-past : goal.returns-clause-past
returns-clause-past c = λ format rate. none_past format rate (record { count = 0; kept = c.new.result; frames = c.empty.result }) refl c.new.ensures.items c.empty.ensures
