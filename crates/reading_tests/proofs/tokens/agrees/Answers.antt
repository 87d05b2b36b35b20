use Rattle.coef_tokens.proofs.Turns.{clear_at}
use Rattle.reading_tests.proofs.tokens.agrees.Goals as goal

pub reads-requires-in-T8x8-clause-clear : goal.reads-requires-in-T8x8-clause-clear
reads-requires-in-T8x8-clause-clear c = clear_at 64

pub reads-requires-in-T16x16-clause-clear : goal.reads-requires-in-T16x16-clause-clear
reads-requires-in-T16x16-clause-clear c = clear_at 256

pub reads-requires-in-T32x32-clause-clear : goal.reads-requires-in-T32x32-clause-clear
reads-requires-in-T32x32-clause-clear c = clear_at 1024
