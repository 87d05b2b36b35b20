use Rattle.coef_tokens.proofs.Turns.{clear_at}
use Rattle.writer_tests.proofs.token_tests.agrees.Goals as goal

pub writes-requires-in-T8x8-clause-clear : goal.writes-requires-in-T8x8-clause-clear
writes-requires-in-T8x8-clause-clear g c = clear_at 64

pub writes-requires-in-T8x8-clause-read_clear : goal.writes-requires-in-T8x8-clause-read_clear
writes-requires-in-T8x8-clause-read_clear g c = clear_at 64

pub writes-requires-in-T16x16-clause-clear : goal.writes-requires-in-T16x16-clause-clear
writes-requires-in-T16x16-clause-clear g c = clear_at 256

pub writes-requires-in-T16x16-clause-read_clear : goal.writes-requires-in-T16x16-clause-read_clear
writes-requires-in-T16x16-clause-read_clear g c = clear_at 256

pub writes-requires-in-T32x32-clause-clear : goal.writes-requires-in-T32x32-clause-clear
writes-requires-in-T32x32-clause-clear g c = clear_at 1024

pub writes-requires-in-T32x32-clause-read_clear : goal.writes-requires-in-T32x32-clause-read_clear
writes-requires-in-T32x32-clause-read_clear g c = clear_at 1024
