use Rattle.frame_headers.proofs.FieldLemmas.{HasRead}
use Rattle.frame_headers.proofs.bits.BitReader.field.Given as goal

abbrev pub invariant-loop : goal.invariant-loop
invariant-loop l = HasRead l.initial.self l.counter l.value l.self
