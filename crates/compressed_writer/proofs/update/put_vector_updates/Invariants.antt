use Rattle.std.proofs.Common.{ℕ, take, drop}
use Rattle.bool_lists.proofs.Loops.{PairsPut}
use Rattle.compressed_header.specs.Updates.{update_mv_prob}
use Rattle.compressed_writer.specs.Code.{EachLeft}
use Rattle.compressed_writer.specs.Spelling.{spelled_vector_update}
use Rattle.compressed_writer.proofs.update.put_vector_updates.Given as goal

abbrev pub invariant-loop-i : goal.invariant-loop-i
invariant-loop-i l = record {
  puts : EachLeft update_mv_prob l.before l.fn.encoder (take l.i l.after) (drop l.i l.before) l.encoder;
  spells : PairsPut (λ (at : ℕ × ℕ). spelled_vector_update at.0 at.1) l.before l.after l.i l.fn.encoder l.encoder;
}
