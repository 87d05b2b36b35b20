use Rattle.std.proofs.Common.{arith, ◌≤◌, ◌+◌, ◌-◌}
use Rattle.bool_decoder.specs.Held.{window_of}
use Rattle.compressed_header.proofs.Ranges.{range_read, range_kept, range_taken}
use Rattle.compressed_header.proofs.update.read_vector_range.Goals as goal

pub read_vector_updates-requires : goal.read_vector_updates-requires
read_vector_updates-requires c = range_taken (λ p. 1 ≤ p) c.args.from (c.args.from + c.args.n - c.args.from) c.args.probs.now c.requires.positive

pub returns-clause-read : goal.returns-clause-read
returns-clause-read c =
    range_read c.args.from c.args.n (c.args.from + c.args.n - c.args.from) c.args.probs.now c.read_vector_updates.new.probs (window_of c.args.decoder.now) (window_of c.read_vector_updates.new.decoder) (omega arith) c.read_vector_updates.ensures.read

pub returns-clause-kept : goal.returns-clause-kept
returns-clause-kept c = range_kept (λ p. 1 ≤ p) c.args.from (c.args.from + c.args.n - c.args.from) c.args.probs.now c.read_vector_updates.new.probs c.requires.positive c.read_vector_updates.ensures.kept
