use Rattle.std.proofs.Common.{◌≡◌, take, drop}
use Rattle.vp9_types.specs.Each.{each, run_each_from}
use Rattle.vp9_types.specs.Reading.{field_at, read_bits}
use Rattle.frame_headers.specs.Fields.{past}
use Rattle.frame_headers.specs.Segments.{probability_for}
use Rattle.frame_headers.proofs.segments.read_probabilities.Given as goal

abbrev pub invariant-loop-i : goal.invariant-loop-i
invariant-loop-i l =
    run_each_from (field_at past) probability_for (take l.i l.values) (drop l.i l.values) l.bits
    ≡ read_bits past (each probability_for l.initial.values) l.initial.bits
