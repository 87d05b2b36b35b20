use Rattle.std.proofs.Common.{◌≡◌, ◌-◌, ◌≤◌}
use Rattle.vp9_types.specs.Reading.{read_bits}
use Rattle.frame_headers.specs.Fields.{past}
use Rattle.frame_headers.specs.Tiles.{more_columns}
use Rattle.frame_headers.proofs.tiles.read_more_columns.Given as goal

abbrev pub invariant-loop-log2 : goal.invariant-loop-log2
invariant-loop-log2 l =
    (l.log2 ≤ 8) × (read_bits past (more_columns (l.greatest - l.log2) l.log2) l.bits ≡ read_bits past (more_columns (l.greatest - l.least) l.least) l.initial.bits)

abbrev pub decreases-loop-log2 : goal.decreases-loop-log2
decreases-loop-log2 l = l.greatest - l.log2
