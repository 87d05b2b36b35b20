use Rattle.std.proofs.Common.{◌≡◌}
use Rattle.std.specs.Prelude.{min}
use Rattle.std.specs.List.{fold, flat_map, range_with_len}
use Rattle.vp9_types.specs.Maps.{rows_of, row_of}
use Rattle.block_plan.proofs.segment_ids.least_in.Given as goal

abbrev pub invariant-loop-i : goal.invariant-loop-i
invariant-loop-i l = l.least ≡ fold min 7 (flat_map (λ r. row_of (rows_of l.width l.ids) r l.part.col l.part.cols) (range_with_len l.part.row l.i))
