use Rattle.std.proofs.Common.{◌≡◌}
use Rattle.std.specs.List.{fold, range_with_len}
use Rattle.band_needs.specs.BandReads.{part_in}
use Rattle.band_needs.specs.Needs.{part_range, with_part}
use Rattle.band_needs.proofs.blocks.plane_range.Given as goal

abbrev pub invariant-loop-number : goal.invariant-loop-number
invariant-loop-number l = l.range ≡ fold (with_part l.b.shape.now l.reference l.b.block.now l.b.modes.now l.list l.plane)
    (part_range l.b.shape.now l.reference l.b.block.now l.b.modes.now (part_in l.plane 0 l.list)) (range_with_len 0 l.number)
