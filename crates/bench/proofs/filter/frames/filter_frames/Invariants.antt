use Rattle.planes.specs.Pictures.{HasSizes, IsInRange}
use Rattle.bench.proofs.filter.frames.filter_frames.Given as goal

abbrev pub invariant-loop-number : goal.invariant-loop-number
invariant-loop-number g l = record { sizes : HasSizes l.f.shape l.planes; range : IsInRange l.f.shape.depth l.planes }
