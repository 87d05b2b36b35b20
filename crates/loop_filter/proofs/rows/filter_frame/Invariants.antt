use Rattle.std.proofs.Common.{◌≡◌}
use Rattle.planes.specs.Pictures.{HasSizes, IsInRange, samples_of}
use Rattle.loop_edges.specs.Code.{filtered_before}
use Rattle.loop_filter.proofs.rows.filter_frame.Given as goal

abbrev pub invariant-loop-sr : goal.invariant-loop-sr
invariant-loop-sr g l = record {
  sizes : HasSizes l.f.shape l.planes;
  range : IsInRange l.f.shape.depth l.planes;
  map : samples_of l.planes ≡ filtered_before l.f (g.N.Neighbours.blocks l.blocks) (samples_of l.initial.planes) l.sr;
}
