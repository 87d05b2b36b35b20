use Rattle.std.proofs.Common.{◌≡◌, false}
use Rattle.line_filter.specs.Code.{AreFlat, AreNotCalm, AreNotFlat, lanes_of}
use Rattle.line_filter.proofs.far_lanes.masks_of.Given as goal

abbrev pub invariant-loop-j : goal.invariant-loop-j
invariant-loop-j l = record {
  calm : l.calm ≡ false → AreNotCalm l.l (lanes_of l.above) (lanes_of l.below) l.j;
  near : l.other ≡ false → AreFlat l.l (lanes_of l.above) (lanes_of l.below) l.j;
  flat : l.flat ≡ false → AreNotFlat l.l (lanes_of l.above) (lanes_of l.below) l.j;
}
