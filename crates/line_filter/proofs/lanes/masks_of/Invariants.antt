use Rattle.std.proofs.Common.{◌≡◌, false}
use Rattle.line_filter.specs.Code.{NoneIs, is_narrowed, is_smoothed, lanes_of}
use Rattle.line_filter.proofs.lanes.masks_of.Given as goal

abbrev pub invariant-loop-j : goal.invariant-loop-j
invariant-loop-j l = record {
  narrow : l.narrow ≡ false → NoneIs (is_narrowed l.l) (lanes_of l.x) l.j;
  smooth : l.smooth ≡ false → NoneIs (is_smoothed l.l) (lanes_of l.x) l.j;
}
