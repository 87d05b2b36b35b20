use Rattle.std.proofs.Common.{◌≡◌}
use Rattle.vp9_types.specs.Maps.{with_block}
use Rattle.planes.specs.Planes.{plane_map}
use Rattle.block_rebuild.specs.InterBlocks.{samples_from}
use Rattle.block_rebuild.proofs.Sums.{added}
use Rattle.block_rebuild.proofs.residue.add_at_end.Given as goal

abbrev pub invariant-loop-i : goal.invariant-loop-i
invariant-loop-i g l = record {
  same : l.samples.area ≡ l.initial.samples.area;
  so_far : plane_map l.samples ≡ with_block (plane_map l.initial.samples) l.row l.column l.i l.columns
      (added l.most l.side (samples_from (plane_map l.initial.samples) l.row l.column) l.values);
}
