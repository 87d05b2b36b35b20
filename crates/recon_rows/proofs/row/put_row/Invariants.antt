use Rattle.std.proofs.Common.{◌≡◌, ◌≤◌, take}
use Rattle.std.specs.Prelude.{drop, slice_range}
use Rattle.planes.specs.Pictures.{IsInRange, samples_of}
use Rattle.block_rebuild.specs.Strips.{with_blocks}
use Rattle.block_rebuild.specs.Code.{HasAreasOf, rebuilding_of}
use Rattle.column_plan.specs.PlannedBlocks.{planned_blocks, total}
use Rattle.recon_rows.proofs.row.put_row.Given as goal

abbrev pub invariant-loop-k : goal.invariant-loop-k
invariant-loop-k g l = record {
  least : l.initial.k ≤ l.k;
  most : l.k ≤ l.k-end;
  pieces : l.piece ≡ total l.by.shape (take l.k l.blocks);
  areas : HasAreasOf l.initial.planes l.planes;
  range : IsInRange l.by.shape.depth l.planes;
  so_far : samples_of l.planes ≡ with_blocks (rebuilding_of g.S.Samples.map l.by) (samples_of l.initial.planes) (planned_blocks l.by.shape l.tile_from (slice_range l.blocks l.initial.k l.k) (drop l.initial.piece l.plan.residues));
}
