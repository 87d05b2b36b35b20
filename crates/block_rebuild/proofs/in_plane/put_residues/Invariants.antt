use Rattle.std.proofs.Common.{◌≡◌}
use Rattle.std.specs.List.{fold}
use Rattle.vp9_types.specs.Maps.{IsAtMost}
use Rattle.vp9_types.specs.Sizes.{greatest}
use Rattle.vp9_tables.specs.Scans.{area}
use Rattle.block_geometry.specs.TransformBlocks.{grid_blocks}
use Rattle.planes.specs.Planes.{plane_map}
use Rattle.block_rebuild.specs.Code.{put_more}
use Rattle.block_rebuild.specs.Residues.{first_residues}
use Rattle.block_rebuild.proofs.in_plane.put_residues.Given as goal

abbrev pub invariant-loop-k : goal.invariant-loop-k
invariant-loop-k g l = record {
  same : l.samples.area ≡ l.initial.samples.area;
  range : IsAtMost (greatest l.b.depth) (plane_map l.samples);
  so_far : plane_map l.samples ≡ fold (put_more l.initial.samples.area l.b) (plane_map l.initial.samples)
      (first_residues (g.R.TransformResidues.residue l.residues l.b.plane (area l.b.tx)) (grid_blocks l.grid) l.k);
}
