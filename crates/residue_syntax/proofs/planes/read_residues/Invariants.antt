use Rattle.std.proofs.Common.{◌≡◌, []}
use Rattle.std.specs.List.{list_any}
use Rattle.block_geometry.specs.TransformBlocks.{grid_blocks}
use Rattle.block_plan.specs.Code.{residues_held, AreSmall}
use Rattle.counting_reader.proofs.Throughs.{Reached}
use Rattle.counting_reader.specs.Code.{standing_of}
use Rattle.prob_contexts.specs.ProbLists.{lists_of}
use Rattle.vp9_tables.specs.Scans.{area}
use Rattle.residue_syntax.specs.Code.{KeepsLengths}
use Rattle.residue_syntax.specs.Residues.{read_next, is_coded}
use Rattle.residue_syntax.proofs.planes.read_residues.Given as goal

abbrev pub invariant-loop-k : goal.invariant-loop-k
invariant-loop-k g l = record {
  lengths : KeepsLengths l.initial.sides l.sides;
  any : l.any ≡ list_any is_coded (residues_held (grid_blocks l.grid) (area l.b.block.tx) l.residues.some l.residues.values l.k);
  small : AreSmall (residues_held (grid_blocks l.grid) (area l.b.block.tx) l.residues.some l.residues.values l.k);
  reached : Reached (read_next (lists_of l.contexts) l.b) (grid_blocks l.grid) (record { residues = []; sides = l.initial.sides }) (standing_of l.initial.reader) l.k
      (record { residues = residues_held (grid_blocks l.grid) (area l.b.block.tx) l.residues.some l.residues.values l.k; sides = l.sides }) (standing_of l.reader);
}
