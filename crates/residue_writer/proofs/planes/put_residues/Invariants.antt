use Rattle.block_geometry.specs.TransformBlocks.{grid_blocks}
use Rattle.prob_contexts.specs.ProbLists.{lists_of}
use Rattle.residue_syntax.specs.Code.{KeepsLengths}
use Rattle.residue_writer.proofs.PlanePuts.{Passes}
use Rattle.residue_writer.proofs.Spellings.{SpellsLeft}
use Rattle.residue_writer.proofs.planes.put_residues.Given as goal

abbrev pub invariant-loop-k : goal.invariant-loop-k
invariant-loop-k l = record {
  lengths : KeepsLengths l.initial.sides l.sides;
  passes : Passes (lists_of l.contexts) l.b l.levels (grid_blocks l.grid) l.initial.sides l.initial.encoder l.k l.sides l.any l.encoder;
  spells : SpellsLeft (lists_of l.contexts) l.b l.levels (grid_blocks l.grid) l.initial.sides l.initial.encoder l.k l.sides l.encoder;
}
