use Rattle.std.proofs.Common.{◌≡◌, drop, length, map}
use Rattle.block_geometry.specs.TransformBlocks.{grid_blocks}
use Rattle.prob_contexts.specs.ProbLists.{ContextLists}
use Rattle.residue_writer.specs.ResidueFits.{CanPutAll}
use Rattle.listed_symbols.specs.ListedLevels.{no_levels, with_each}
use Rattle.listed_symbols.proofs.in_planes.put_each.Given as goal

abbrev pub invariant-loop-k : goal.invariant-loop-k
invariant-loop-k l = record {
  counts : length l.levels.counts ≡ 256;
  values : length l.levels.values ≡ 4096;
  made : with_each l.b (grid_blocks l.grid) l.k (drop l.k (map (λ x. x.now) l.listed)) l.levels ≡ with_each l.b (grid_blocks l.grid) 0 (map (λ x. x.now) l.listed) no_levels;
  can : (contexts : ContextLists) → CanPutAll contexts l.b (grid_blocks l.grid) l.levels;
}
