use Rattle.block_geometry.specs.TransformBlocks.{grid_blocks}
use Rattle.drawn_frames.proofs.LevelDraws.{Drew}
use Rattle.drawn_frames.proofs.levels.draw_transform_blocks.Given as goal

abbrev pub invariant-loop-k : goal.invariant-loop-k
invariant-loop-k l = record { drew : Drew l.b (grid_blocks l.grid) l.initial.draws.x l.k l.levels l.draws.x }
