use Rattle.std.proofs.Common.{◌≡◌, ◌∙◌, sym}
use Rattle.frame_headers.specs.HeaderState.{shape_of}
use Rattle.block_geometry.specs.TransformBlocks.{transform_blocks, grid_blocks}
use Rattle.block_plan.specs.InPlanes.{places_in}
use Rattle.drawn_frames.specs.BlockLevelDraws.{draw_plane}
use Rattle.drawn_frames.proofs.levels.draw_plane.Goals as goal

pub returns-clause-drawn : goal.returns-clause-drawn
unfolding draw_plane
returns-clause-drawn c =
    let is = c.of-b.ensures in
    let same : grid_blocks c.transform_grid-grid.result ≡ places_in (shape_of c.args.setting.now.header) c.args.block.now c.args.plane =
    sym c.transform_grid-grid.ensures.blocks ∙ (λ i. transform_blocks (c.args.setting.now.whole i) (is i).block) in
    rw c.if-block.false (rw (is, same) at c.draw_transform_blocks.ensures.drawn)

pub returns-clause-can : goal.returns-clause-can
returns-clause-can c =
    let is = c.of-b.ensures in
    let same : grid_blocks c.transform_grid-grid.result ≡ places_in (shape_of c.args.setting.now.header) c.args.block.now c.args.plane =
    sym c.transform_grid-grid.ensures.blocks ∙ (λ i. transform_blocks (c.args.setting.now.whole i) (is i).block) in λ contexts coded.
    (rw (is, same) at c.draw_transform_blocks.ensures.can) contexts
