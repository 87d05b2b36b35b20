use Rattle.std.proofs.Common.{◌≡◌, ◌∙◌, sym}
use Rattle.block_geometry.specs.TransformBlocks.{transform_blocks, grid_blocks}
use Rattle.block_plan.specs.InPlanes.{places_in}
use Rattle.frame_headers.specs.HeaderState.{shape_of}
use Rattle.prob_contexts.specs.ProbLists.{lists_of}
use Rattle.residue_syntax.proofs.BlockReads.{all_beside}
use Rattle.residue_writer.proofs.BlockPuts.{plane_skipped, plane_coded}
use Rattle.residue_writer.proofs.Spellings.{plane_none, plane_some}
use Rattle.residue_writer.proofs.blocks.put_plane.Goals as goal

pub returns-then-block-clause-puts : goal.returns-then-block-clause-puts
returns-then-block-clause-puts c =
    (plane_skipped c.args.setting.now.header (lists_of c.args.setting.now.contexts) c.args.block.now c.args.plane c.args.levels.now c.args.sides.now _ c.args.encoder.now
    c.if-block.true (rw c.of-b.ensures at c.mark_skipped.ensures.value)).0

pub returns-then-block-clause-tells : goal.returns-then-block-clause-tells
returns-then-block-clause-tells c =
    (plane_skipped c.args.setting.now.header (lists_of c.args.setting.now.contexts) c.args.block.now c.args.plane c.args.levels.now c.args.sides.now _ c.args.encoder.now
    c.if-block.true (rw c.of-b.ensures at c.mark_skipped.ensures.value)).1

pub put_residues-requires-clause-beside : goal.put_residues-requires-clause-beside
put_residues-requires-clause-beside c =
    let shape = shape_of c.args.setting.now.header in
    let is = c.of-b.ensures in
    let same : grid_blocks c.transform_grid-grid.result ≡ places_in shape c.args.block.now c.args.plane =
    sym c.transform_grid-grid.ensures.blocks ∙ (λ i. transform_blocks (c.args.setting.now.whole i) (is i).block) in
    rw (is, same) (all_beside shape c.args.block.now c.args.plane c.args.sides.now c.requires.fit)

pub returns-clause-puts : goal.returns-clause-puts
returns-clause-puts c =
    let shape = shape_of c.args.setting.now.header in
    let is = c.of-b.ensures in
    let same : grid_blocks c.transform_grid-grid.result ≡ places_in shape c.args.block.now c.args.plane =
    sym c.transform_grid-grid.ensures.blocks ∙ (λ i. transform_blocks (c.args.setting.now.whole i) (is i).block) in
    (plane_coded c.args.setting.now.header (lists_of c.args.setting.now.contexts) c.args.block.now c.args.plane c.args.levels.now c.args.sides.now _ _ _ c.in_ok-any.any
    c.if-block.false (rw (is, same) at c.in_ok-any.ensures.puts) (rw (is, same) at c.in_ok-any.ensures.tells)).0

pub returns-clause-tells : goal.returns-clause-tells
returns-clause-tells c =
    let shape = shape_of c.args.setting.now.header in
    let is = c.of-b.ensures in
    let same : grid_blocks c.transform_grid-grid.result ≡ places_in shape c.args.block.now c.args.plane =
    sym c.transform_grid-grid.ensures.blocks ∙ (λ i. transform_blocks (c.args.setting.now.whole i) (is i).block) in
    (plane_coded c.args.setting.now.header (lists_of c.args.setting.now.contexts) c.args.block.now c.args.plane c.args.levels.now c.args.sides.now _ _ _ c.in_ok-any.any
    c.if-block.false (rw (is, same) at c.in_ok-any.ensures.puts) (rw (is, same) at c.in_ok-any.ensures.tells)).1

pub returns-then-block-clause-spells : goal.returns-then-block-clause-spells
returns-then-block-clause-spells c =
    plane_none c.args.setting.now.header (lists_of c.args.setting.now.contexts) c.args.block.now c.args.plane c.args.levels.now c.args.sides.now c.args.encoder.now c.if-block.true

pub returns-clause-spells : goal.returns-clause-spells
returns-clause-spells c =
    let shape = shape_of c.args.setting.now.header in
    let is = c.of-b.ensures in
    let same : grid_blocks c.transform_grid-grid.result ≡ places_in shape c.args.block.now c.args.plane =
    sym c.transform_grid-grid.ensures.blocks ∙ (λ i. transform_blocks (c.args.setting.now.whole i) (is i).block) in
    plane_some c.args.setting.now.header (lists_of c.args.setting.now.contexts) c.args.block.now c.args.plane c.args.levels.now c.args.sides.now c.args.encoder.now _ c.in_ok-any.any
    c.if-block.false (rw (is, same) at c.in_ok-any.ensures.spells)
