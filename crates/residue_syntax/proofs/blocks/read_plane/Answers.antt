use Rattle.std.proofs.Common.{◌≡◌, ◌∙◌, sym, ap, arith}
use Rattle.block_geometry.specs.TransformBlocks.{transform_blocks, grid_blocks}
use Rattle.block_plan.specs.InPlanes.{places_in, plane_block}
use Rattle.vp9_types.specs.declared.shape.Shape.{Shape}
use Rattle.vp9_tables.specs.Scans.{area}
use Rattle.frame_headers.specs.HeaderState.{shape_of}
use Rattle.prob_contexts.specs.ProbLists.{lists_of}
use Rattle.residue_syntax.specs.BlocksInPlanes.{block_in}
use Rattle.residue_syntax.proofs.BlockReads.{all_beside, plane_skipped, plane_coded}
use Rattle.residue_syntax.proofs.blocks.read_plane.Goals as goal

pub returns-then-block-clause-gives : goal.returns-then-block-clause-gives
returns-then-block-clause-gives g c =
    let shape = shape_of c.args.setting.now.header in
    let b = block_in c.args.setting.now.header c.args.block.now c.args.plane in
    let places = places_in shape c.args.block.now c.args.plane in
    let same = sym (c.plane_block-in_plane.ensures ∙ ap (λ (s : Shape). plane_block s c.args.block.now c.args.plane) c.shape.ensures) in (
      plane_skipped (lists_of c.args.setting.now.contexts) c.args.block.now.skip b places c.args.sides.now _ _ c.if-block.true
          (c.skip_residues.ensures.read b places same),
      sym (c.skip_residues.ensures.none places (area b.block.tx)),
    )

pub read_coded-requires : goal.read_coded-requires
read_coded-requires g c =
    let shape = shape_of c.args.setting.now.header in
    let is = c.of-b.ensures in
    let same : grid_blocks c.transform_grid-grid.result ≡ places_in shape c.args.block.now c.args.plane =
    sym c.transform_grid-grid.ensures.blocks ∙ (λ i. transform_blocks (c.args.setting.now.whole i) (is i).block) in (
      omega arith,
      (
        c.transform_grid-grid.ensures.small,
        (
          c.transform_grid-grid.ensures.step,
          rw (is, same) (all_beside shape c.args.block.now c.args.plane c.args.sides.now c.requires.fit),
        ),
      ),
    )

pub returns-clause-gives : goal.returns-clause-gives
returns-clause-gives g c =
    let shape = shape_of c.args.setting.now.header in
    let is = c.of-b.ensures in
    let same : grid_blocks c.transform_grid-grid.result ≡ places_in shape c.args.block.now c.args.plane =
    sym c.transform_grid-grid.ensures.blocks ∙ (λ i. transform_blocks (c.args.setting.now.whole i) (is i).block) in
    plane_coded (lists_of c.args.setting.now.contexts) c.args.block.now.skip (block_in c.args.setting.now.header c.args.block.now c.args.plane) (places_in shape c.args.block.now c.args.plane)
    c.args.sides.now _ _ _ _ _ c.if-block.false (rw (is, same) at c.read_coded.ensures.gives)

pub returns-clause-small : goal.returns-clause-small
returns-clause-small g c =
    let shape = shape_of c.args.setting.now.header in
    let is = c.of-b.ensures in
    let same : grid_blocks c.transform_grid-grid.result ≡ places_in shape c.args.block.now c.args.plane =
    sym c.transform_grid-grid.ensures.blocks ∙ (λ i. transform_blocks (c.args.setting.now.whole i) (is i).block) in
    rw (is, same) at c.read_coded.ensures.small
