use Rattle.std.proofs.Common.{◌≡◌, ◌∙◌, sym}
use Rattle.block_geometry.specs.TransformBlocks.{transform_blocks, grid_blocks}
use Rattle.block_plan.specs.InPlanes.{places_in}
use Rattle.block_rebuild.proofs.Areas.{all_lie, put_is}
use Rattle.block_rebuild.proofs.in_plane.put_in_plane.Goals as goal

pub put_residues-requires-clause-inside : goal.put_residues-requires-clause-inside
put_residues-requires-clause-inside g c =
    let b = c.args.b.now in
    let same : grid_blocks c.transform_grid-grid.result ≡ places_in b.shape.now b.block.now c.args.plane =
    sym c.transform_grid-grid.ensures.blocks ∙ (λ i. transform_blocks (c.of.ensures i) (c.plane_block-block.ensures i)) in
    rw (same, c.coded_block.ensures, c.plane_block-block.ensures)
    (all_lie b.shape.now b.tile_from b.block.now c.args.plane c.args.samples.now.area c.requires.placed.tile c.requires.placed.fits c.requires.is.area)

pub put_residues-requires-clause-held : goal.put_residues-requires-clause-held
put_residues-requires-clause-held g c =
    let b = c.args.b.now in
    let same : grid_blocks c.transform_grid-grid.result ≡ places_in b.shape.now b.block.now c.args.plane =
    sym c.transform_grid-grid.ensures.blocks ∙ (λ i. transform_blocks (c.of.ensures i) (c.plane_block-block.ensures i)) in
    rw (same, c.plane_block-block.ensures) c.requires.held

pub put_residues-requires-clause-small : goal.put_residues-requires-clause-small
put_residues-requires-clause-small g c =
    let b = c.args.b.now in
    let same : grid_blocks c.transform_grid-grid.result ≡ places_in b.shape.now b.block.now c.args.plane =
    sym c.transform_grid-grid.ensures.blocks ∙ (λ i. transform_blocks (c.of.ensures i) (c.plane_block-block.ensures i)) in
    rw (same, c.plane_block-block.ensures) c.requires.small

pub returns-clause-map : goal.returns-clause-map
returns-clause-map g c =
    let b = c.args.b.now in
    let same : grid_blocks c.transform_grid-grid.result ≡ places_in b.shape.now b.block.now c.args.plane =
    sym c.transform_grid-grid.ensures.blocks ∙ (λ i. transform_blocks (c.of.ensures i) (c.plane_block-block.ensures i)) in
    put_is b.shape.now b.tile_from b.block.now b.modes c.args.plane c.args.samples.now.area c.plane_block-block.result c.coded_block.result (grid_blocks c.transform_grid-grid.result)
    (g.R.TransformResidues.residue c.args.residues.now c.args.plane) _ _ c.requires.placed.fits c.requires.is.area c.plane_block-block.ensures c.coded_block.ensures same c.put_residues.ensures.map
