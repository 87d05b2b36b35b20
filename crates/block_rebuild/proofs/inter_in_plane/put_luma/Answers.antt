use Rattle.std.proofs.Common.{◌≡◌, ◌∙◌, sym, subst, arith}
use Rattle.block_geometry.specs.TransformBlocks.{transform_blocks, grid_blocks}
use Rattle.block_plan.specs.InPlanes.{places_in}
use Rattle.vp9_types.specs.declared.shape.Plane.TheVariants.{Y}
use Rattle.planes.specs.Planes.{plane_map}
use Rattle.block_rebuild.specs.Code.{rebuilding_of}
use Rattle.planes.specs.declared.area.Area.{Area}
use Rattle.block_rebuild.specs.Code.{HoldsBlock}
use Rattle.block_rebuild.proofs.Areas.{all_start, inter_is}
use Rattle.block_rebuild.proofs.inter_in_plane.put_luma.Goals as goal

pub add_residues-requires-clause-inside : goal.add_residues-requires-clause-inside
add_residues-requires-clause-inside g c =
    let b = c.args.b.now in
    let shape = b.by.now.shape in
    let same : grid_blocks c.transform_grid-grid.result ≡ places_in shape b.block.now Y =
    sym c.transform_grid-grid.ensures.blocks ∙ (λ i. transform_blocks (c.of.ensures i) (c.plane_block-block.ensures i)) in
    rw (same, c.plane_block-block.ensures)
    (all_start shape b.block.now.col b.block.now Y c.predict_luma.new.samples.area (omega arith) c.requires.fits
    (subst (λ (z : Area). HoldsBlock shape Y b.block.now.col b.block.now z) (sym c.predict_luma.ensures.area) c.requires.is.area))

pub add_residues-requires-clause-held : goal.add_residues-requires-clause-held
add_residues-requires-clause-held g c =
    let b = c.args.b.now in
    let same : grid_blocks c.transform_grid-grid.result ≡ places_in b.by.now.shape b.block.now Y =
    sym c.transform_grid-grid.ensures.blocks ∙ (λ i. transform_blocks (c.of.ensures i) (c.plane_block-block.ensures i)) in
    rw (same, c.plane_block-block.ensures) c.requires.held

pub add_residues-requires-clause-small : goal.add_residues-requires-clause-small
add_residues-requires-clause-small g c =
    let b = c.args.b.now in
    let same : grid_blocks c.transform_grid-grid.result ≡ places_in b.by.now.shape b.block.now Y =
    sym c.transform_grid-grid.ensures.blocks ∙ (λ i. transform_blocks (c.of.ensures i) (c.plane_block-block.ensures i)) in
    rw (same, c.plane_block-block.ensures) c.requires.small

pub returns-clause-map : goal.returns-clause-map
returns-clause-map g c =
    let b = c.args.b.now in
    let same : grid_blocks c.transform_grid-grid.result ≡ places_in b.by.now.shape b.block.now Y =
    sym c.transform_grid-grid.ensures.blocks ∙ (λ i. transform_blocks (c.of.ensures i) (c.plane_block-block.ensures i)) in
    inter_is (rebuilding_of g.S.Samples.map b.by.now) b.block.now.col b.block.now b.modes.now Y c.predict_luma.new.samples.area c.plane_block-block.result (grid_blocks c.transform_grid-grid.result)
    (g.R.TransformResidues.residue c.args.residues.now Y) (plane_map c.args.samples.now) (plane_map c.predict_luma.new.samples) (plane_map c.add_residues.new.samples)
    c.requires.fits (subst (λ (z : Area). HoldsBlock b.by.now.shape Y b.block.now.col b.block.now z) (sym c.predict_luma.ensures.area) c.requires.is.area)
    c.plane_block-block.ensures same c.predict_luma.ensures.map c.add_residues.ensures.map
