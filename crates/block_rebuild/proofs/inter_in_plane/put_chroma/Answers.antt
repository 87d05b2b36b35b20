use Rattle.std.proofs.Common.{◌≡◌, ◌∙◌, sym, subst, arith}
use Rattle.vp9_types.specs.declared.shape.Plane.TheVariants.{U, V}
use Rattle.block_geometry.specs.TransformBlocks.{transform_blocks, grid_blocks}
use Rattle.block_plan.specs.InPlanes.{places_in}
use Rattle.planes.specs.Planes.{plane_map}
use Rattle.planes.specs.declared.area.Area.{Area}
use Rattle.block_rebuild.specs.Code.{HoldsBlock, rebuilding_of}
use Rattle.block_rebuild.proofs.Areas.{all_start, inter_is}
use Rattle.block_rebuild.proofs.inter_in_plane.put_chroma.Goals as goal

pub add_residues-requires-clause-inside : goal.add_residues-requires-clause-inside
add_residues-requires-clause-inside g c =
    let b = c.args.b.now in let shape = b.by.now.shape in
    let same : grid_blocks c.transform_grid-grid.result ≡ places_in shape b.block.now U =
    sym c.transform_grid-grid.ensures.blocks ∙ (λ i. transform_blocks (c.of.ensures i) (c.plane_block-block.ensures i)) in
    rw (same, c.plane_block-block.ensures)
    (all_start shape b.block.now.col b.block.now U c.predict_chroma.new.u.area (omega arith) c.requires.fits
    (subst (λ (z : Area). HoldsBlock shape U b.block.now.col b.block.now z) (sym c.predict_chroma.ensures.u_area) c.requires.u.area))

pub add_residues-requires-clause-small : goal.add_residues-requires-clause-small
add_residues-requires-clause-small g c =
    let b = c.args.b.now in let shape = b.by.now.shape in
    let same : grid_blocks c.transform_grid-grid.result ≡ places_in shape b.block.now U =
    sym c.transform_grid-grid.ensures.blocks ∙ (λ i. transform_blocks (c.of.ensures i) (c.plane_block-block.ensures i)) in
    rw (same, c.plane_block-block.ensures) c.requires.small_u

pub add_residues-requires-2-clause-inside : goal.add_residues-requires-2-clause-inside
add_residues-requires-2-clause-inside g c =
    let b = c.args.b.now in let shape = b.by.now.shape in
    let same : grid_blocks c.transform_grid-grid.result ≡ places_in shape b.block.now V =
    sym c.transform_grid-grid.ensures.blocks ∙ (λ i. transform_blocks (c.of.ensures i) (c.plane_block-block.ensures i)) in
    rw (same, c.plane_block-block.ensures)
    (all_start shape b.block.now.col b.block.now V c.predict_chroma.new.v.area (omega arith) c.requires.fits
    (subst (λ (z : Area). HoldsBlock shape V b.block.now.col b.block.now z) (sym c.predict_chroma.ensures.v_area) c.requires.v.area))

pub add_residues-requires-2-clause-small : goal.add_residues-requires-2-clause-small
add_residues-requires-2-clause-small g c =
    let b = c.args.b.now in let shape = b.by.now.shape in
    let same : grid_blocks c.transform_grid-grid.result ≡ places_in shape b.block.now V =
    sym c.transform_grid-grid.ensures.blocks ∙ (λ i. transform_blocks (c.of.ensures i) (c.plane_block-block.ensures i)) in
    rw (same, c.plane_block-block.ensures) c.requires.small_v

pub returns-clause-u : goal.returns-clause-u
returns-clause-u g c =
    let b = c.args.b.now in let shape = b.by.now.shape in
    let same : grid_blocks c.transform_grid-grid.result ≡ places_in shape b.block.now U =
    sym c.transform_grid-grid.ensures.blocks ∙ (λ i. transform_blocks (c.of.ensures i) (c.plane_block-block.ensures i)) in
    inter_is (rebuilding_of g.S.Samples.map b.by.now) b.block.now.col b.block.now b.modes.now U c.predict_chroma.new.u.area c.plane_block-block.result (grid_blocks c.transform_grid-grid.result)
    (g.R.TransformResidues.residue c.args.residues.now U) (plane_map c.args.u.now) (plane_map c.predict_chroma.new.u) (plane_map c.add_residues.new.samples)
    c.requires.fits (subst (λ (z : Area). HoldsBlock shape U b.block.now.col b.block.now z) (sym c.predict_chroma.ensures.u_area) c.requires.u.area)
    c.plane_block-block.ensures same c.predict_chroma.ensures.u c.add_residues.ensures.map

pub returns-clause-v : goal.returns-clause-v
returns-clause-v g c =
    let b = c.args.b.now in let shape = b.by.now.shape in
    let same : grid_blocks c.transform_grid-grid.result ≡ places_in shape b.block.now V =
    sym c.transform_grid-grid.ensures.blocks ∙ (λ i. transform_blocks (c.of.ensures i) (c.plane_block-block.ensures i)) in
    inter_is (rebuilding_of g.S.Samples.map b.by.now) b.block.now.col b.block.now b.modes.now V c.predict_chroma.new.v.area c.plane_block-block.result (grid_blocks c.transform_grid-grid.result)
    (g.R.TransformResidues.residue c.args.residues.now V) (plane_map c.args.v.now) (plane_map c.predict_chroma.new.v) (plane_map c.add_residues-2.new.samples)
    c.requires.fits (subst (λ (z : Area). HoldsBlock shape V b.block.now.col b.block.now z) (sym c.predict_chroma.ensures.v_area) c.requires.v.area)
    c.plane_block-block.ensures same c.predict_chroma.ensures.v c.add_residues-2.ensures.map
