use Rattle.std.proofs.Common.{◌∙◌, sym, ap, length}
use Rattle.vp9_tables.specs.Scans.{area}
use Rattle.block_geometry.proofs.Rasters.{length_grid}
use Rattle.block_geometry.specs.TransformBlocks.{transform_blocks}
use Rattle.block_geometry.specs.declared.transform_blocks.PlaneBlock.{PlaneBlock}
use Rattle.column_plan.proofs.Held.{all_fit}
use Rattle.column_plan.proofs.blocks.transform_blocks.Goals as goal

pub returns-clause-count : goal.returns-clause-count
returns-clause-count c =
    c.count.ensures.count ∙ (sym (length_grid c.transform_grid-grid.result) ∙ (ap length (sym c.transform_grid-grid.ensures.blocks) ∙ (λ i. length (transform_blocks (c.requires.whole i) (c.plane_block-in_plane.ensures i)))))

pub returns-clause-area : goal.returns-clause-area
returns-clause-area c = c.area_of.ensures.value ∙ ap (λ (x : PlaneBlock). area x.tx) c.plane_block-in_plane.ensures

pub returns-clause-room : goal.returns-clause-room
returns-clause-room c = rw (c.count.ensures.count, c.area_of.ensures.value)
    (all_fit c.plane_block-in_plane.result.tx c.transform_grid-grid.result.step c.transform_grid-grid.result.rows c.transform_grid-grid.result.columns
    c.transform_grid-grid.ensures.step c.transform_grid-grid.ensures.small.rows c.transform_grid-grid.ensures.small.columns)
