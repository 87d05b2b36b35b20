use Rattle.block_geometry.specs.TransformBlocks.{place_at}
use Rattle.block_geometry.proofs.Rasters.{at_grid, row_of_place, column_of_place}
use Rattle.block_geometry.proofs.transform_blocks.TransformGrid.place.Goals as goal

pub returns-clause-place : goal.returns-clause-place
returns-clause-place c = at_grid c.args.self.now c.args.k (place_at 0 0) c.requires.count

pub returns-clause-low : goal.returns-clause-low
returns-clause-low c = row_of_place c.args.self.now c.args.k c.requires.count c.requires.small.some c.requires.small.rows

pub returns-clause-near : goal.returns-clause-near
returns-clause-near c = column_of_place c.args.self.now c.args.k c.requires.count c.requires.small.some c.requires.small.columns
