use Rattle.std.specs.Option.{option_copied}
use Rattle.planes.specs.Pictures.{samples_of}
use Rattle.block_rebuild.specs.Code.{rebuilding_of}
use Rattle.frame_state.specs.KeptColumns.{limit_of}
use Rattle.recon_rows.proofs.StripBlocks.{all_placed, row_held}
use Rattle.recon_rows.proofs.StripSteps.{areas_stay, begun_around, begun_range, may_begin, strip_made}
use Rattle.recon_rows.proofs.strips.rows.Goals as goal

pub begin-requires-clause-share : goal.begin-requires-clause-share
begin-requires-clause-share g c = let a = c.args in
    may_begin (rebuilding_of g.S.Samples.map a.by.now) a.plan.now a.row (option_copied a.above) a.strip.now c.requires.row c.requires.areas c.requires.above

pub put_row-requires-clause-placed : goal.put_row-requires-clause-placed
put_row-requires-clause-placed g c = let a = c.args in let grid = a.plan.now.column.grid in
    all_placed a.by.now.shape grid.from grid.blocks a.plan.now.residues c.requires.read.read

pub put_row-requires-clause-provided : goal.put_row-requires-clause-provided
put_row-requires-clause-provided g c = let a = c.args in let grid = a.plan.now.column.grid in
    let areas = areas_stay a.by.now.shape grid.from (limit_of a.plan.now.column) a.row a.strip.now c.begin.new.strip c.requires.areas c.begin.ensures.areas in
    λ i d low. record {
      served = c.requires.served i d low;
      part = row_held a.by.now.shape grid.from (limit_of a.plan.now.column) a.row grid.blocks a.plan.now.residues c.begin.new.strip areas c.requires.read.read c.requires.read.inside c.requires.read.order i d low;
    }

pub put_row-requires-clause-range : goal.put_row-requires-clause-range
put_row-requires-clause-range g c = let a = c.args in
    begun_range (rebuilding_of g.S.Samples.map a.by.now) a.plan.now a.row (option_copied a.above) c.begin.new.strip c.requires.above c.begin.ensures.begun

pub returns : goal.returns
returns g c = let a = c.args in let put = rebuilding_of g.S.Samples.map a.by.now in let grid = a.plan.now.column.grid in
    let areas = areas_stay a.by.now.shape grid.from (limit_of a.plan.now.column) a.row a.strip.now c.begin.new.strip c.requires.areas c.begin.ensures.areas in
    strip_made put a.plan.now a.row c.begin.new.strip c.put_row.new.planes c.requires.read
    (areas_stay a.by.now.shape grid.from (limit_of a.plan.now.column) a.row c.begin.new.strip c.put_row.new.planes areas c.put_row.ensures.areas) c.put_row.ensures.range
    (begun_around put a.plan.now a.row (option_copied a.above) c.begin.new.strip areas c.requires.above c.begin.ensures.begun)
    (c.put_row.ensures.in_order c.requires.read.order)
