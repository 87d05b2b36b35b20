use Rattle.std.proofs.Common.{arith}
use Rattle.planes.specs.Pictures.{samples_of}
use Rattle.loop_filter.proofs.Frames.{no_rows, rows_done, all_done, holds_rows, sizes_kept}
use Rattle.loop_filter.proofs.rows.filter_frame.Goals as goal

pub loop-sr-init : goal.loop-sr-init
loop-sr-init g c = record { sizes = c.requires.sizes; range = c.requires.range; map = no_rows c.args.f.now (g.N.Neighbours.blocks c.args.blocks.now) (samples_of c.args.planes.now) }

pub filter_row-requires-clause-rows : goal.filter_row-requires-clause-rows
filter_row-requires-clause-rows g c = holds_rows c.args.f.now.shape c.loop-sr.sr c.loop-sr.planes c.loop-sr.invariant.sizes

pub loop-sr-preserved : goal.loop-sr-preserved
loop-sr-preserved g c = record {
  sizes = sizes_kept c.args.f.now.shape c.loop-sr.planes c.filter_row.new.planes c.loop-sr.invariant.sizes c.filter_row.ensures.areas;
  range = c.filter_row.ensures.range;
  map = rows_done c.args.f.now (g.N.Neighbours.blocks c.args.blocks.now) (samples_of c.args.planes.now) _ _ c.loop-sr.sr c.loop-sr.invariant.map c.filter_row.ensures.map;
}

pub returns-clause-map : goal.returns-clause-map
returns-clause-map g c = all_done c.args.f.now (g.N.Neighbours.blocks c.args.blocks.now) (samples_of c.args.planes.now) _ c.loop-sr.sr
    (omega (arith, c.loop-sr-test.false, c.loop-sr.auto)) c.loop-sr.invariant.map
