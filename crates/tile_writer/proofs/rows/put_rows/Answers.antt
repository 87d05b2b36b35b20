use Rattle.std.proofs.Common.{◌*◌}
use Rattle.std.specs.Prelude.{Ok, Err}
use Rattle.std.proofs.lemmas.Result.{err_from_is_err_and}
use Rattle.tile_writer.specs.Code.{rows_rest}
use Rattle.tile_writer.proofs.RowEnds.{row_turn, tile_turns, tile_end, tile_ends, goes_on, stops, ends, counted_to}
use Rattle.tile_writer.proofs.rows.put_rows.Goals as goal

pub returns-in_err-put_row-clause-ends : goal.returns-in_err-put_row-clause-ends
returns-in_err-put_row-clause-ends g c =
    let p = err_from_is_err_and c.from_residual.result c.from_residual.ensures.1 in
    rw (p.1, p.2) (tile_ends (g.W.TileWriter.tile c.args.writer.now) (g.W.TileWriter.tile c.put_row.new.writer) c.args.first c.args.columns c.args.rows (64 * (c.args.columns * c.args.rows)) (Err _)
    c.requires.begin c.requires.from c.requires.to
    (stops (rows_rest c.args.columns c.args.first.tile_from) (row_turn c.args.columns c.args.first.tile_from) (tile_turns c.args.columns c.args.first.tile_from)
    c.args.first.row c.args.rows (64 * c.args.columns) c.loop-i.i (64 * (c.args.columns * c.args.rows))
    (g.W.TileWriter.tile c.args.writer.now) (g.W.TileWriter.tile c.loop-i.writer) (g.W.TileWriter.tile c.put_row.new.writer) _ c.loop-i-test.true c.loop-i.invariant.left c.in_err-put_row.ensures.ends))

pub loop-i-preserved : goal.loop-i-preserved
loop-i-preserved g c =
    record {
      left = goes_on (rows_rest c.args.columns c.args.first.tile_from) (row_turn c.args.columns c.args.first.tile_from) (tile_turns c.args.columns c.args.first.tile_from)
          c.args.first.row c.args.rows (64 * c.args.columns) c.loop-i.i
          (g.W.TileWriter.tile c.args.writer.now) (g.W.TileWriter.tile c.loop-i.writer) (g.W.TileWriter.tile c.put_row.new.writer) c.loop-i-test.true c.loop-i.invariant.left c.in_ok-put_row.ensures.ends;
      ready = c.in_ok-put_row.ensures.ready;
    }

pub returns-clause-ends : goal.returns-clause-ends
returns-clause-ends g c =
    tile_ends (g.W.TileWriter.tile c.args.writer.now) (g.W.TileWriter.tile c.loop-i.writer) c.args.first c.args.columns c.args.rows (64 * (c.args.columns * c.args.rows)) (Ok tt)
    c.requires.begin c.requires.from c.requires.to
    (ends (rows_rest c.args.columns c.args.first.tile_from) (tile_end c.args.columns c.args.first.tile_from)
    c.args.first.row c.args.rows (64 * c.args.columns) c.loop-i.i (64 * (c.args.columns * c.args.rows))
    (g.W.TileWriter.tile c.args.writer.now) (g.W.TileWriter.tile c.loop-i.writer) c.loop-i-test.false (counted_to c.args.columns c.args.rows c.loop-i.i c.loop-i.auto.i-end) c.loop-i.invariant.left)
