use Rattle.std.proofs.Common.{◌*◌, arith}
use Rattle.std.specs.Prelude.{Ok, Err}
use Rattle.std.proofs.lemmas.Result.{err_from_is_err_and}
use Rattle.tile_writer.specs.Code.{row_rest}
use Rattle.tile_writer.proofs.RowEnds.{square_turn, row_turns, row_end, goes_on, stops, ends, row_turn_of}
use Rattle.tile_writer.proofs.rows.put_row.Goals as goal

pub returns-in_err-put_square-clause-ends : goal.returns-in_err-put_square-clause-ends
returns-in_err-put_square-clause-ends g c =
    let p = err_from_is_err_and c.from_residual.result c.from_residual.ensures.1 in
    rw (p.1, p.2) (stops (row_rest c.args.first.row) (square_turn c.args.first.row) (row_turns c.args.first.row) c.args.first.tile_from c.args.count 64 c.loop-i.i (64 * c.args.count)
    (g.W.TileWriter.tile c.args.writer.now) (g.W.TileWriter.tile c.loop-i.writer) (g.W.TileWriter.tile c.put_square.new.writer) _ c.loop-i-test.true c.loop-i.invariant.left
    (row_turn_of (g.W.TileWriter.tile c.loop-i.writer) (g.W.TileWriter.tile c.put_square.new.writer) c.args.first c.loop-i.i (Err _) c.requires.level c.requires.begin c.in_err-put_square.ensures.ends))

pub loop-i-preserved : goal.loop-i-preserved
loop-i-preserved g c =
    record {
      left = goes_on (row_rest c.args.first.row) (square_turn c.args.first.row) (row_turns c.args.first.row) c.args.first.tile_from c.args.count 64 c.loop-i.i
          (g.W.TileWriter.tile c.args.writer.now) (g.W.TileWriter.tile c.loop-i.writer) (g.W.TileWriter.tile c.put_square.new.writer) c.loop-i-test.true c.loop-i.invariant.left
          (row_turn_of (g.W.TileWriter.tile c.loop-i.writer) (g.W.TileWriter.tile c.put_square.new.writer) c.args.first c.loop-i.i (Ok tt) c.requires.level c.requires.begin c.in_ok-put_square.ensures.ends);
      ready = c.in_ok-put_square.ensures.ready;
    }

pub returns-clause-ends : goal.returns-clause-ends
returns-clause-ends g c =
    ends (row_rest c.args.first.row) (row_end c.args.first.row) c.args.first.tile_from c.args.count 64 c.loop-i.i (64 * c.args.count)
    (g.W.TileWriter.tile c.args.writer.now) (g.W.TileWriter.tile c.loop-i.writer) c.loop-i-test.false (omega arith) c.loop-i.invariant.left
