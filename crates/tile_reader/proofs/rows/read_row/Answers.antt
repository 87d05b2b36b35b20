use Rattle.std.proofs.Common.{refl, ◌∙◌, ◌*◌, arith}
use Rattle.std.specs.Prelude.{Ok, Err}
use Rattle.std.proofs.lemmas.Result.{err_from_is_err_and}
use Rattle.tile_reader.proofs.RowEnds.{begins, row_rest, square_turn, row_turns, row_end, goes_on, stops, ends, row_turn_of}
use Rattle.tile_reader.proofs.rows.read_row.Goals as goal

pub returns-in_err-read_square-clause-ends : goal.returns-in_err-read_square-clause-ends
returns-in_err-read_square-clause-ends g c =
    let p = err_from_is_err_and c.from_residual.result c.from_residual.ensures.1 in
    rw (p.1, p.2) (stops (row_rest c.args.first.row) (square_turn c.args.first.row) (row_turns c.args.first.row) c.args.first.tile_from c.args.count 64 c.loop-i.i (64 * c.args.count)
    (g.R.TileReader.tile c.args.reader.now) (g.R.TileReader.tile c.loop-i.reader) (g.R.TileReader.tile c.read_square.new.reader) _ c.loop-i-test.true c.loop-i.invariant.left
    (row_turn_of (g.R.TileReader.tile c.loop-i.reader) (g.R.TileReader.tile c.read_square.new.reader) c.args.first c.loop-i.i (Err _) c.requires.level c.requires.begin c.in_err-read_square.ensures.ends))

pub loop-i-init : goal.loop-i-init
loop-i-init g c = record { left = begins (row_rest c.args.first.row) c.args.first.tile_from c.args.count 64 (g.R.TileReader.tile c.args.reader.now); ready = c.requires.ready; kept = refl }

pub loop-i-preserved : goal.loop-i-preserved
loop-i-preserved g c =
    record {
      left = goes_on (row_rest c.args.first.row) (square_turn c.args.first.row) (row_turns c.args.first.row) c.args.first.tile_from c.args.count 64 c.loop-i.i
          (g.R.TileReader.tile c.args.reader.now) (g.R.TileReader.tile c.loop-i.reader) (g.R.TileReader.tile c.read_square.new.reader) c.loop-i-test.true c.loop-i.invariant.left
          (row_turn_of (g.R.TileReader.tile c.loop-i.reader) (g.R.TileReader.tile c.read_square.new.reader) c.args.first c.loop-i.i (Ok tt) c.requires.level c.requires.begin c.in_ok-read_square.ensures.ends);
      ready = c.in_ok-read_square.ensures.ready;
      kept = c.read_square.ensures.kept ∙ c.loop-i.invariant.kept;
    }

pub returns-clause-ends : goal.returns-clause-ends
returns-clause-ends g c =
    ends (row_rest c.args.first.row) (row_end c.args.first.row) c.args.first.tile_from c.args.count 64 c.loop-i.i (64 * c.args.count)
    (g.R.TileReader.tile c.args.reader.now) (g.R.TileReader.tile c.loop-i.reader) c.loop-i-test.false (omega arith) c.loop-i.invariant.left
