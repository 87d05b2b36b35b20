use Rattle.std.proofs.Common.{refl, ◌∙◌, ◌*◌}
use Rattle.std.specs.Prelude.{Ok, Err}
use Rattle.std.proofs.lemmas.Result.{err_from_is_err_and}
use Rattle.tile_reader.proofs.RowEnds.{begins, tile_rest, row_turn, tile_turns, tile_end, tile_ends, goes_on, stops, ends, counted_to}
use Rattle.tile_reader.proofs.rows.read_rows.Goals as goal

pub returns-in_err-read_row-clause-ends : goal.returns-in_err-read_row-clause-ends
returns-in_err-read_row-clause-ends g c =
    let p = err_from_is_err_and c.from_residual.result c.from_residual.ensures.1 in
    rw (p.1, p.2) (tile_ends (g.R.TileReader.tile c.args.reader.now) (g.R.TileReader.tile c.read_row.new.reader) c.args.first c.args.columns c.args.rows (64 * (c.args.columns * c.args.rows)) (Err _)
    c.requires.begin c.requires.from c.requires.to
    (stops (tile_rest c.args.columns c.args.first.tile_from) (row_turn c.args.columns c.args.first.tile_from) (tile_turns c.args.columns c.args.first.tile_from)
    c.args.first.row c.args.rows (64 * c.args.columns) c.loop-i.i (64 * (c.args.columns * c.args.rows))
    (g.R.TileReader.tile c.args.reader.now) (g.R.TileReader.tile c.loop-i.reader) (g.R.TileReader.tile c.read_row.new.reader) _ c.loop-i-test.true c.loop-i.invariant.left c.in_err-read_row.ensures.ends))

pub loop-i-init : goal.loop-i-init
loop-i-init g c = record { left = begins (tile_rest c.args.columns c.args.first.tile_from) c.args.first.row c.args.rows (64 * c.args.columns) (g.R.TileReader.tile c.args.reader.now); ready = c.requires.ready; kept = refl }

pub loop-i-preserved : goal.loop-i-preserved
loop-i-preserved g c =
    record {
      left = goes_on (tile_rest c.args.columns c.args.first.tile_from) (row_turn c.args.columns c.args.first.tile_from) (tile_turns c.args.columns c.args.first.tile_from)
          c.args.first.row c.args.rows (64 * c.args.columns) c.loop-i.i
          (g.R.TileReader.tile c.args.reader.now) (g.R.TileReader.tile c.loop-i.reader) (g.R.TileReader.tile c.read_row.new.reader) c.loop-i-test.true c.loop-i.invariant.left c.in_ok-read_row.ensures.ends;
      ready = c.in_ok-read_row.ensures.ready;
      kept = c.read_row.ensures.kept ∙ c.loop-i.invariant.kept;
    }

pub returns-clause-ends : goal.returns-clause-ends
returns-clause-ends g c =
    tile_ends (g.R.TileReader.tile c.args.reader.now) (g.R.TileReader.tile c.loop-i.reader) c.args.first c.args.columns c.args.rows (64 * (c.args.columns * c.args.rows)) (Ok tt)
    c.requires.begin c.requires.from c.requires.to
    (ends (tile_rest c.args.columns c.args.first.tile_from) (tile_end c.args.columns c.args.first.tile_from)
    c.args.first.row c.args.rows (64 * c.args.columns) c.loop-i.i (64 * (c.args.columns * c.args.rows))
    (g.R.TileReader.tile c.args.reader.now) (g.R.TileReader.tile c.loop-i.reader) c.loop-i-test.false (counted_to c.args.columns c.args.rows c.loop-i.i c.loop-i.auto.i-end) c.loop-i.invariant.left)
