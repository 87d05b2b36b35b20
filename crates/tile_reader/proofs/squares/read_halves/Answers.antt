use Rattle.std.proofs.lemmas.Result.{err_from_is_err_and}
use Rattle.mode_syntax.specs.Walk.{block_inside}
use Rattle.tile_reader.proofs.Endings.{then_breaks}
use Rattle.tile_reader.proofs.SquareEnds.{halves_end}
use Rattle.tile_reader.proofs.squares.read_halves.Goals as goal

pub returns-in_err-read_block-clause-ends : goal.returns-in_err-read_block-clause-ends
returns-in_err-read_block-clause-ends g c =
    let t = g.R.TileReader.tile c.args.reader.now in
    let p = err_from_is_err_and c.from_residual.result c.from_residual.ensures.1 in
    rw (p.1, p.2) (then_breaks (t.walk.block c.args.first) (block_inside t.walk c.args.second.row c.args.second.col c.args.second.size) 1 2 t (g.R.TileReader.tile c.read_block.new.self) _ c.in_err-read_block.ensures.ends)

pub returns-clause-ends : goal.returns-clause-ends
returns-clause-ends g c =
    halves_end (g.R.TileReader.tile c.args.reader.now) (g.R.TileReader.tile c.read_block.new.self) (g.R.TileReader.tile c.read_inside.new.reader) c.args.first
    c.args.second.row c.args.second.col c.args.second.size c.read_inside.result c.in_ok-read_block.ensures.ends c.read_inside.ensures.ends
