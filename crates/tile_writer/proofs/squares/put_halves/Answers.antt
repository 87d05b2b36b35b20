use Rattle.std.proofs.lemmas.Result.{err_from_is_err_and}
use Rattle.tile_writer.specs.Code.{block_rest, inside_rest}
use Rattle.tile_writer.proofs.Endings.{then_stops}
use Rattle.tile_writer.proofs.SquareEnds.{halves_end}
use Rattle.tile_writer.proofs.squares.put_halves.Goals as goal

pub returns-in_err-put_block-clause-ends : goal.returns-in_err-put_block-clause-ends
returns-in_err-put_block-clause-ends g c =
    let t = g.W.TileWriter.tile c.args.writer.now in
    let p = err_from_is_err_and c.from_residual.result c.from_residual.ensures.1 in
    rw (p.1, p.2) (then_stops (block_rest t.walk t.teller c.args.first) (inside_rest t.walk t.teller c.args.second.row c.args.second.col c.args.second.size) 1 2 t (g.W.TileWriter.tile c.put_block.new.self) _ c.in_err-put_block.ensures.ends)

pub returns-clause-ends : goal.returns-clause-ends
returns-clause-ends g c =
    halves_end (g.W.TileWriter.tile c.args.writer.now) (g.W.TileWriter.tile c.put_block.new.self) (g.W.TileWriter.tile c.put_inside.new.writer) c.args.first
    c.args.second.row c.args.second.col c.args.second.size c.put_inside.result c.in_ok-put_block.ensures.ends c.put_inside.ensures.ends
