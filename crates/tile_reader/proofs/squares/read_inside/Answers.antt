use Rattle.std.proofs.Common.{ap, arith}
use Rattle.block_geometry.specs.declared.transform_blocks.FramePlaces.{FramePlaces}
use Rattle.tile_reader.proofs.SquareEnds.{below, beside, inside_ends, inside_none}
use Rattle.tile_reader.proofs.squares.read_inside.Goals.{then-at-frame-via-then-at-frame, then-at-frame-via-else-at-frame+then-at-frame-2}
use Rattle.tile_reader.proofs.squares.read_inside.Goals as goal

pub returns-then-at-frame-clause-ends : goal.returns-then-at-frame-clause-ends
returns-then-at-frame-clause-ends g c =
    let t = g.R.TileReader.tile c.args.reader.now in
    let rows = ap (λ (f : FramePlaces). f.rows) c.frame-frame.ensures.is in
    let cols = ap (λ (f : FramePlaces). f.cols) c.frame-frame.ensures.is in
    elim c.then-at-frame.branch [
      | then-at-frame-via-then-at-frame w ↦ inside_none t c.args.at.row c.args.at.col c.args.at.size 1 (below t.walk c.args.at.row c.args.at.col (omega (arith, rows, w.if-at-frame.true)))
      | then-at-frame-via-else-at-frame+then-at-frame-2 w ↦ inside_none t c.args.at.row c.args.at.col c.args.at.size 1 (beside t.walk c.args.at.row c.args.at.col (omega (arith, cols, w.if-at-frame-2.true)))
    ]

pub returns-clause-ends : goal.returns-clause-ends
returns-clause-ends g c =
    let rows = ap (λ (f : FramePlaces). f.rows) c.frame-frame.ensures.is in
    let cols = ap (λ (f : FramePlaces). f.cols) c.frame-frame.ensures.is in
    inside_ends (g.R.TileReader.tile c.args.reader.now) (g.R.TileReader.tile c.read_block.new.self) c.args.at 1 c.read_block.result
    (omega (arith, rows, c.if-at-frame.false)) (omega (arith, cols, c.if-at-frame-2.false)) c.requires.stands c.read_block.ensures.ends
