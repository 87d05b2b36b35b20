use Rattle.std.proofs.Common.{◌∙◌, arith}
use Rattle.frame_headers.specs.Spans.{tile_count}
use Rattle.frame_state.proofs.ColumnBlocks.{covered_in_column}
use Rattle.frame_state.proofs.frame_blocks.FrameBlocksNeighbours.at.Goals as goal

pub at-requires : goal.at-requires
at-requires c =
    let b = c.args.self.now in
    let k = c.column_at-k in
    let is = b.are.are.each k.result c.index-self-k.result k.ensures.there in
    (omega (arith, is.rows, c.requires.0), omega (arith, is.from, k.ensures.from), omega (arith, is.to, k.ensures.to))

pub returns : goal.returns
returns c =
    let b = c.args.self.now in
    let k = c.column_at-k in
    c.at.ensures
    ∙ covered_in_column b.header.now (tile_count b.header.now) k.result c.args.row c.args.col b.columns.now c.index-self-k.result b.are.are k.ensures.there k.ensures.from k.ensures.to
