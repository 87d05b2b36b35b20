use Rattle.std.proofs.Common.{◌≡◌, ◌<◌, ◌+◌, ◌-◌, ◌^◌, ap, arith}
use Rattle.std.specs.Prelude.{Ok, Err}
use Rattle.std.proofs.lemmas.Result.{err_from_is_err_and}
use Rattle.block_geometry.specs.declared.transform_blocks.FramePlaces.{FramePlaces}
use Rattle.vp9_types.specs.declared.block.Partition.TheVariants.{Whole, Horizontal, Vertical}
use Rattle.tile_writer.specs.Code.{parts_rest}
use Rattle.tile_writer.proofs.Endings.{ends_more, same_on, stops_any, then_ends, then_stops}
use Rattle.tile_writer.proofs.SquareEnds.{below, beside, square_none, whole_ends, rows_end, columns_end, first_quarter, second_quarter, third_quarter, fourth_quarter, from_first, from_second, from_third, from_fourth, one_quarter, split_ends, smallest_ends, larger_ends, square_stopped, enough, four_quarters, all_quarters}
use Rattle.tile_writer.proofs.squares.+squares.Goals as goal
use Rattle.tile_writer.proofs.squares.+squares.Goals.{put_square-then-at-frame-via-then-at-frame, put_square-then-at-frame-via-else-at-frame+then-at-frame-2}

pub put_parts-returns-in-Whole-clause-ends : goal.put_parts-returns-in-Whole-clause-ends
put_parts-returns-in-Whole-clause-ends g t c =
    let now = g.W.TileWriter.tile c.args.writer.now in
    let level : c.args.at.level ≡ c.args.at.level - 1 + 1 = omega (arith, c.requires.least) in
    rw c.in-Whole.is (ends_more (parts_rest now.walk now.teller (c.args.at.level - 1) c.args.at.row c.args.at.col Whole) 1 (4 ^ c.args.at.level) now (g.W.TileWriter.tile c.put_block.new.self) c.put_block.result (enough c.args.at.level)
    (whole_ends now (g.W.TileWriter.tile c.put_block.new.self) c.args.at (c.args.at.level - 1) c.block_of-first.result c.part_size-size.result c.put_block.result
    (record { from = c.requires.within.from; to = c.requires.within.to }) (omega (arith, level)) (rw c.in-Whole.is at c.part_size-size.ensures.is) c.block_of-first.ensures c.put_block.ensures.ends))

pub put_parts-returns-in-Horizontal-clause-ends : goal.put_parts-returns-in-Horizontal-clause-ends
put_parts-returns-in-Horizontal-clause-ends g t c =
    let now = g.W.TileWriter.tile c.args.writer.now in
    rw c.in-Horizontal.is (ends_more (parts_rest now.walk now.teller (c.args.at.level - 1) c.args.at.row c.args.at.col Horizontal) 2 (4 ^ c.args.at.level) now (g.W.TileWriter.tile c.put_halves.new.writer) c.put_halves.result (four_quarters c.args.at.level c.requires.least)
    (rows_end now (g.W.TileWriter.tile c.put_halves.new.writer) c.args.at (c.args.at.level - 1) c.side_of-half.result c.block_of-first.result c.part_size-size.result c.put_halves.result
    (record { from = c.requires.within.from; to = c.requires.within.to }) (omega (arith, c.requires.least)) c.side_of-half.ensures.is (rw c.in-Horizontal.is at c.part_size-size.ensures.is) c.block_of-first.ensures (rw c.block_of.ensures at c.put_halves.ensures.ends)))

pub put_parts-returns-in-Vertical-clause-ends : goal.put_parts-returns-in-Vertical-clause-ends
put_parts-returns-in-Vertical-clause-ends g t c =
    let now = g.W.TileWriter.tile c.args.writer.now in
    rw c.in-Vertical.is (ends_more (parts_rest now.walk now.teller (c.args.at.level - 1) c.args.at.row c.args.at.col Vertical) 2 (4 ^ c.args.at.level) now (g.W.TileWriter.tile c.put_halves-in-Vertical.new.writer) c.put_halves-in-Vertical.result (four_quarters c.args.at.level c.requires.least)
    (columns_end now (g.W.TileWriter.tile c.put_halves-in-Vertical.new.writer) c.args.at (c.args.at.level - 1) c.side_of-half.result c.block_of-first.result c.part_size-size.result c.put_halves-in-Vertical.result
    (record { from = c.requires.within.from; to = c.requires.within.to }) (omega (arith, c.requires.least)) c.side_of-half.ensures.is (rw c.in-Vertical.is at c.part_size-size.ensures.is) c.block_of-first.ensures (rw c.block_of-in-Vertical.ensures at c.put_halves-in-Vertical.ensures.ends)))

pub put_quarters-returns-in_err-put_square-clause-ends : goal.put_quarters-returns-in_err-put_square-clause-ends
put_quarters-returns-in_err-put_square-clause-ends g t c =
    let t0 = g.W.TileWriter.tile c.args.writer.now in
    let t1 = g.W.TileWriter.tile c.put_square.new.writer in
    let p = err_from_is_err_and c.from_residual.result c.from_residual.ensures.1 in
    rw (p.1, p.2) (split_ends t0 t1 c.args.at (4 ^ c.args.at.level) (Err _)
    (then_stops (one_quarter t0 c.args.at c.args.at.row c.args.at.col) (from_second t0 c.args.at) (4 ^ (c.args.at.level - 1)) (4 ^ c.args.at.level) t0 t1 _
    (first_quarter t0 t1 c.args.at c.quarter_of.result (Err _) c.quarter_of.ensures c.in_err-put_square.ensures.ends)))

pub put_quarters-returns-in_err-put_square-2-clause-ends : goal.put_quarters-returns-in_err-put_square-2-clause-ends
put_quarters-returns-in_err-put_square-2-clause-ends g t c =
    let t0 = g.W.TileWriter.tile c.args.writer.now in
    let t1 = g.W.TileWriter.tile c.put_square.new.writer in
    let h0 = first_quarter t0 t1 c.args.at c.quarter_of.result (Ok tt) c.quarter_of.ensures c.in_ok-put_square.ensures.ends in
    let s1 = h0.1 in
    let t2 = g.W.TileWriter.tile c.put_square-2.new.writer in
    let p = err_from_is_err_and c.from_residual-in_err-put_square-2.result c.from_residual-in_err-put_square-2.ensures.1 in
    rw (p.1, p.2) (split_ends t0 t2 c.args.at (4 ^ c.args.at.level) (Err _)
    (stops_any (from_first t0 c.args.at) (4 ^ (c.args.at.level - 1) + 0) (4 ^ c.args.at.level) t0 t2 _ (then_ends (one_quarter t0 c.args.at c.args.at.row c.args.at.col) (from_second t0 c.args.at) (4 ^ (c.args.at.level - 1)) 0 t0 t1 t2 (Err _) h0
    (then_stops (one_quarter t0 c.args.at c.args.at.row (c.args.at.col + 2 ^ (c.args.at.level - 1))) (from_third t0 c.args.at) (4 ^ (c.args.at.level - 1)) 0 t1 t2 _
    (second_quarter t0 t1 t2 c.args.at c.quarter_of-2.result (Err _) s1 c.quarter_of-2.ensures c.in_err-put_square-2.ensures.ends)))))

pub put_quarters-returns-in_err-put_square-3-clause-ends : goal.put_quarters-returns-in_err-put_square-3-clause-ends
put_quarters-returns-in_err-put_square-3-clause-ends g t c =
    let t0 = g.W.TileWriter.tile c.args.writer.now in
    let t1 = g.W.TileWriter.tile c.put_square.new.writer in
    let h0 = first_quarter t0 t1 c.args.at c.quarter_of.result (Ok tt) c.quarter_of.ensures c.in_ok-put_square.ensures.ends in
    let s1 = h0.1 in
    let t2 = g.W.TileWriter.tile c.put_square-2.new.writer in
    let h1 = second_quarter t0 t1 t2 c.args.at c.quarter_of-2.result (Ok tt) s1 c.quarter_of-2.ensures c.in_ok-put_square-2.ensures.ends in
    let s2 = same_on t0 t1 t2 s1 h1.1 in
    let t3 = g.W.TileWriter.tile c.put_square-3.new.writer in
    let p = err_from_is_err_and c.from_residual-in_err-put_square-3.result c.from_residual-in_err-put_square-3.ensures.1 in
    rw (p.1, p.2) (split_ends t0 t3 c.args.at (4 ^ c.args.at.level) (Err _)
    (stops_any (from_first t0 c.args.at) (4 ^ (c.args.at.level - 1) + (4 ^ (c.args.at.level - 1) + 0)) (4 ^ c.args.at.level) t0 t3 _ (then_ends (one_quarter t0 c.args.at c.args.at.row c.args.at.col) (from_second t0 c.args.at) (4 ^ (c.args.at.level - 1)) (4 ^ (c.args.at.level - 1) + 0) t0 t1 t3 (Err _) h0
    (then_ends (one_quarter t0 c.args.at c.args.at.row (c.args.at.col + 2 ^ (c.args.at.level - 1))) (from_third t0 c.args.at) (4 ^ (c.args.at.level - 1)) 0 t1 t2 t3 (Err _) h1
    (then_stops (one_quarter t0 c.args.at (c.args.at.row + 2 ^ (c.args.at.level - 1)) c.args.at.col) (from_fourth t0 c.args.at) (4 ^ (c.args.at.level - 1)) 0 t2 t3 _
    (third_quarter t0 t2 t3 c.args.at c.quarter_of-3.result (Err _) s2 c.quarter_of-3.ensures c.in_err-put_square-3.ensures.ends))))))

pub put_quarters-returns-clause-ends : goal.put_quarters-returns-clause-ends
put_quarters-returns-clause-ends g t c =
    let t0 = g.W.TileWriter.tile c.args.writer.now in
    let t1 = g.W.TileWriter.tile c.put_square.new.writer in
    let h0 = first_quarter t0 t1 c.args.at c.quarter_of.result (Ok tt) c.quarter_of.ensures c.in_ok-put_square.ensures.ends in
    let s1 = h0.1 in
    let t2 = g.W.TileWriter.tile c.put_square-2.new.writer in
    let h1 = second_quarter t0 t1 t2 c.args.at c.quarter_of-2.result (Ok tt) s1 c.quarter_of-2.ensures c.in_ok-put_square-2.ensures.ends in
    let s2 = same_on t0 t1 t2 s1 h1.1 in
    let t3 = g.W.TileWriter.tile c.put_square-3.new.writer in
    let h2 = third_quarter t0 t2 t3 c.args.at c.quarter_of-3.result (Ok tt) s2 c.quarter_of-3.ensures c.in_ok-put_square-3.ensures.ends in
    let s3 = same_on t0 t2 t3 s2 h2.1 in
    let t4 = g.W.TileWriter.tile c.put_square-4.new.writer in
    let k = c.args.at.level - 1 in
    split_ends t0 t4 c.args.at (4 ^ c.args.at.level) c.put_square-4.result
    (ends_more (from_first t0 c.args.at) (4 ^ k + (4 ^ k + (4 ^ k + 4 ^ k))) (4 ^ c.args.at.level) t0 t4 c.put_square-4.result (all_quarters c.args.at.level c.requires.least)
    (then_ends (one_quarter t0 c.args.at c.args.at.row c.args.at.col) (from_second t0 c.args.at) (4 ^ k) (4 ^ k + (4 ^ k + 4 ^ k)) t0 t1 t4 c.put_square-4.result h0
    (then_ends (one_quarter t0 c.args.at c.args.at.row (c.args.at.col + 2 ^ k)) (from_third t0 c.args.at) (4 ^ k) (4 ^ k + 4 ^ k) t1 t2 t4 c.put_square-4.result h1
    (then_ends (one_quarter t0 c.args.at (c.args.at.row + 2 ^ k) c.args.at.col) (from_fourth t0 c.args.at) (4 ^ k) (4 ^ k) t2 t3 t4 c.put_square-4.result h2
    (fourth_quarter t0 t3 t4 c.args.at c.quarter_of-4.result c.put_square-4.result s3 c.quarter_of-4.ensures c.put_square-4.ensures.ends)))))

pub put_square-returns-then-at-frame-clause-ends : goal.put_square-returns-then-at-frame-clause-ends
put_square-returns-then-at-frame-clause-ends g t c =
    let now = g.W.TileWriter.tile c.args.writer.now in
    let rows = ap (λ (f : FramePlaces). f.rows) c.frame-frame.ensures.is in
    let cols = ap (λ (f : FramePlaces). f.cols) c.frame-frame.ensures.is in
    elim c.then-at-frame.branch [
      | put_square-then-at-frame-via-then-at-frame w ↦ square_none now c.args.at.level c.args.at.row c.args.at.col (4 ^ c.args.at.level) (below now.walk c.args.at.row c.args.at.col (omega (arith, rows, w.if-at-frame.true)))
      | put_square-then-at-frame-via-else-at-frame+then-at-frame-2 w ↦ square_none now c.args.at.level c.args.at.row c.args.at.col (4 ^ c.args.at.level) (beside now.walk c.args.at.row c.args.at.col (omega (arith, cols, w.if-at-frame-2.true)))
    ]

pub put_square-returns-in_err-partition-clause-ends : goal.put_square-returns-in_err-partition-clause-ends
put_square-returns-in_err-partition-clause-ends g t c =
    let now = g.W.TileWriter.tile c.args.writer.now in
    let rows = ap (λ (f : FramePlaces). f.rows) c.frame-frame.ensures.is in
    let cols = ap (λ (f : FramePlaces). f.cols) c.frame-frame.ensures.is in
    let row : c.args.at.row < now.walk.frame.rows = omega (arith, rows, c.if-at-frame.false) in
    let col : c.args.at.col < now.walk.frame.cols = omega (arith, cols, c.if-at-frame-2.false) in
    let p = err_from_is_err_and c.from_residual.result c.from_residual.ensures.1 in
    rw (p.1, p.2) (square_stopped now (g.W.TileWriter.tile c.put_partition.new.writer) c.args.at (4 ^ c.args.at.level) _ row col c.in_err-partition.ensures.gives)

pub put_square-returns-then-at-eq0-clause-ends : goal.put_square-returns-then-at-eq0-clause-ends
put_square-returns-then-at-eq0-clause-ends g t c =
    let now = g.W.TileWriter.tile c.args.writer.now in
    let rows = ap (λ (f : FramePlaces). f.rows) c.frame-frame.ensures.is in
    let cols = ap (λ (f : FramePlaces). f.cols) c.frame-frame.ensures.is in
    let row : c.args.at.row < now.walk.frame.rows = omega (arith, rows, c.if-at-frame.false) in
    let col : c.args.at.col < now.walk.frame.cols = omega (arith, cols, c.if-at-frame-2.false) in
    smallest_ends now (g.W.TileWriter.tile c.put_partition.new.writer) (g.W.TileWriter.tile c.put_block.new.self) c.args.at c.in_ok-partition.partition c.block_of.result c.part_size.result c.put_block.result
    c.if-at-eq0.true row col (record { from = c.requires.within.from; to = c.requires.within.to }) c.in_ok-partition.ensures.gives c.part_size.ensures.is c.block_of.ensures c.put_block.ensures.ends

pub put_square-returns-clause-ends : goal.put_square-returns-clause-ends
put_square-returns-clause-ends g t c =
    let now = g.W.TileWriter.tile c.args.writer.now in
    let rows = ap (λ (f : FramePlaces). f.rows) c.frame-frame.ensures.is in
    let cols = ap (λ (f : FramePlaces). f.cols) c.frame-frame.ensures.is in
    let row : c.args.at.row < now.walk.frame.rows = omega (arith, rows, c.if-at-frame.false) in
    let col : c.args.at.col < now.walk.frame.cols = omega (arith, cols, c.if-at-frame-2.false) in
    larger_ends now (g.W.TileWriter.tile c.put_partition.new.writer) (g.W.TileWriter.tile c.put_parts.new.writer) c.args.at c.in_ok-partition.partition (4 ^ c.args.at.level) c.put_parts.result
    (omega (arith, c.if-at-eq0.false)) row col (record { from = c.requires.within.from; to = c.requires.within.to }) c.in_ok-partition.ensures.gives c.put_parts.ensures.ends
