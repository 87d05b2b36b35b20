use Rattle.std.proofs.Common.{◌≡◌, ◌<◌, ◌+◌, ◌-◌, ◌^◌, ap, arith}
use Rattle.std.specs.Prelude.{Ok, Err}
use Rattle.std.proofs.lemmas.Result.{err_from_is_err_and}
use Rattle.block_geometry.specs.declared.transform_blocks.FramePlaces.{FramePlaces}
use Rattle.vp9_types.specs.declared.block.Partition.TheVariants.{Whole, Horizontal, Vertical}
use Rattle.tile_reader.proofs.Endings.{ends_more, same_on, then_ends, then_breaks}
use Rattle.tile_reader.proofs.SquareEnds.{below, beside, square_none, whole_ends, rows_end, columns_end, first_quarter, second_quarter, third_quarter, fourth_quarter, from_first, from_second, from_third, from_fourth, one_quarter, split_ends, smallest_ends, larger_ends, parts_rest, enough, four_quarters, all_quarters}
use Rattle.tile_reader.proofs.squares.+squares.Goals as goal
use Rattle.tile_reader.proofs.squares.+squares.Goals.{read_square-then-at-frame-via-then-at-frame, read_square-then-at-frame-via-else-at-frame+then-at-frame-2}

pub read_parts-returns-in-Whole-clause-ends : goal.read_parts-returns-in-Whole-clause-ends
read_parts-returns-in-Whole-clause-ends g t c =
    let now = g.R.TileReader.tile c.args.reader.now in
    let level : c.args.at.level ≡ c.args.at.level - 1 + 1 = omega (arith, c.requires.least) in
    rw c.in-Whole.is (ends_more (parts_rest now.walk (c.args.at.level - 1) c.args.at.row c.args.at.col Whole) 1 (4 ^ c.args.at.level) now (g.R.TileReader.tile c.read_block.new.self) c.read_block.result (enough c.args.at.level)
    (whole_ends now (g.R.TileReader.tile c.read_block.new.self) c.args.at (c.args.at.level - 1) c.block_of-first.result c.part_size-size.result c.read_block.result
    (record { from = c.requires.within.from; to = c.requires.within.to }) (omega (arith, level)) (rw c.in-Whole.is at c.part_size-size.ensures.is) c.block_of-first.ensures c.read_block.ensures.ends))

pub read_parts-returns-in-Horizontal-clause-ends : goal.read_parts-returns-in-Horizontal-clause-ends
read_parts-returns-in-Horizontal-clause-ends g t c =
    let now = g.R.TileReader.tile c.args.reader.now in
    rw c.in-Horizontal.is (ends_more (parts_rest now.walk (c.args.at.level - 1) c.args.at.row c.args.at.col Horizontal) 2 (4 ^ c.args.at.level) now (g.R.TileReader.tile c.read_halves.new.reader) c.read_halves.result (four_quarters c.args.at.level c.requires.least)
    (rows_end now (g.R.TileReader.tile c.read_halves.new.reader) c.args.at (c.args.at.level - 1) c.side_of-half.result c.block_of-first.result c.part_size-size.result c.read_halves.result
    (record { from = c.requires.within.from; to = c.requires.within.to }) (omega (arith, c.requires.least)) c.side_of-half.ensures.is (rw c.in-Horizontal.is at c.part_size-size.ensures.is) c.block_of-first.ensures (rw c.block_of.ensures at c.read_halves.ensures.ends)))

pub read_parts-returns-in-Vertical-clause-ends : goal.read_parts-returns-in-Vertical-clause-ends
read_parts-returns-in-Vertical-clause-ends g t c =
    let now = g.R.TileReader.tile c.args.reader.now in
    rw c.in-Vertical.is (ends_more (parts_rest now.walk (c.args.at.level - 1) c.args.at.row c.args.at.col Vertical) 2 (4 ^ c.args.at.level) now (g.R.TileReader.tile c.read_halves-in-Vertical.new.reader) c.read_halves-in-Vertical.result (four_quarters c.args.at.level c.requires.least)
    (columns_end now (g.R.TileReader.tile c.read_halves-in-Vertical.new.reader) c.args.at (c.args.at.level - 1) c.side_of-half.result c.block_of-first.result c.part_size-size.result c.read_halves-in-Vertical.result
    (record { from = c.requires.within.from; to = c.requires.within.to }) (omega (arith, c.requires.least)) c.side_of-half.ensures.is (rw c.in-Vertical.is at c.part_size-size.ensures.is) c.block_of-first.ensures (rw c.block_of-in-Vertical.ensures at c.read_halves-in-Vertical.ensures.ends)))

pub read_quarters-returns-in_err-read_square-clause-ends : goal.read_quarters-returns-in_err-read_square-clause-ends
read_quarters-returns-in_err-read_square-clause-ends g t c =
    let t0 = g.R.TileReader.tile c.args.reader.now in
    let t1 = g.R.TileReader.tile c.read_square.new.reader in
    let p = err_from_is_err_and c.from_residual.result c.from_residual.ensures.1 in
    rw (p.1, p.2) (split_ends t0 t1 c.args.at (4 ^ c.args.at.level) (Err _)
    (then_breaks (one_quarter t0 c.args.at c.args.at.row c.args.at.col) (from_second t0 c.args.at) (4 ^ (c.args.at.level - 1)) (4 ^ c.args.at.level) t0 t1 _
    (first_quarter t0 t1 c.args.at c.quarter_of.result (Err _) c.quarter_of.ensures c.in_err-read_square.ensures.ends)))

pub read_quarters-returns-in_err-read_square-2-clause-ends : goal.read_quarters-returns-in_err-read_square-2-clause-ends
read_quarters-returns-in_err-read_square-2-clause-ends g t c =
    let t0 = g.R.TileReader.tile c.args.reader.now in
    let t1 = g.R.TileReader.tile c.read_square.new.reader in
    let h0 = first_quarter t0 t1 c.args.at c.quarter_of.result (Ok tt) c.quarter_of.ensures c.in_ok-read_square.ensures.ends in
    let s1 = h0.1 in
    let t2 = g.R.TileReader.tile c.read_square-2.new.reader in
    let p = err_from_is_err_and c.from_residual-in_err-read_square-2.result c.from_residual-in_err-read_square-2.ensures.1 in
    rw (p.1, p.2) (split_ends t0 t2 c.args.at (4 ^ c.args.at.level) (Err _)
    ((then_ends (one_quarter t0 c.args.at c.args.at.row c.args.at.col) (from_second t0 c.args.at) (4 ^ (c.args.at.level - 1)) 0 t0 t1 t2 (Err _) h0
    (then_breaks (one_quarter t0 c.args.at c.args.at.row (c.args.at.col + 2 ^ (c.args.at.level - 1))) (from_third t0 c.args.at) (4 ^ (c.args.at.level - 1)) 0 t1 t2 _
    (second_quarter t0 t1 t2 c.args.at c.quarter_of-2.result (Err _) s1 c.quarter_of-2.ensures c.in_err-read_square-2.ensures.ends)))))

pub read_quarters-returns-in_err-read_square-3-clause-ends : goal.read_quarters-returns-in_err-read_square-3-clause-ends
read_quarters-returns-in_err-read_square-3-clause-ends g t c =
    let t0 = g.R.TileReader.tile c.args.reader.now in
    let t1 = g.R.TileReader.tile c.read_square.new.reader in
    let h0 = first_quarter t0 t1 c.args.at c.quarter_of.result (Ok tt) c.quarter_of.ensures c.in_ok-read_square.ensures.ends in
    let s1 = h0.1 in
    let t2 = g.R.TileReader.tile c.read_square-2.new.reader in
    let h1 = second_quarter t0 t1 t2 c.args.at c.quarter_of-2.result (Ok tt) s1 c.quarter_of-2.ensures c.in_ok-read_square-2.ensures.ends in
    let s2 = same_on t0 t1 t2 s1 h1.1 in
    let t3 = g.R.TileReader.tile c.read_square-3.new.reader in
    let p = err_from_is_err_and c.from_residual-in_err-read_square-3.result c.from_residual-in_err-read_square-3.ensures.1 in
    rw (p.1, p.2) (split_ends t0 t3 c.args.at (4 ^ c.args.at.level) (Err _)
    ((then_ends (one_quarter t0 c.args.at c.args.at.row c.args.at.col) (from_second t0 c.args.at) (4 ^ (c.args.at.level - 1)) (4 ^ (c.args.at.level - 1) + 0) t0 t1 t3 (Err _) h0
    (then_ends (one_quarter t0 c.args.at c.args.at.row (c.args.at.col + 2 ^ (c.args.at.level - 1))) (from_third t0 c.args.at) (4 ^ (c.args.at.level - 1)) 0 t1 t2 t3 (Err _) h1
    (then_breaks (one_quarter t0 c.args.at (c.args.at.row + 2 ^ (c.args.at.level - 1)) c.args.at.col) (from_fourth t0 c.args.at) (4 ^ (c.args.at.level - 1)) 0 t2 t3 _
    (third_quarter t0 t2 t3 c.args.at c.quarter_of-3.result (Err _) s2 c.quarter_of-3.ensures c.in_err-read_square-3.ensures.ends))))))

pub read_quarters-returns-clause-ends : goal.read_quarters-returns-clause-ends
read_quarters-returns-clause-ends g t c =
    let t0 = g.R.TileReader.tile c.args.reader.now in
    let t1 = g.R.TileReader.tile c.read_square.new.reader in
    let h0 = first_quarter t0 t1 c.args.at c.quarter_of.result (Ok tt) c.quarter_of.ensures c.in_ok-read_square.ensures.ends in
    let s1 = h0.1 in
    let t2 = g.R.TileReader.tile c.read_square-2.new.reader in
    let h1 = second_quarter t0 t1 t2 c.args.at c.quarter_of-2.result (Ok tt) s1 c.quarter_of-2.ensures c.in_ok-read_square-2.ensures.ends in
    let s2 = same_on t0 t1 t2 s1 h1.1 in
    let t3 = g.R.TileReader.tile c.read_square-3.new.reader in
    let h2 = third_quarter t0 t2 t3 c.args.at c.quarter_of-3.result (Ok tt) s2 c.quarter_of-3.ensures c.in_ok-read_square-3.ensures.ends in
    let s3 = same_on t0 t2 t3 s2 h2.1 in
    let t4 = g.R.TileReader.tile c.read_square-4.new.reader in
    let k = c.args.at.level - 1 in
    split_ends t0 t4 c.args.at (4 ^ c.args.at.level) c.read_square-4.result
    (ends_more (from_first t0 c.args.at) (4 ^ k + (4 ^ k + (4 ^ k + 4 ^ k))) (4 ^ c.args.at.level) t0 t4 c.read_square-4.result (all_quarters c.args.at.level c.requires.least)
    (then_ends (one_quarter t0 c.args.at c.args.at.row c.args.at.col) (from_second t0 c.args.at) (4 ^ k) (4 ^ k + (4 ^ k + 4 ^ k)) t0 t1 t4 c.read_square-4.result h0
    (then_ends (one_quarter t0 c.args.at c.args.at.row (c.args.at.col + 2 ^ k)) (from_third t0 c.args.at) (4 ^ k) (4 ^ k + 4 ^ k) t1 t2 t4 c.read_square-4.result h1
    (then_ends (one_quarter t0 c.args.at (c.args.at.row + 2 ^ k) c.args.at.col) (from_fourth t0 c.args.at) (4 ^ k) (4 ^ k) t2 t3 t4 c.read_square-4.result h2
    (fourth_quarter t0 t3 t4 c.args.at c.quarter_of-4.result c.read_square-4.result s3 c.quarter_of-4.ensures c.read_square-4.ensures.ends)))))

pub read_square-returns-then-at-frame-clause-ends : goal.read_square-returns-then-at-frame-clause-ends
read_square-returns-then-at-frame-clause-ends g t c =
    let now = g.R.TileReader.tile c.args.reader.now in
    let rows = ap (λ (f : FramePlaces). f.rows) c.frame-frame.ensures.is in
    let cols = ap (λ (f : FramePlaces). f.cols) c.frame-frame.ensures.is in
    elim c.then-at-frame.branch [
      | read_square-then-at-frame-via-then-at-frame w ↦ square_none now c.args.at.level c.args.at.row c.args.at.col (4 ^ c.args.at.level) (below now.walk c.args.at.row c.args.at.col (omega (arith, rows, w.if-at-frame.true)))
      | read_square-then-at-frame-via-else-at-frame+then-at-frame-2 w ↦ square_none now c.args.at.level c.args.at.row c.args.at.col (4 ^ c.args.at.level) (beside now.walk c.args.at.row c.args.at.col (omega (arith, cols, w.if-at-frame-2.true)))
    ]

pub read_square-returns-then-at-eq0-clause-ends : goal.read_square-returns-then-at-eq0-clause-ends
read_square-returns-then-at-eq0-clause-ends g t c =
    let now = g.R.TileReader.tile c.args.reader.now in
    let rows = ap (λ (f : FramePlaces). f.rows) c.frame-frame.ensures.is in
    let cols = ap (λ (f : FramePlaces). f.cols) c.frame-frame.ensures.is in
    let row : c.args.at.row < now.walk.frame.rows = omega (arith, rows, c.if-at-frame.false) in
    let col : c.args.at.col < now.walk.frame.cols = omega (arith, cols, c.if-at-frame-2.false) in
    smallest_ends now (g.R.TileReader.tile c.read_partition-partition.new.self) (g.R.TileReader.tile c.read_block.new.self) c.args.at c.read_partition-partition.result c.block_of.result c.part_size.result c.read_block.result
    c.if-at-eq0.true row col (record { from = c.requires.within.from; to = c.requires.within.to }) c.read_partition-partition.ensures.reads c.part_size.ensures.is c.block_of.ensures c.read_block.ensures.ends

pub read_square-returns-clause-ends : goal.read_square-returns-clause-ends
read_square-returns-clause-ends g t c =
    let now = g.R.TileReader.tile c.args.reader.now in
    let rows = ap (λ (f : FramePlaces). f.rows) c.frame-frame.ensures.is in
    let cols = ap (λ (f : FramePlaces). f.cols) c.frame-frame.ensures.is in
    let row : c.args.at.row < now.walk.frame.rows = omega (arith, rows, c.if-at-frame.false) in
    let col : c.args.at.col < now.walk.frame.cols = omega (arith, cols, c.if-at-frame-2.false) in
    larger_ends now (g.R.TileReader.tile c.read_partition-partition.new.self) (g.R.TileReader.tile c.read_parts.new.reader) c.args.at c.read_partition-partition.result (4 ^ c.args.at.level) c.read_parts.result
    (omega (arith, c.if-at-eq0.false)) row col (record { from = c.requires.within.from; to = c.requires.within.to }) c.read_partition-partition.ensures.reads c.read_parts.ensures.ends
