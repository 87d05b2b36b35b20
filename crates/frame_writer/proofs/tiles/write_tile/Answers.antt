use Rattle.std.proofs.Common.{◌≡◌, ◌∙◌, ◌%◌, ◌<◌, ap, length, arith}
use Rattle.std.specs.Prelude.{Ok, Err}
use Rattle.std.proofs.lemmas.Result.{err_from_is_err_and}
use Rattle.vp9_types.specs.Shapes.{mi_rows}
use Rattle.frame_headers.specs.HeaderState.{shape_of}
use Rattle.block_geometry.specs.declared.transform_blocks.FramePlaces.{FramePlaces}
use Rattle.frame_state.specs.Code.{sources_of}
use Rattle.frame_state.specs.TilePlaces.{column_of}
use Rattle.frame_state.proofs.ColumnSteps.{rows_in_order, rows_within}
use Rattle.frame_state.proofs.TileOffsets.{column_below}
use Rattle.frame_writer.proofs.TileWrites.{columns_lost, columns_put_back, nth_put_back, nth_taken, ready_taken, room_taken}
use Rattle.frame_writer.proofs.tiles.write_tile.Goals as goal

pub write_in_column-requires-clause-ready : goal.write_in_column-requires-clause-ready
write_in_column-requires-clause-ready g c =
    let f = c.args.frame.now in
    let setting = f.by.now.setting in
    let tiles = setting.header.params.tiles in
    let low : c.args.n % c.columns.result < length f.columns.items = rw (c.columns.ensures, c.requires.columns.many) (column_below tiles c.args.n) in
    let at : c.args.n % c.columns.result ≡ column_of tiles c.args.n = ap (λ k. c.args.n % k) c.columns.ensures in
    ready_taken setting c.args.n (c.args.n % c.columns.result) f.columns.items c.index_mut.result.now c.swap.new.x c.clear_left.new.self c.new-frame.result at low c.new-frame.ensures c.requires.columns
    (record { there = c.swap.ensures.x_after ∙ c.index_mut.ensures.value; left = c.clear_left.ensures })

pub write_in_column-requires-clause-order : goal.write_in_column-requires-clause-order
write_in_column-requires-clause-order g c =
    let setting = c.args.frame.now.by.now.setting in
    rows_in_order setting.places setting.header.params.tiles c.args.n c.new-frame.result c.new-frame.ensures

pub write_in_column-requires-clause-low : goal.write_in_column-requires-clause-low
write_in_column-requires-clause-low g c =
    let setting = c.args.frame.now.by.now.setting in
    let within = rows_within setting.places setting.header.params.tiles c.args.n c.new-frame.result c.new-frame.ensures in
    let rows : setting.places.rows ≡ mi_rows (shape_of setting.header) = ap (λ (p : FramePlaces). p.rows) setting.whole in
    omega (arith, within, rows, setting.size.3)

pub write_in_column-requires-clause-room : goal.write_in_column-requires-clause-room
write_in_column-requires-clause-room g c =
    let f = c.args.frame.now in
    let setting = f.by.now.setting in
    let tiles = setting.header.params.tiles in
    let low : c.args.n % c.columns.result < length f.columns.items = rw (c.columns.ensures, c.requires.columns.many) (column_below tiles c.args.n) in
    let at : c.args.n % c.columns.result ≡ column_of tiles c.args.n = ap (λ k. c.args.n % k) c.columns.ensures in
    room_taken setting c.args.n (c.args.n % c.columns.result) f.columns.items c.index_mut.result.now c.swap.new.x c.new-frame.result c.requires.below at low c.new-frame.ensures c.requires.columns
    (c.swap.ensures.x_after ∙ c.index_mut.ensures.value)

pub returns-in_err-written-clause-gives : goal.returns-in_err-written-clause-gives
returns-in_err-written-clause-gives g c = λ read holds.
    let f = c.args.frame.now in
    let setting = f.by.now.setting in
    let tiles = setting.header.params.tiles in
    let low : c.args.n % c.columns.result < length f.columns.items = rw (c.columns.ensures, c.requires.columns.many) (column_below tiles c.args.n) in
    let at : c.args.n % c.columns.result ≡ column_of tiles c.args.n = ap (λ k. c.args.n % k) c.columns.ensures in
    let p = err_from_is_err_and c.from_residual.result c.from_residual.ensures.1 in
    rw (p.1, p.2) (columns_lost g.S.FrameSymbols.speaker (sources_of f.by.now) c.args.n _ _ _ read f.symbols c.write_in_column.new.frame.symbols
    (nth_taken g.S.FrameSymbols.speaker f.by.now c.args.n (c.args.n % c.columns.result) f.columns.items c.index_mut.result.now c.swap.new.x c.write_in_column.new.frame.column c.clear_left.new.self c.new-frame.result
    (Err c.in_err-written.field-0.0) f.symbols c.write_in_column.new.frame.symbols at low c.new-frame.ensures c.requires.columns
    (record { there = c.swap.ensures.x_after ∙ c.index_mut.ensures.value; left = c.clear_left.ensures }) c.in_err-written.ensures.gives read holds))

pub returns-clause-gives : goal.returns-clause-gives
returns-clause-gives g c = λ read holds.
    let f = c.args.frame.now in
    let setting = f.by.now.setting in
    let tiles = setting.header.params.tiles in
    let low : c.args.n % c.columns.result < length f.columns.items = rw (c.columns.ensures, c.requires.columns.many) (column_below tiles c.args.n) in
    let at : c.args.n % c.columns.result ≡ column_of tiles c.args.n = ap (λ k. c.args.n % k) c.columns.ensures in
    nth_put_back g.S.FrameSymbols.speaker (sources_of f.by.now) c.args.n (c.args.n % c.columns.result) f.columns.items c.write_in_column.new.frame.columns.items c.write_in_column.new.frame.column c.end_column.new.column
    c.swap.new.y c.swap-2.new.y c.in_ok-written.written read f.symbols c.write_in_column.new.frame.symbols c.in_ok-written.ensures.columns c.swap-2.ensures.y_after c.in_ok-end_column.ensures
    (nth_taken g.S.FrameSymbols.speaker f.by.now c.args.n (c.args.n % c.columns.result) f.columns.items c.index_mut.result.now c.swap.new.x c.write_in_column.new.frame.column c.clear_left.new.self c.new-frame.result
    (Ok c.in_ok-written.written) f.symbols c.write_in_column.new.frame.symbols at low c.new-frame.ensures c.requires.columns
    (record { there = c.swap.ensures.x_after ∙ c.index_mut.ensures.value; left = c.clear_left.ensures }) c.in_ok-written.ensures.gives read holds)

pub returns-clause-columns : goal.returns-clause-columns
returns-clause-columns g c =
    let f = c.args.frame.now in
    let setting = f.by.now.setting in
    let tiles = setting.header.params.tiles in
    let low : c.args.n % c.columns.result < length f.columns.items = rw (c.columns.ensures, c.requires.columns.many) (column_below tiles c.args.n) in
    let at : c.args.n % c.columns.result ≡ column_of tiles c.args.n = ap (λ k. c.args.n % k) c.columns.ensures in
    columns_put_back setting c.args.n (c.args.n % c.columns.result) f.columns.items c.write_in_column.new.frame.columns.items c.index_mut.result.now c.swap.new.x c.write_in_column.new.frame.column c.end_column.new.column
    c.swap.new.y c.swap-2.new.y c.clear_left.new.self c.new-frame.result c.in_ok-written.written.broken c.requires.below low at c.new-frame.ensures c.requires.columns
    (record { there = c.swap.ensures.x_after ∙ c.index_mut.ensures.value; left = c.clear_left.ensures }) c.in_ok-written.ensures.columns c.swap-2.ensures.y_after c.in_ok-end_column.ensures
    c.in_ok-written.ensures.ready c.in_ok-written.ensures.room
