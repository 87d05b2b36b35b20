use Rattle.std.proofs.Common.{◌≡◌, ◌%◌, ◌<◌, ap, length, arith}
use Rattle.vp9_types.specs.Shapes.{mi_rows}
use Rattle.frame_headers.specs.HeaderState.{shape_of}
use Rattle.block_geometry.specs.declared.transform_blocks.FramePlaces.{FramePlaces}
use Rattle.frame_state.specs.TilePlaces.{column_of}
use Rattle.frame_state.proofs.ColumnSteps.{begins_there, cleared_fit, columns_after, ends_there, has_room, ready_of, rows_in_order, rows_within}
use Rattle.frame_decoder.proofs.PlainTiles.{gives_nth}
use Rattle.frame_state.proofs.TileOffsets.{column_below}
use Rattle.frame_decoder.proofs.tiles.decode_nth.Goals as goal

pub decode_tile-requires-clause-ready : goal.decode_tile-requires-clause-ready
decode_tile-requires-clause-ready g c =
    let tiles = c.args.by.now.reading.setting.header.params.tiles in
    let low : c.args.n % c.columns.result < length c.args.columns.now = rw (c.columns.ensures, c.requires.columns.many) (column_below tiles c.args.n) in
    let h = c.requires.columns.each (c.args.n % c.columns.result) c.index-columns-n.result low in
    rw c.clear_left.ensures (ready_of c.args.by.now.reading.setting c.args.n (c.args.n % c.columns.result) _ _ h (cleared_fit (shape_of c.args.by.now.reading.setting.header) _ h.fit))

pub decode_tile-requires-clause-from : goal.decode_tile-requires-clause-from
decode_tile-requires-clause-from g c =
    let tiles = c.args.by.now.reading.setting.header.params.tiles in
    let low : c.args.n % c.columns.result < length c.args.columns.now = rw (c.columns.ensures, c.requires.columns.many) (column_below tiles c.args.n) in
    let at : c.args.n % c.columns.result ≡ column_of tiles c.args.n = ap (λ k. c.args.n % k) c.columns.ensures in
    begins_there c.args.by.now.reading.setting c.args.n _ _ c.new-tile.result at c.new-tile.ensures (c.requires.columns.each _ c.index-columns-n.result low)

pub decode_tile-requires-clause-to : goal.decode_tile-requires-clause-to
decode_tile-requires-clause-to g c =
    let tiles = c.args.by.now.reading.setting.header.params.tiles in
    let low : c.args.n % c.columns.result < length c.args.columns.now = rw (c.columns.ensures, c.requires.columns.many) (column_below tiles c.args.n) in
    let at : c.args.n % c.columns.result ≡ column_of tiles c.args.n = ap (λ k. c.args.n % k) c.columns.ensures in
    ends_there c.args.by.now.reading.setting c.args.n _ _ c.new-tile.result at c.new-tile.ensures (c.requires.columns.each _ c.index-columns-n.result low)

pub decode_tile-requires-clause-order : goal.decode_tile-requires-clause-order
decode_tile-requires-clause-order g c = rows_in_order c.args.by.now.reading.setting.places c.args.by.now.reading.setting.header.params.tiles c.args.n c.new-tile.result c.new-tile.ensures

pub decode_tile-requires-clause-low : goal.decode_tile-requires-clause-low
decode_tile-requires-clause-low g c =
    let within = rows_within c.args.by.now.reading.setting.places c.args.by.now.reading.setting.header.params.tiles c.args.n c.new-tile.result c.new-tile.ensures in
    let rows : c.args.by.now.reading.setting.places.rows ≡ mi_rows (shape_of c.args.by.now.reading.setting.header) = ap (λ (p : FramePlaces). p.rows) c.args.by.now.reading.setting.whole in
    omega (arith, within, rows, c.args.by.now.reading.setting.size.3)

pub decode_tile-requires-clause-room : goal.decode_tile-requires-clause-room
decode_tile-requires-clause-room g c =
    let tiles = c.args.by.now.reading.setting.header.params.tiles in
    let low : c.args.n % c.columns.result < length c.args.columns.now = rw (c.columns.ensures, c.requires.columns.many) (column_below tiles c.args.n) in
    let at : c.args.n % c.columns.result ≡ column_of tiles c.args.n = ap (λ k. c.args.n % k) c.columns.ensures in
    has_room c.args.by.now.reading.setting c.args.n _ _ c.new-tile.result c.requires.below at c.new-tile.ensures (c.requires.columns.each _ c.index-columns-n.result low)

pub returns-clause-gives : goal.returns-clause-gives
returns-clause-gives g c =
    let tiles = c.args.by.now.reading.setting.header.params.tiles in
    let low : c.args.n % c.columns.result < length c.args.columns.now = rw (c.columns.ensures, c.requires.columns.many) (column_below tiles c.args.n) in
    let at : c.args.n % c.columns.result ≡ column_of tiles c.args.n = ap (λ k. c.args.n % k) c.columns.ensures in
    gives_nth c.args.by.now c.args.n (c.args.n % c.columns.result) c.args.columns.now c.index-columns-n.result c.decode_tile.new.column c.args.planes.now c.decode_tile.new.planes
    c.new-tile.result c.args.bytes.now _ _ c.decode_tile.result at low c.new-tile.ensures (c.requires.columns.each _ c.index-columns-n.result low)
    (rw c.clear_left.ensures at c.decode_tile.ensures.gives)

pub returns-clause-columns : goal.returns-clause-columns
returns-clause-columns g c =
    let tiles = c.args.by.now.reading.setting.header.params.tiles in
    let low : c.args.n % c.columns.result < length c.args.columns.now = rw (c.columns.ensures, c.requires.columns.many) (column_below tiles c.args.n) in
    let at : c.args.n % c.columns.result ≡ column_of tiles c.args.n = ap (λ k. c.args.n % k) c.columns.ensures in
    columns_after c.args.by.now.reading.setting c.args.n (c.args.n % c.columns.result) c.args.columns.now c.index-columns-n.result c.decode_tile.new.column c.clear_left.new.self
    c.new-tile.result c.decode_tile.result c.requires.below low at c.new-tile.ensures c.requires.columns c.decode_tile.ensures.ready c.decode_tile.ensures.same c.decode_tile.ensures.room
