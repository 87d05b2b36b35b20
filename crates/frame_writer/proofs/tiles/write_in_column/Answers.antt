use Rattle.frame_writer.proofs.ColumnEnds.{gives_tile, same_columns, same_sources, still_ready, still_same}
use Rattle.frame_writer.proofs.tiles.write_in_column.Goals as goal

pub returns-clause-gives : goal.returns-clause-gives
returns-clause-gives g c =
    let f = c.args.frame.now in
    let w = c.put_rows-ended.new.writer in
    gives_tile g.S.FrameSymbols.speaker f.by.now f.places f.columns.items c.superblocks-across.result c.superblocks-down.result f.column f.symbols f.encoder c.put_rows-ended.result
    w.by.now w.places w.columns.items w.column w.symbols w.encoder c.tile_bytes.result c.requires.begun
    (record { wide = c.superblocks-across.ensures.is; high = c.superblocks-down.ensures.is }) c.put_rows-ended.ensures.ends c.tile_bytes.ensures

pub returns-clause-by : goal.returns-clause-by
returns-clause-by g c =
    let f = c.args.frame.now in
    let w = c.put_rows-ended.new.writer in
    same_sources c.tile_bytes.result f.by.now w.by.now f.places w.places f.columns.items w.columns.items f.column
    (still_same g.S.FrameSymbols.speaker f.by.now f.places f.columns.items c.superblocks-across.result c.superblocks-down.result f.column f.symbols f.encoder c.put_rows-ended.result
    w.by.now w.places w.columns.items w.column w.symbols w.encoder c.tile_bytes.result c.put_rows-ended.ensures.ends c.tile_bytes.ensures)

pub returns-clause-columns : goal.returns-clause-columns
returns-clause-columns g c =
    let f = c.args.frame.now in
    let w = c.put_rows-ended.new.writer in
    same_columns c.tile_bytes.result f.by.now w.by.now f.places w.places f.columns.items w.columns.items f.column
    (still_same g.S.FrameSymbols.speaker f.by.now f.places f.columns.items c.superblocks-across.result c.superblocks-down.result f.column f.symbols f.encoder c.put_rows-ended.result
    w.by.now w.places w.columns.items w.column w.symbols w.encoder c.tile_bytes.result c.put_rows-ended.ensures.ends c.tile_bytes.ensures)

pub returns-clause-ready : goal.returns-clause-ready
returns-clause-ready g c =
    let f = c.args.frame.now in
    let w = c.put_rows-ended.new.writer in
    still_ready _ g.S.FrameSymbols.speaker f.by.now f.places f.columns.items c.superblocks-across.result c.superblocks-down.result f.column f.symbols f.encoder c.put_rows-ended.result
    w.by.now w.places w.columns.items w.column w.symbols w.encoder c.tile_bytes.result c.put_rows-ended.ensures.ends c.tile_bytes.ensures c.put_rows-ended.ensures.ready
