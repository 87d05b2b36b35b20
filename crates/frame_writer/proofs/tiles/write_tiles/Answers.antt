use Rattle.std.proofs.Common.{◌≡◌, ◌∙◌, ◌+◌, ◌-◌, ◌<◌, refl, arith}
use Rattle.std.specs.Prelude.{Ok, Err}
use Rattle.std.proofs.lemmas.Result.{err_from_is_err_and}
use Rattle.frame_headers.specs.Spans.{tile_count}
use Rattle.frame_state.specs.Code.{sources_of}
use Rattle.frame_writer.proofs.TilesSoFar.{all_given, by_sources, none_so_far, one_more, refused_at, so_far_at}
use Rattle.frame_writer.proofs.tiles.write_tiles.Goals as goal

pub loop-n-init : goal.loop-n-init
loop-n-init g c = record {
  by = refl;
  columns = c.requires.columns;
  far = none_so_far g.S.FrameSymbols.speaker (sources_of c.args.frame.now.by.now) c.args.frame.now.symbols c.args.out.now.items c.args.frame.now.columns.items c.requires.none;
}

pub returns-in_err-tile : goal.returns-in_err-tile
returns-in_err-tile g c =
    let by = c.args.frame.now.by.now in
    let below : c.loop-n.n < tile_count by.setting.header = omega (arith, c.loop-n-test.true, c.count-last.ensures.value) in
    let p = err_from_is_err_and c.from_residual.result c.from_residual.ensures.1 in
    rw (p.1, p.2) (refused_at g.S.FrameSymbols.speaker (sources_of by) c.args.frame.now.symbols c.args.out.now.items c.loop-n.out.items _ c.loop-n.n c.loop-n.broken c.loop-n.frame.columns.items _ _
    c.loop-n.frame.symbols c.write_tile.new.frame.symbols below c.loop-n.invariant.far
    (by_sources g.S.FrameSymbols.speaker by c.loop-n.frame.by.now c.loop-n.n c.loop-n.frame.columns.items (Err c.in_err-tile.field-0.0) c.loop-n.frame.symbols _ _ c.loop-n.invariant.by c.in_err-tile.ensures.gives))

pub loop-n-preserved : goal.loop-n-preserved
loop-n-preserved g c =
    let by = c.args.frame.now.by.now in
    let below : c.loop-n.n < tile_count by.setting.header = omega (arith, c.loop-n-test.true, c.count-last.ensures.value) in
    record {
      by = c.in_ok-tile.ensures.by ∙ c.loop-n.invariant.by;
      columns = rw c.loop-n.invariant.by at c.in_ok-tile.ensures.columns;
      far = rw c.first_broken-broken.ensures (one_more g.S.FrameSymbols.speaker (sources_of by) c.args.frame.now.symbols c.args.out.now.items c.loop-n.out.items c.put_sized.new.out.items c.loop-n.n c.loop-n.broken
          c.loop-n.frame.columns.items c.write_tile.new.frame.columns.items c.in_ok-tile.tile c.loop-n.frame.symbols c.write_tile.new.frame.symbols below c.in_ok-tile.ensures.some
          (rw c.deref.ensures.value at c.in_ok-put_sized.ensures) c.loop-n.invariant.far
          (by_sources g.S.FrameSymbols.speaker by c.loop-n.frame.by.now c.loop-n.n c.loop-n.frame.columns.items (Ok c.in_ok-tile.tile) c.loop-n.frame.symbols _ _ c.loop-n.invariant.by c.in_ok-tile.ensures.gives));
    }

pub returns-in_err-tile-2 : goal.returns-in_err-tile-2
returns-in_err-tile-2 g c =
    let by = c.args.frame.now.by.now in
    let n = c.count-last.result - 1 in
    let p = err_from_is_err_and c.from_residual-in_err-tile-2.result c.from_residual-in_err-tile-2.ensures.1 in
    let here : c.loop-n.n ≡ n = omega (arith, c.loop-n-test.false, c.loop-n.auto.n-end) in
    let below : n < tile_count by.setting.header = omega (arith, c.count-last.ensures.value, c.count-last.ensures.some) in
    rw (p.1, p.2) (refused_at g.S.FrameSymbols.speaker (sources_of by) c.args.frame.now.symbols c.args.out.now.items c.loop-n.out.items _ n c.loop-n.broken c.loop-n.frame.columns.items _ _
    c.loop-n.frame.symbols c.write_tile-2.new.frame.symbols below
    (so_far_at g.S.FrameSymbols.speaker (sources_of by) c.args.frame.now.symbols c.args.out.now.items c.loop-n.n n c.loop-n.broken c.loop-n.frame.columns.items c.loop-n.out.items c.loop-n.frame.symbols here c.loop-n.invariant.far)
    (by_sources g.S.FrameSymbols.speaker by c.loop-n.frame.by.now n c.loop-n.frame.columns.items (Err c.in_err-tile-2.field-0.0) c.loop-n.frame.symbols _ _ c.loop-n.invariant.by c.in_err-tile-2.ensures.gives))

pub returns : goal.returns
returns g c =
    let by = c.args.frame.now.by.now in
    let n = c.count-last.result - 1 in
    let here : c.loop-n.n ≡ n = omega (arith, c.loop-n-test.false, c.loop-n.auto.n-end) in
    let last : n + 1 ≡ tile_count by.setting.header = omega (arith, c.count-last.ensures.value, c.count-last.ensures.some) in
    rw c.first_broken.ensures (all_given g.S.FrameSymbols.speaker (sources_of by) c.args.frame.now.symbols c.args.out.now.items c.loop-n.out.items _ n c.loop-n.broken c.loop-n.frame.columns.items _
    c.in_ok-tile-2.tile c.loop-n.frame.symbols c.write_tile-2.new.frame.symbols last c.in_ok-tile-2.ensures.some (rw c.deref-2.ensures.value at c.in_ok-extend_from_slice.ensures.items)
    (so_far_at g.S.FrameSymbols.speaker (sources_of by) c.args.frame.now.symbols c.args.out.now.items c.loop-n.n n c.loop-n.broken c.loop-n.frame.columns.items c.loop-n.out.items c.loop-n.frame.symbols here c.loop-n.invariant.far)
    (by_sources g.S.FrameSymbols.speaker by c.loop-n.frame.by.now n c.loop-n.frame.columns.items (Ok c.in_ok-tile-2.tile) c.loop-n.frame.symbols _ _ c.loop-n.invariant.by c.in_ok-tile-2.ensures.gives))
