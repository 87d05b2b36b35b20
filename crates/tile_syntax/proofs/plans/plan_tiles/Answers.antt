use Rattle.std.proofs.Common.{◌≡◌, ◌*◌, ◌+◌, ◌++◌, ◌^◌, [], subst, sym, ap, arith}
use Rattle.std.specs.Prelude.{nat_eq, not}
use Rattle.frame_headers.specs.Spans.{tile_count}
use Rattle.frame_headers.specs.HeaderState.{shape_of}
use Rattle.frame_state.specs.Code.{sources_of}
use Rattle.frame_state.specs.KeptColumns.{IsTileColumn}
use Rattle.frame_state.specs.ColumnPlans.{no_tiles, tile_bytes}
use Rattle.frame_state.proofs.ColumnSteps.{none_counted}
use Rattle.tile_syntax.proofs.ColumnTiles.{all_below, begins, breaks_off, bytes_there, counts_on, ends, goes_on, later_by, own_tile, row_below}
use Rattle.tile_syntax.proofs.plans.plan_tiles.Goals as goal

pub loop-i-init : goal.loop-i-init
loop-i-init g c =
    let header = c.args.by.now.setting.header in
    let first : 0 ≡ 0 * 2 ^ header.params.tiles.columns_log2 = omega arith in record {
      column = subst (λ n. IsTileColumn header n c.args.k c.args.plan.now.column) first c.requires.column;
      kept = c.requires.kept;
      read = λ spans is. (no_tiles header, [], begins (sources_of c.args.by.now) (tile_bytes c.args.bytes.now spans) c.args.k c.requires.below, c.requires.start, none_counted _ _ c.requires.none);
    }

pub plan_nth-requires-clause-column : goal.plan_nth-requires-clause-column
plan_nth-requires-clause-column g c =
    let header = c.args.by.now.setting.header in
    let columns = 2 ^ header.params.tiles.columns_log2 in
    let n = c.loop-i.i * c.columns.result + c.args.k in
    let at : n ≡ c.loop-i.i * columns + c.args.k = ap (λ x. c.loop-i.i * x + c.args.k) c.columns.ensures in
    let before = row_below columns c.loop-i.i c.args.k n c.requires.below at in
    subst (λ k. IsTileColumn header n k c.loop-i.plan.column) (sym (own_tile header.params.tiles c.loop-i.i c.args.k n c.requires.below at))
    (later_by header (c.loop-i.i * columns) n c.args.k c.loop-i.plan.column before.0 c.loop-i.invariant.column)

pub returns-in-Err-clause-gives : goal.returns-in-Err-clause-gives
returns-in-Err-clause-gives g c = λ spans is.
    let by = c.args.by.now in
    let bytes = tile_bytes c.args.bytes.now spans in
    let n = c.loop-i.i * c.columns.result + c.args.k in
    let at : n ≡ c.loop-i.i * 2 ^ by.setting.header.params.tiles.columns_log2 + c.args.k = ap (λ x. c.loop-i.i * x + c.args.k) c.columns.ensures in
    let read = c.loop-i.invariant.read spans is in
    let there = bytes_there c.args.bytes.now by.setting.header c.args.compressed c.tile_span-span.result spans n is c.tile_span-span.ensures.is in
    rw c.at.ensures (breaks_off (sources_of by) bytes c.args.k c.loop-i.i n read.0 read.1 (not (nat_eq g.row.COUNTS 0)) c.in-Err.halt (shape_of by.setting.header) c.plan_nth.new.plan at
    (rw c.rows-i-end.ensures at c.loop-i-test.true) read.2 (c.in-Err.ensures.gives bytes read.0 there read.3))

pub loop-i-preserved : goal.loop-i-preserved
loop-i-preserved g c =
    let by = c.args.by.now in
    let header = by.setting.header in
    let columns = 2 ^ header.params.tiles.columns_log2 in
    let n = c.loop-i.i * c.columns.result + c.args.k in
    let at : n ≡ c.loop-i.i * columns + c.args.k = ap (λ x. c.loop-i.i * x + c.args.k) c.columns.ensures in
    let behind = row_below columns c.loop-i.i c.args.k n c.requires.below at in record {
      column = later_by header (n + 1) ((c.loop-i.i + 1) * columns) c.args.k c.plan_nth.new.plan.column behind.1
          (subst (λ k. IsTileColumn header (n + 1) k c.plan_nth.new.plan.column) (own_tile header.params.tiles c.loop-i.i c.args.k n c.requires.below at) c.in-Ok.ensures.column);
      kept = c.in-Ok.ensures.kept;
      read = λ spans is.
          let bytes = tile_bytes c.args.bytes.now spans in
          let read = c.loop-i.invariant.read spans is in
          let there = bytes_there c.args.bytes.now header c.args.compressed c.tile_span-span.result spans n is c.tile_span-span.ensures.is in
          let next = c.in-Ok.ensures.gives bytes read.0 there read.3 in (
            next.0.value,
            read.1 ++ next.0.counted,
            goes_on (sources_of by) bytes c.args.k c.loop-i.i n read.0 read.1 next.0 at (rw c.rows-i-end.ensures at c.loop-i-test.true) read.2 next.1,
            next.2,
            counts_on (not (nat_eq g.row.COUNTS 0)) c.loop-i.counts c.in-Ok.more read.1 next.0.counted read.4 next.3,
          );
    }

pub returns-clause-gives : goal.returns-clause-gives
returns-clause-gives g c = λ spans is.
    let read = c.loop-i.invariant.read spans is in (
      record { value = read.0; counted = read.1 },
      ends (sources_of c.args.by.now) (tile_bytes c.args.bytes.now spans) c.args.k c.loop-i.i read.0 read.1 (rw c.rows-i-end.ensures at c.loop-i-test.false) read.2,
      read.3,
      read.4,
    )

pub returns-clause-column : goal.returns-clause-column
returns-clause-column g c =
    let header = c.args.by.now.setting.header in
    later_by header (c.loop-i.i * 2 ^ header.params.tiles.columns_log2) (tile_count header) c.args.k c.loop-i.plan.column
    (all_below (2 ^ header.params.tiles.columns_log2) (2 ^ header.params.tiles.rows_log2) c.loop-i.i c.rows-i-end.result c.loop-i.auto.i-end c.rows-i-end.ensures) c.loop-i.invariant.column
