use Rattle.std.proofs.Common.{◌≡◌, ◌∙◌, subst, arith}
use Rattle.std.proofs.lemmas.Result.{err_from_is_err_and}
use Rattle.frame_state.specs.KeptColumns.{AreTileColumns}
use Rattle.frame_state.specs.Code.{sources_of}
use Rattle.frame_state.specs.FrameReading.{nothing_read}
use Rattle.frame_state.proofs.ColumnSteps.{none_counted}
use Rattle.frame_state.proofs.TileSpans.{all_left, ends, frame_breaks, goes_on}
use Rattle.frame_decoder.proofs.tiles.decode_tiles.Goals as goal

pub loop-n-init : goal.loop-n-init
loop-n-init g c = record {
  columns = c.requires.columns;
  planes = c.requires.planes;
  read = (nothing_read c.args.by.now.reading.setting.header, all_left _ _ _ c.requires.tested, c.requires.start, none_counted _ _ c.requires.none);
}

pub returns-in_err-counts-clause-gives : goal.returns-in_err-counts-clause-gives
returns-in_err-counts-clause-gives g c =
    let p = err_from_is_err_and c.from_residual.result c.from_residual.ensures.1 in
    let read = c.loop-n.invariant.read in
    rw (p.1, p.2) (frame_breaks (sources_of c.args.by.now.reading) c.args.bytes.now c.args.compressed c.tile_span-span.result c.loop-n.n read.0 _
    read.1 c.tile_span-span.ensures.is (c.in_err-counts.ensures.gives read.0 read.2 read.3))

pub loop-n-preserved : goal.loop-n-preserved
loop-n-preserved g c =
    let read = c.loop-n.invariant.read in
    let more = c.in_ok-counts.ensures.gives read.0 read.2 read.3 in record {
      columns = c.in_ok-counts.ensures.columns;
      planes = c.in_ok-counts.ensures.planes;
      read = (
        more.0,
        goes_on (sources_of c.args.by.now.reading) c.args.bytes.now c.args.compressed c.tile_span-span.result c.loop-n.n read.0 more.0
            read.1 c.tile_span-span.ensures.is more.1,
        more.2,
        more.3,
      );
    }

pub returns-clause-gives : goal.returns-clause-gives
returns-clause-gives g c =
    let read = c.loop-n.invariant.read in (
      read.0,
      ends (sources_of c.args.by.now.reading) c.args.bytes.now c.args.compressed c.loop-n.n read.0
          (rw c.count-n-end.ensures.value at c.loop-n-test.false) read.1,
      read.2,
      read.3,
    )

pub returns-clause-columns : goal.returns-clause-columns
returns-clause-columns g c =
    let all : c.loop-n.n ≡ c.count-n-end.result = omega arith in
    subst (λ n. AreTileColumns c.args.by.now.reading.setting.header n c.loop-n.columns) (all ∙ c.count-n-end.ensures.value) c.loop-n.invariant.columns
