use Rattle.std.proofs.Common.{◌≡◌, ◌∙◌, ap, sym, subst, refl, arith}
use Rattle.std.proofs.lemmas.Result.{err_from_is_err_and}
use Rattle.frame_headers.specs.Spans.{tile_count}
use Rattle.prob_contexts.specs.ProbLists.{lists_of}
use Rattle.loop_edges.specs.Cells.{setting_of}
use Rattle.loop_edges.specs.FrameEdges.{filtered_frame}
use Rattle.loop_edges.specs.declared.setting.EdgeSetting.{EdgeSetting}
use Rattle.planes.specs.Pictures.{HasSizes, IsInRange, samples_of}
use Rattle.frame_state.specs.KeptColumns.{AreTileColumns, blocks_of}
use Rattle.frame_state.specs.FrameReading.{all_blocks, blocks_read, sources}
use Rattle.block_rebuild.specs.InterBlocks.{Rebuilding}
use Rattle.frame_decoder.specs.Code.{input_of, pictures_of}
use Rattle.frame_decoder.specs.DecodedFrames.{raw, rebuilding}
use Rattle.frame_state.proofs.ColumnBlocks.{all_fit, starts_of}
use Rattle.frame_state.proofs.ColumnSteps.{blocks_told, written_back}
use Rattle.frame_decoder.proofs.PlainFrames.{frame_breaks, frame_done, nothing_put, result_of}
use Rattle.frame_state.proofs.TileSpans.{frame_reads, tiles_break}
use Rattle.frame_decoder.proofs.decoding.decode_frame.Goals as goal

pub decode_counted-requires-clause-start : goal.decode_counted-requires-clause-start
decode_counted-requires-clause-start g c = record {
  columns_held = rw c.deref_mut.ensures.value c.in_ok-begin_all.ensures.start;
  map_held = nothing_put _ ∙ sym (ap samples_of c.planes_mut-planes.ensures.value ∙ c.requires.blank.map);
}

pub returns-in_err-counts : goal.returns-in_err-counts
returns-in_err-counts g c =
    let p = err_from_is_err_and c.from_residual-in_err-counts.result c.from_residual-in_err-counts.ensures.1 in
    let setting = c.args.by.reading.setting in
    let input = input_of c.args.by c.args.bytes.now c.args.compressed in
    rw (p.1, p.2) (frame_breaks (pictures_of c.args.by).references input _ (tiles_break input (lists_of setting.contexts, setting.modes) _ c.requires.begun.1 c.in_err-counts.ensures.gives))

pub new-blocks-requires : goal.new-blocks-requires
new-blocks-requires g c =
    let back = written_back c.decode_counted.new.columns c.begin_all.new.columns.items c.begin_all.new.columns.len (omega (arith, c.decode_counted.auto.columns)) in
    rw (c.deref.ensures.value, back) (record { size = c.args.by.reading.setting.size; few = c.requires.few; are = c.in_ok-counts.ensures.columns })

pub filter_frame-requires-clause-sizes : goal.filter_frame-requires-clause-sizes
filter_frame-requires-clause-sizes g c = rw (c.new-2.ensures, c.planes_mut.ensures.value) c.in_ok-counts.ensures.planes.sizes

pub filter_frame-requires-clause-fit : goal.filter_frame-requires-clause-fit
filter_frame-requires-clause-fit g c =
    let header = c.args.by.reading.setting.header in
    rw c.new-blocks.ensures.columns
    (all_fit header (tile_count header) c.deref.result.now
    (subst (λ columns. AreTileColumns header (tile_count header) columns)
    (sym (c.deref.ensures.value ∙ written_back c.decode_counted.new.columns c.begin_all.new.columns.items c.begin_all.new.columns.len (omega (arith, c.decode_counted.auto.columns))))
    c.in_ok-counts.ensures.columns))

pub filter_frame-requires-clause-range : goal.filter_frame-requires-clause-range
filter_frame-requires-clause-range g c = rw (c.new-2.ensures, c.planes_mut.ensures.value) c.in_ok-counts.ensures.planes.range

pub filter_frame-requires-clause-kept : goal.filter_frame-requires-clause-kept
filter_frame-requires-clause-kept g c = rw c.new-2.ensures (g.met.P.FilterSample.are_kept _ c.requires.kept)

pub returns : goal.returns
returns g c =
    let by = c.args.by in
    let setting = by.reading.setting in
    let header = setting.header in
    let planes = c.decode_counted.new.planes in
    let input = input_of by c.args.bytes.now c.args.compressed in
    let put : pictures_of by ≡ rebuilding header (pictures_of by).references = ap (λ shape. record { shape = shape; references = (pictures_of by).references }) c.requires.past.pictures.shape in
    let gives = c.in_ok-counts.ensures.gives in
    let read = gives.0 in
    let back = written_back c.decode_counted.new.columns c.begin_all.new.columns.items c.begin_all.new.columns.len (omega (arith, c.decode_counted.auto.columns)) in
    let blocks : blocks_of c.decode_counted.new.columns ≡ blocks_read read = blocks_told c.decode_counted.new.columns read.columns gives.2.columns_held in
    let columns : c.new-blocks.result.columns.now ≡ c.decode_counted.new.columns = c.new-blocks.ensures.columns ∙ c.deref.ensures.value ∙ back in
    let are = c.in_ok-counts.ensures.columns in
    let m : samples_of c.filter_frame.new.planes ≡ filtered_frame (setting_of header) (all_blocks (blocks_read read)) (samples_of planes) =
    c.filter_frame.ensures.map ∙ (λ i. filtered_frame (c.new-2.ensures i) (all_blocks (blocks_of (columns i))) (samples_of (c.planes_mut.ensures.value i)))
    ∙ ap (λ blocks. filtered_frame (setting_of header) (all_blocks blocks) (samples_of planes)) blocks in (
      result_of read (sources input (lists_of setting.contexts, setting.modes)) (samples_of planes),
      frame_done (pictures_of by).references input read (sources input (lists_of setting.contexts, setting.modes)) (samples_of planes)
          (frame_reads input (lists_of setting.contexts, setting.modes) read c.requires.begun.1 gives.1) (subst (λ (put : Rebuilding). raw put read.blocks ≡ samples_of planes) put gives.2.map_held),
      record {
        map = m;
        shape = c.requires.blank.same;
        sizes = subst (λ (f : EdgeSetting). HasSizes f.shape c.filter_frame.new.planes) c.new-2.ensures c.filter_frame.ensures.sizes;
        range = subst (λ (f : EdgeSetting). IsInRange f.shape.depth c.filter_frame.new.planes) c.new-2.ensures c.filter_frame.ensures.range;
        contexts = refl;
        blocks = rw c.replace.ensures.value (ap blocks_of back ∙ blocks);
        starts = rw (c.replace.ensures.value, back) (starts_of header (tile_count header) c.decode_counted.new.columns are);
        columns = rw (c.replace.ensures.value, back) (record { size = setting.size; few = c.requires.few; are = are });
        counts = gives.3;
      },
    )
