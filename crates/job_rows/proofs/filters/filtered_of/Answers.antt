use Rattle.std.proofs.Common.{◌≡◌, ◌∙◌, ◌+◌, ◌/◌, sym, ap, arith}
use Rattle.vp9_types.specs.Shapes.{mi_cols, mi_rows}
use Rattle.frame_headers.specs.HeaderState.{shape_of}
use Rattle.frame_headers.specs.Spans.{tile_count}
use Rattle.frame_headers.specs.declared.header.FrameSize.{FrameSize}
use Rattle.frame_headers.specs.declared.header.Header.{Header}
use Rattle.job_results.proofs.of_frame_state.ColumnBlocks.{all_fit}
use Rattle.loop_edges.specs.declared.setting.EdgeSetting.{EdgeSetting}
use Rattle.job_rows.proofs.filters.filtered_of.Goals as goal

pub filter_next_row-requires-clause-held : goal.filter_next_row-requires-clause-held
filter_next_row-requires-clause-held g c =
    let of = c.args.of.now in
    let size : c.new-blocks.result.header.now.size ≡ of.header.now.size = ap (λ (h : Header). h.size) c.new-blocks.ensures.header ∙ c.requires.same in
    let rows : mi_rows (shape_of c.new-blocks.result.header.now) ≡ mi_rows (shape_of of.header.now) = ap (λ (s : FrameSize). (s.height + 7) / 8) size in
    let cols : mi_cols (shape_of c.new-blocks.result.header.now) ≡ mi_cols (shape_of of.header.now) = ap (λ (s : FrameSize). (s.width + 7) / 8) size in
    let high : mi_rows c.new-edges.result.shape ≡ mi_rows (shape_of of.header.now) = ap (λ (e : EdgeSetting). mi_rows e.shape) c.new-edges.ensures in
    let wide : mi_cols c.new-edges.result.shape ≡ mi_cols (shape_of of.header.now) = ap (λ (e : EdgeSetting). mi_cols e.shape) c.new-edges.ensures in
    λ y x from to low narrow. (omega (arith, low, high, rows), omega (arith, narrow, wide, cols))

pub filter_next_row-requires-clause-fit : goal.filter_next_row-requires-clause-fit
filter_next_row-requires-clause-fit g c =
    let last = c.args.of.now.last.now in
    rw (c.new-blocks.ensures.columns, c.deref.ensures.value) (all_fit last.header (tile_count last.header) last.columns.items last.are.are)

pub filter_next_row-requires-clause-strips : goal.filter_next_row-requires-clause-strips
filter_next_row-requires-clause-strips g c = rw (c.new-edges.ensures, c.new-strips.ensures) c.requires.strips

pub filter_next_row-requires-clause-awaits : goal.filter_next_row-requires-clause-awaits
filter_next_row-requires-clause-awaits g c = rw (c.new-edges.ensures, c.new-blocks.ensures.columns, c.deref.ensures.value) (c.in_ok-buffer.ensures.awaits _ _ _ (sym c.shape.ensures) c.requires.above)

pub returns : goal.returns
returns g c = rw (c.new-edges.ensures, c.new-blocks.ensures.columns, c.deref.ensures.value) at c.filter_next_row.ensures
