use Rattle.std.proofs.Common.{◌≡◌, ap, sym, arith}
use Rattle.vp9_types.specs.Shapes.{mi_cols, mi_rows}
use Rattle.frame_headers.specs.HeaderState.{shape_of}
use Rattle.block_geometry.specs.declared.transform_blocks.FramePlaces.{FramePlaces}
use Rattle.block_plan.specs.SegmentMaps.{id_map}
use Rattle.frame_state.proofs.BlockSteps.{all_have_small, vectors_held, vectors_small}
use Rattle.drawn_frames.proofs.Tellings.{told_drawn}
use Rattle.frame_state.specs.Code.{sources_of}
use Rattle.frame_state.specs.Sources.{block_sources}
use Rattle.drawn_symbols.specs.BlockDraws.{draw_block}
use Rattle.drawn_frames.proofs.symbols.DrawnSymbolsFrameSymbols.block.Goals as goal

pub draw_block-requires-clause-held_before : goal.draw_block-requires-clause-held_before
draw_block-requires-clause-held_before c =
    let setting = c.args.by.now.setting in
    let rows : setting.places.rows ≡ mi_rows (shape_of setting.header) = ap (λ (p : FramePlaces). p.rows) setting.whole in
    let cols : setting.places.cols ≡ mi_cols (shape_of setting.header) = ap (λ (p : FramePlaces). p.cols) setting.whole in
    rw c.as_ref-before.ensures.value
    (vectors_held setting.header c.args.by.now.past.vectors c.args.at.row c.args.at.col c.requires.past.vectors (rw (sym rows) c.requires.row) (omega (arith, c.requires.last, c.requires.tile, cols)))

pub draw_block-requires-clause-small : goal.draw_block-requires-clause-small
draw_block-requires-clause-small c = all_have_small _ c.requires.small

pub draw_block-requires-clause-small_before : goal.draw_block-requires-clause-small_before
draw_block-requires-clause-small_before c =
    rw c.as_ref-before.ensures.value (vectors_small c.args.by.now.setting.header c.args.by.now.past.vectors c.requires.past.vectors)

pub returns-clause-can : goal.returns-clause-can
returns-clause-can c = rw c.as_ref-before.ensures.value at (c.draw_block.ensures.can (id_map c.args.by.now.past.segments.now))

pub returns-clause-tells : goal.returns-clause-tells
returns-clause-tells c =
    told_drawn (sources_of c.args.by.now) (draw_block (block_sources (sources_of c.args.by.now)) c.args.grid.now.blocks c.args.at) c.args.self.now _ _ (cc)
    (rw c.as_ref-before.ensures.value at (c.draw_block.ensures.drawn (id_map c.args.by.now.past.segments.now)))
