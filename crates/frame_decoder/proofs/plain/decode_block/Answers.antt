use Rattle.std.proofs.Common.{◌≡◌, ◌∙◌, ap, sym, arith}
use Rattle.std.proofs.lemmas.Result.{err_from_is_err_and}
use Rattle.frame_headers.specs.HeaderState.{shape_of}
use Rattle.vp9_types.specs.Shapes.{mi_cols, mi_rows}
use Rattle.block_geometry.specs.declared.transform_blocks.FramePlaces.{FramePlaces}
use Rattle.block_plan.specs.Code.{planned_with}
use Rattle.block_rebuild.specs.RebuiltBlocks.{put_planned}
use Rattle.planes.specs.Pictures.{samples_of}
use Rattle.frame_state.specs.Code.{sources_of}
use Rattle.frame_decoder.specs.Code.{pictures_of}
use Rattle.frame_state.proofs.BlockSteps.{all_have_small, fits_more, lies_more, small_more, starts_more, vectors_held, vectors_small}
use Rattle.frame_decoder.proofs.PlainBlocks.{block_read, block_broken, has_references, modes_broken, put_listed}
use Rattle.frame_decoder.proofs.plain.decode_block.Goals as goal

pub mode_info-requires : goal.mode_info-requires
mode_info-requires g c =
    let setting = c.args.by.now.reading.setting in
    let ready = c.requires.ready in
    let past = c.requires.past.past in
    let rows : setting.places.rows ≡ mi_rows (shape_of setting.header) = ap (λ (p : FramePlaces). p.rows) setting.whole in
    let cols : setting.places.cols ≡ mi_cols (shape_of setting.header) = ap (λ (p : FramePlaces). p.cols) setting.whole in (
      omega arith,
      (
        c.requires.row,
        (
          c.requires.first,
          (
            c.requires.col,
            (
              rw c.requires.to ready.within,
              (
                (past.rows ∙ sym rows, past.cols ∙ sym cols),
                (
                  (λ r k low first last. (rw ready.rows low, omega (arith, c.requires.from, first), omega (arith, c.requires.to, last))),
                  (
                    rw c.as_ref-vectors.ensures.value
                        (vectors_held setting.header c.args.by.now.reading.past.vectors c.args.at.row c.args.at.col past.vectors (rw (sym rows) c.requires.row) (omega (arith, c.requires.col, c.requires.to, ready.within, cols))),
                    (all_have_small _ ready.small, rw c.as_ref-vectors.ensures.value (vectors_small setting.header c.args.by.now.reading.past.vectors past.vectors)),
                  ),
                ),
              ),
            ),
          ),
        ),
      ),
    )

pub returns-in_err-block-clause-gives : goal.returns-in_err-block-clause-gives
returns-in_err-block-clause-gives g c =
    let p = err_from_is_err_and c.from_residual.result c.from_residual.ensures.1 in
    rw (p.1, p.2) (modes_broken (sources_of c.args.by.now.reading) (pictures_of c.args.by.now) c.args.at _ _ _ _ _ _ (rw c.as_ref-vectors.ensures.value at c.in_err-block.ensures.read))

pub returns-in_err-listed-clause-gives : goal.returns-in_err-listed-clause-gives
returns-in_err-listed-clause-gives g c =
    let p = err_from_is_err_and c.from_residual-in_err-listed.result c.from_residual-in_err-listed.ensures.1 in
    rw (p.1, p.2) (block_broken (sources_of c.args.by.now.reading) (pictures_of c.args.by.now) c.args.at _ _ _ _ _ _ _
    (rw c.as_ref-vectors.ensures.value at c.in_ok-block.ensures.read) (c.in_err-listed.ensures.gives c.args.at.tile_from))

pub returns-clause-gives : goal.returns-clause-gives
returns-clause-gives g c =
    let by = c.args.by.now in
    let shape = shape_of by.reading.setting.header in
    let block = c.in_ok-block.block in
    let residues = c.block_residue.new.residues in
    let put : samples_of c.put_block.new.planes ≡ put_planned (pictures_of by) (planned_with shape c.args.at.tile_from block block residues) (samples_of c.args.planes.now) =
    c.put_block.ensures.map ∙ ap (λ shape. put_planned (pictures_of by) (planned_with shape c.args.at.tile_from block block residues) (samples_of c.args.planes.now)) c.requires.past.pictures.shape in
    rw c.put.ensures (block_read (sources_of by.reading) (pictures_of by) c.args.at _ _ _ _ _ _ _ _ _
    (planned_with shape c.args.at.tile_from block c.in_ok-listed.listed residues)
    (rw c.as_ref-vectors.ensures.value at c.in_ok-block.ensures.read) (c.in_ok-listed.ensures.gives c.args.at.tile_from)
    (put_listed (pictures_of by) shape c.args.at.tile_from block c.in_ok-listed.listed c.in_ok-listed.ensures.listed.0 residues _ _ c.in_ok-listed.ensures.listed.1 put))

pub returns-clause-ready : goal.returns-clause-ready
returns-clause-ready g c =
    let is = c.in_ok-block.ensures.block in
    let any = c.in_ok-listed.ensures.listed in record {
      rows = rw c.put.ensures c.requires.ready.rows;
      order = rw c.put.ensures c.requires.ready.order;
      within = rw c.put.ensures c.requires.ready.within;
      ends = rw c.put.ensures c.requires.ready.ends;
      fit = c.in_ok-listed.ensures.fit;
      fit_blocks = rw c.put.ensures (fits_more _ c.in_ok-block.block _ c.args.at.size any.0 any.1 is.size is.fits c.requires.ready.fit_blocks);
      lie = rw c.put.ensures (lies_more _ _ _ c.in_ok-block.block _ c.args.at any.0 any.1 is.col is.size (rw c.requires.from at c.requires.first) c.requires.wide c.requires.ready.lie);
      starts = rw c.put.ensures (starts_more c.args.by.now.reading.setting.places.rows c.args.by.now.reading.setting.places.cols _ c.in_ok-block.block _ any.0 any.1
          (rw is.row c.requires.row) (rw is.col (omega (arith, c.requires.col, c.requires.to, c.requires.ready.within))) is.segment c.requires.ready.starts);
      small = rw c.put.ensures (small_more _ c.in_ok-block.block _ any.0 any.1 is.small c.requires.ready.small);
    }

pub returns-clause-planes : goal.returns-clause-planes
returns-clause-planes g c = record {
  sizes = rw c.requires.past.pictures.shape at c.put_block.ensures.sizes;
  range = rw c.requires.past.pictures.shape at c.put_block.ensures.range;
}

pub put_block-requires-clause-size : goal.put_block-requires-clause-size
put_block-requires-clause-size g c = rw c.requires.past.pictures.shape c.args.by.now.reading.setting.size

pub put_block-requires-clause-fits : goal.put_block-requires-clause-fits
put_block-requires-clause-fits g c = rw c.requires.past.pictures.shape c.requires.kept

pub put_block-requires-clause-placed : goal.put_block-requires-clause-placed
put_block-requires-clause-placed g c =
    let setting = c.args.by.now.reading.setting in
    let is = c.in_ok-block.ensures.block in
    let rows : setting.places.rows ≡ mi_rows (shape_of setting.header) = ap (λ (p : FramePlaces). p.rows) setting.whole in
    let cols : setting.places.cols ≡ mi_cols (shape_of setting.header) = ap (λ (p : FramePlaces). p.cols) setting.whole in
    rw c.requires.past.pictures.shape (record {
      row = rw (is.row, sym rows) c.requires.row;
      column = omega (arith, is.col, c.requires.col, c.requires.to, c.requires.ready.within, cols);
      tile = rw is.col c.requires.first;
      fits = rw is.size is.fits;
    })

pub put_block-requires-clause-references : goal.put_block-requires-clause-references
put_block-requires-clause-references g c =
    has_references c.args.by.now.reading.setting.header c.args.by.now.pictures c.in_ok-block.block.prediction c.requires.past.pictures.there c.in_ok-block.ensures.in_range

pub put_block-requires-clause-sizes : goal.put_block-requires-clause-sizes
put_block-requires-clause-sizes g c = rw c.requires.past.pictures.shape c.requires.planes.sizes

pub put_block-requires-clause-range : goal.put_block-requires-clause-range
put_block-requires-clause-range g c = rw c.requires.past.pictures.shape c.requires.planes.range

pub put_block-requires-clause-small : goal.put_block-requires-clause-small
put_block-requires-clause-small g c =
    let small = c.in_ok-listed.ensures.small in
    rw c.requires.past.pictures.shape (record { y = small.y; u = small.u; v = small.v })
