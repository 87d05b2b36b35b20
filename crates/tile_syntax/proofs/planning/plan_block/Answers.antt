use Rattle.std.proofs.Common.{◌≡◌, ◌∙◌, ◌/◌, ap, sym, length, arith}
use Rattle.block_plan.specs.declared.block.BlockInfo.{BlockInfo}
use Rattle.std.proofs.lemmas.Result.{err_from_is_err_and}
use Rattle.frame_headers.specs.HeaderState.{shape_of}
use Rattle.vp9_types.specs.Shapes.{mi_cols, mi_rows}
use Rattle.block_geometry.specs.declared.transform_blocks.FramePlaces.{FramePlaces}
use Rattle.frame_state.specs.Code.{sources_of}
use Rattle.frame_state.proofs.BlockSteps.{all_have_small, fits_more, lies_more, small_more, starts_more, vectors_held, vectors_small}
use Rattle.column_plan.proofs.Held.{infos_are}
use Rattle.tile_syntax.proofs.PlanSteps.{all_kept, block_broken, block_planned, modes_broken, refer_more, small_planned, whole_planned}
use Rattle.column_plan.proofs.RowStarts.{rows_noted}
use Rattle.column_plan.specs.PlannedBlocks.{total}
use Rattle.tile_syntax.proofs.planning.plan_block.Goals as goal

pub mode_info-requires : goal.mode_info-requires
mode_info-requires g c =
    let setting = c.args.by.now.setting in
    let ready = c.requires.ready in
    let past = c.requires.past in
    let rows : setting.places.rows ≡ mi_rows (shape_of setting.header) = ap (λ (p : FramePlaces). p.rows) setting.whole in
    let cols : setting.places.cols ≡ mi_cols (shape_of setting.header) = ap (λ (p : FramePlaces). p.cols) setting.whole in (
      omega arith,
      (
        c.requires.row,
        (
          c.requires.first,
          (
            c.requires.col,
            (
              rw c.requires.to ready.within,
              (
                (past.rows ∙ sym rows, past.cols ∙ sym cols),
                (
                  (λ r k low first last. (rw ready.rows low, omega (arith, c.requires.from, first), omega (arith, c.requires.to, last))),
                  (
                    rw c.as_ref-vectors.ensures.value
                        (vectors_held setting.header c.args.by.now.past.vectors c.args.at.row c.args.at.col past.vectors (rw (sym rows) c.requires.row) (omega (arith, c.requires.col, c.requires.to, ready.within, cols))),
                    (all_have_small _ ready.small, rw c.as_ref-vectors.ensures.value (vectors_small setting.header c.args.by.now.past.vectors past.vectors)),
                  ),
                ),
              ),
            ),
          ),
        ),
      ),
    )

pub returns-in_err-block-clause-gives : goal.returns-in_err-block-clause-gives
returns-in_err-block-clause-gives g c =
    let p = err_from_is_err_and c.from_residual.result c.from_residual.ensures.1 in
    let by = c.args.by.now in
    let column = c.args.plan.now.column in
    rw (p.1, p.2) (modes_broken (sources_of by) c.args.at _ column.grid.blocks _ _ _ _ (infos_are (shape_of by.setting.header) column.grid.from column.grid.blocks c.args.plan.now.residues)
    (rw c.as_ref-vectors.ensures.value at c.in_err-block.ensures.read))

pub returns-in_err-listed-clause-gives : goal.returns-in_err-listed-clause-gives
returns-in_err-listed-clause-gives g c =
    let p = err_from_is_err_and c.from_residual-in_err-listed.result c.from_residual-in_err-listed.ensures.1 in
    let by = c.args.by.now in
    let column = c.args.plan.now.column in
    rw (p.1, p.2) (block_broken (sources_of by) c.args.at _ column.grid.blocks _ _ _ _ _ (infos_are (shape_of by.setting.header) column.grid.from column.grid.blocks c.args.plan.now.residues)
    (rw c.as_ref-vectors.ensures.value at c.in_ok-block.ensures.read) (c.in_err-listed.ensures.gives c.args.at.tile_from))

pub returns-clause-gives : goal.returns-clause-gives
returns-clause-gives g c =
    let by = c.args.by.now in
    let shape = shape_of by.setting.header in
    let column = c.args.plan.now.column in
    let any = c.in_ok-listed.ensures.listed in
    rw c.put.ensures (block_planned (sources_of by) c.args.at shape column.grid.from column.grid.blocks c.args.plan.now.residues _ _ _ _ _ _ c.in_ok-block.block c.in_ok-listed.listed any.0 c.block_residue.new.residues
    c.requires.from c.requires.kept.all any.1 c.in_ok-push_block.ensures.pushed c.in_ok-push_block.ensures.stands
    (rw c.as_ref-vectors.ensures.value at c.in_ok-block.ensures.read) (c.in_ok-listed.ensures.gives c.args.at.tile_from))

pub returns-clause-ready : goal.returns-clause-ready
returns-clause-ready g c =
    let is = c.in_ok-block.ensures.block in
    let any = c.in_ok-listed.ensures.listed in record {
      rows = rw c.put.ensures c.requires.ready.rows;
      order = rw c.put.ensures c.requires.ready.order;
      within = rw c.put.ensures c.requires.ready.within;
      ends = rw c.put.ensures c.requires.ready.ends;
      fit = c.in_ok-listed.ensures.fit;
      fit_blocks = rw c.put.ensures (fits_more _ c.in_ok-block.block _ c.args.at.size any.0 any.1 is.size is.fits c.requires.ready.fit_blocks);
      lie = rw c.put.ensures (lies_more _ _ _ c.in_ok-block.block _ c.args.at any.0 any.1 is.col is.size (rw c.requires.from at c.requires.first) c.requires.wide c.requires.ready.lie);
      starts = rw c.put.ensures (starts_more c.args.by.now.setting.places.rows c.args.by.now.setting.places.cols _ c.in_ok-block.block _ any.0 any.1
          (rw is.row c.requires.row) (rw is.col (omega (arith, c.requires.col, c.requires.to, c.requires.ready.within))) is.segment c.requires.ready.starts);
      small = rw c.put.ensures (small_more _ c.in_ok-block.block _ any.0 any.1 is.small c.requires.ready.small);
    }

pub returns-clause-kept : goal.returns-clause-kept
returns-clause-kept g c =
    let header = c.args.by.now.setting.header in
    let shape = shape_of header in
    let column = c.args.plan.now.column in
    let blocks = column.grid.blocks in
    let block = c.in_ok-block.block in
    let listed = c.in_ok-listed.listed in
    let held = c.block_residue.new.residues in
    let any = c.in_ok-listed.ensures.listed in
    let kept = c.requires.kept in
    let end : c.end-end.result ≡ record { block = length blocks; piece = total shape blocks } = c.end-end.ensures ∙ ap (λ n. record { block = length blocks; piece = n }) (sym kept.all) in record {
      all = rw c.put.ensures (all_kept shape blocks block _ any.0 held c.args.plan.now.residues _ kept.all any.1 c.in_ok-push_block.ensures.pushed);
      rows = rw c.put.ensures (rows_noted shape blocks listed c.args.plan.now.rows.places.items _ (c.args.at.row / 8) c.end-end.result kept.rows
          (ap (λ (b : BlockInfo). b.row / 8) any.1 ∙ ap (λ r. r / 8) c.in_ok-block.ensures.block.row) end c.in_ok-reach.ensures);
      refer = rw c.put.ensures (refer_more header blocks block listed any.0 any.1 c.in_ok-block.ensures.in_range kept.refer);
      small = rw c.put.ensures (small_planned shape column.grid.from blocks block listed any.0 held c.args.plan.now.residues _ kept.all any.1 c.in_ok-push_block.ensures.pushed
          (c.in_ok-push_block.ensures.stands column.grid.from) c.in_ok-listed.ensures.small kept.small);
      whole = rw c.put.ensures (whole_planned shape column.grid.from blocks block listed any.0 held c.args.plan.now.residues _ kept.all any.1 c.in_ok-push_block.ensures.pushed
          (c.in_ok-push_block.ensures.stands column.grid.from) c.in_ok-push_block.ensures.whole kept.whole);
    }
