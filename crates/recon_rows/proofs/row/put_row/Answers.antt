use Rattle.std.proofs.Common.{rules, ◌≡◌, ◌∙◌, ◌<◌, ◌+◌, refl, ap, sym, arith, length, List}
use Rattle.std.specs.List.{All}
use Rattle.block_plan.specs.Code.{HoldsSmall}
use Rattle.block_plan.specs.Planned.{PlannedBlock}
use Rattle.block_plan.specs.declared.block.BlockInfo.{BlockInfo}
use Rattle.planes.specs.Pictures.{samples_of}
use Rattle.block_rebuild.specs.Code.{IsPlaced, rebuilding_of}
use Rattle.block_rebuild.specs.Strips.{with_blocks}
use Rattle.block_rebuild.proofs.StripLemmas.{areas_hold}
use Rattle.column_plan.specs.Code.{HoldsWhole}
use Rattle.column_plan.specs.PlanRows.{place_of_row}
use Rattle.recon_rows.specs.RebuiltRows.{IsProvided, planned_between}
use Rattle.recon_rows.proofs.RowSteps.{IsRowsPlan, all_put, end_at, first_piece, in_column, none_put, places_rise, plan_kept, planned_at, provided_at, put_at, room_at, room_there, row_planned}
use Rattle.recon_rows.proofs.row.put_row.Goals as goal

pub loop-k-init : goal.loop-k-init
loop-k-init g c = let a = c.args in
    let s = a.by.now.shape in
    let bs = c.blocks-blocks.result.now in
    let kept = c.requires.kept in
    let from : c.row_place-first.result ≡ place_of_row s a.row bs = c.row_place-first.ensures kept.0 kept.2 ∙ (λ i. place_of_row (kept.1 i) a.row (sym c.blocks-blocks.ensures i)) in
    let to : c.row_place-next.result ≡ place_of_row s (a.row + 1) bs = c.row_place-next.ensures kept.0 kept.2 ∙ (λ i. place_of_row (kept.1 i) (a.row + 1) (sym c.blocks-blocks.ensures i)) in
    record {
      least = omega arith;
      most = places_rise s a.row bs c.row_place-first.result c.row_place-next.result from to;
      pieces = first_piece s a.row bs c.row_place-first.result from;
      areas = record { y = refl; u = refl; v = refl };
      range = c.requires.range;
      so_far = none_put (rebuilding_of g.S.Samples.map a.by.now) s c.first_col-tile_from.result bs _ c.row_place-first.result.block (samples_of a.planes.now);
    }

pub offset_bounds-blocks-k : goal.offset_bounds-blocks-k
offset_bounds-blocks-k g c = let a = c.args in
    let s = a.by.now.shape in
    let bs = c.blocks-blocks.result.now in
    let kept = c.requires.kept in
    let to : c.row_place-next.result ≡ place_of_row s (a.row + 1) bs = c.row_place-next.ensures kept.0 kept.2 ∙ (λ i. place_of_row (kept.1 i) (a.row + 1) (sym c.blocks-blocks.ensures i)) in
    let low : c.loop-k.k < length bs = in_column s (a.row + 1) c.loop-k.k bs c.row_place-next.result to c.loop-k-test.true in
    search rules

pub bounds-blocks-k : goal.bounds-blocks-k
bounds-blocks-k g c = let a = c.args in
    let s = a.by.now.shape in
    let bs = c.blocks-blocks.result.now in
    let kept = c.requires.kept in
    let to : c.row_place-next.result ≡ place_of_row s (a.row + 1) bs = c.row_place-next.ensures kept.0 kept.2 ∙ (λ i. place_of_row (kept.1 i) (a.row + 1) (sym c.blocks-blocks.ensures i)) in
    let low : c.loop-k.k < length bs = in_column s (a.row + 1) c.loop-k.k bs c.row_place-next.result to c.loop-k-test.true in
    low

pub of-part-requires-clause-room : goal.of-part-requires-clause-room
of-part-requires-clause-room g c = let a = c.args in
    let s = a.by.now.shape in
    let bs = c.blocks-blocks.result.now in
    let kept = c.requires.kept in
    let to : c.row_place-next.result ≡ place_of_row s (a.row + 1) bs = c.row_place-next.ensures kept.0 kept.2 ∙ (λ i. place_of_row (kept.1 i) (a.row + 1) (sym c.blocks-blocks.ensures i)) in
    let low : c.loop-k.k < length bs = in_column s (a.row + 1) c.loop-k.k bs c.row_place-next.result to c.loop-k-test.true in
    let plan : IsRowsPlan s c.first_col-tile_from.result bs a.plan.now.residues = plan_kept kept.0 s a.plan.now c.first_col-tile_from.result bs kept.1 c.first_col-tile_from.ensures c.blocks-blocks.ensures kept.2 in
    room_at s c.first_col-tile_from.result bs a.plan.now.residues c.loop-k.k c.loop-k.piece _ plan low c.loop-k.invariant.pieces

pub of-part-requires-clause-fits : goal.of-part-requires-clause-fits
of-part-requires-clause-fits g c = let a = c.args in
    let s = a.by.now.shape in
    let bs = c.blocks-blocks.result.now in
    let kept = c.requires.kept in
    let to : c.row_place-next.result ≡ place_of_row s (a.row + 1) bs = c.row_place-next.ensures kept.0 kept.2 ∙ (λ i. place_of_row (kept.1 i) (a.row + 1) (sym c.blocks-blocks.ensures i)) in
    let low : c.loop-k.k < length bs = in_column s (a.row + 1) c.loop-k.k bs c.row_place-next.result to c.loop-k-test.true in
    let placed : All (IsPlaced s a.plan.now.column.grid.from) bs = rw c.blocks-blocks.ensures c.requires.placed in
    (placed c.loop-k.k _ low).fits

-- the room's size, then the clauses
pub put_planned_block-requires-clause-placed : goal.put_planned_block-requires-clause-placed
put_planned_block-requires-clause-placed g c =
    let a = c.args in
    let s = a.by.now.shape in
    let from_column = c.first_col-tile_from.result in
    let bs = c.blocks-blocks.result.now in
    let kept = c.requires.kept in
    let from : c.row_place-first.result ≡ place_of_row s a.row bs = c.row_place-first.ensures kept.0 kept.2 ∙ (λ i. place_of_row (kept.1 i) a.row (sym c.blocks-blocks.ensures i)) in
    let to : c.row_place-next.result ≡ place_of_row s (a.row + 1) bs = c.row_place-next.ensures kept.0 kept.2 ∙ (λ i. place_of_row (kept.1 i) (a.row + 1) (sym c.blocks-blocks.ensures i)) in
    let low : c.loop-k.k < length bs = in_column s (a.row + 1) c.loop-k.k bs c.row_place-next.result to c.loop-k-test.true in
    let placed : All (IsPlaced s from_column) bs = rw (c.blocks-blocks.ensures, c.first_col-tile_from.ensures) c.requires.placed in
    placed c.loop-k.k _ low

pub put_planned_block-requires-clause-references : goal.put_planned_block-requires-clause-references
put_planned_block-requires-clause-references g c =
    let a = c.args in
    let s = a.by.now.shape in
    let from_column = c.first_col-tile_from.result in
    let bs = c.blocks-blocks.result.now in
    let kept = c.requires.kept in
    let from : c.row_place-first.result ≡ place_of_row s a.row bs = c.row_place-first.ensures kept.0 kept.2 ∙ (λ i. place_of_row (kept.1 i) a.row (sym c.blocks-blocks.ensures i)) in
    let to : c.row_place-next.result ≡ place_of_row s (a.row + 1) bs = c.row_place-next.ensures kept.0 kept.2 ∙ (λ i. place_of_row (kept.1 i) (a.row + 1) (sym c.blocks-blocks.ensures i)) in
    let low : c.loop-k.k < length bs = in_column s (a.row + 1) c.loop-k.k bs c.row_place-next.result to c.loop-k-test.true in
    let provided = provided_at (λ (b : BlockInfo). IsProvided g.S.Samples.holds g.S.Samples.width g.S.Samples.map a.by.now a.plan.now.column.grid.from a.planes.now b) s a.row c.loop-k.k bs a.plan.now.column.grid.blocks c.row_place-first.result c.row_place-next.result _
    c.blocks-blocks.ensures from to c.requires.provided c.loop-k.invariant.least c.loop-k-test.true in
    provided.served

pub put_planned_block-requires-clause-part : goal.put_planned_block-requires-clause-part
put_planned_block-requires-clause-part g c =
    let a = c.args in
    let s = a.by.now.shape in
    let from_column = c.first_col-tile_from.result in
    let bs = c.blocks-blocks.result.now in
    let kept = c.requires.kept in
    let from : c.row_place-first.result ≡ place_of_row s a.row bs = c.row_place-first.ensures kept.0 kept.2 ∙ (λ i. place_of_row (kept.1 i) a.row (sym c.blocks-blocks.ensures i)) in
    let to : c.row_place-next.result ≡ place_of_row s (a.row + 1) bs = c.row_place-next.ensures kept.0 kept.2 ∙ (λ i. place_of_row (kept.1 i) (a.row + 1) (sym c.blocks-blocks.ensures i)) in
    let low : c.loop-k.k < length bs = in_column s (a.row + 1) c.loop-k.k bs c.row_place-next.result to c.loop-k-test.true in
    let provided = provided_at (λ (b : BlockInfo). IsProvided g.S.Samples.holds g.S.Samples.width g.S.Samples.map a.by.now a.plan.now.column.grid.from a.planes.now b) s a.row c.loop-k.k bs a.plan.now.column.grid.blocks c.row_place-first.result c.row_place-next.result _
    c.blocks-blocks.ensures from to c.requires.provided c.loop-k.invariant.least c.loop-k-test.true in
    rw c.first_col-tile_from.ensures (areas_hold s a.plan.now.column.grid.from _ a.planes.now c.loop-k.planes c.loop-k.invariant.areas provided.part)

pub put_planned_block-requires-clause-fits : goal.put_planned_block-requires-clause-fits
put_planned_block-requires-clause-fits g c =
    let a = c.args in
    let s = a.by.now.shape in
    let from_column = c.first_col-tile_from.result in
    let bs = c.blocks-blocks.result.now in
    let kept = c.requires.kept in
    let from : c.row_place-first.result ≡ place_of_row s a.row bs = c.row_place-first.ensures kept.0 kept.2 ∙ (λ i. place_of_row (kept.1 i) a.row (sym c.blocks-blocks.ensures i)) in
    let to : c.row_place-next.result ≡ place_of_row s (a.row + 1) bs = c.row_place-next.ensures kept.0 kept.2 ∙ (λ i. place_of_row (kept.1 i) (a.row + 1) (sym c.blocks-blocks.ensures i)) in
    let low : c.loop-k.k < length bs = in_column s (a.row + 1) c.loop-k.k bs c.row_place-next.result to c.loop-k-test.true in
    let plan : IsRowsPlan s from_column bs a.plan.now.residues = plan_kept kept.0 s a.plan.now from_column bs kept.1 c.first_col-tile_from.ensures c.blocks-blocks.ensures kept.2 in
    let part = c.of-part.ensures.part in
    room_there s from_column bs a.plan.now.residues c.of-part.result.residues.now c.loop-k.k c.loop-k.piece c.of-part.result.y _ plan low c.loop-k.invariant.pieces part.y part.residues

pub put_planned_block-requires-clause-whole : goal.put_planned_block-requires-clause-whole
put_planned_block-requires-clause-whole g c =
    let a = c.args in
    let s = a.by.now.shape in
    let from_column = c.first_col-tile_from.result in
    let bs = c.blocks-blocks.result.now in
    let kept = c.requires.kept in
    let from : c.row_place-first.result ≡ place_of_row s a.row bs = c.row_place-first.ensures kept.0 kept.2 ∙ (λ i. place_of_row (kept.1 i) a.row (sym c.blocks-blocks.ensures i)) in
    let to : c.row_place-next.result ≡ place_of_row s (a.row + 1) bs = c.row_place-next.ensures kept.0 kept.2 ∙ (λ i. place_of_row (kept.1 i) (a.row + 1) (sym c.blocks-blocks.ensures i)) in
    let low : c.loop-k.k < length bs = in_column s (a.row + 1) c.loop-k.k bs c.row_place-next.result to c.loop-k-test.true in
    let plan : IsRowsPlan s from_column bs a.plan.now.residues = plan_kept kept.0 s a.plan.now from_column bs kept.1 c.first_col-tile_from.ensures c.blocks-blocks.ensures kept.2 in
    let part = c.of-part.ensures.part in
    planned_at (HoldsWhole s) s from_column bs a.plan.now.residues c.of-part.result.residues.now c.loop-k.k c.loop-k.piece c.of-part.result.y _ plan.whole low c.loop-k.invariant.pieces part.y part.residues

pub put_planned_block-requires-clause-small : goal.put_planned_block-requires-clause-small
put_planned_block-requires-clause-small g c =
    let a = c.args in
    let s = a.by.now.shape in
    let from_column = c.first_col-tile_from.result in
    let bs = c.blocks-blocks.result.now in
    let kept = c.requires.kept in
    let from : c.row_place-first.result ≡ place_of_row s a.row bs = c.row_place-first.ensures kept.0 kept.2 ∙ (λ i. place_of_row (kept.1 i) a.row (sym c.blocks-blocks.ensures i)) in
    let to : c.row_place-next.result ≡ place_of_row s (a.row + 1) bs = c.row_place-next.ensures kept.0 kept.2 ∙ (λ i. place_of_row (kept.1 i) (a.row + 1) (sym c.blocks-blocks.ensures i)) in
    let low : c.loop-k.k < length bs = in_column s (a.row + 1) c.loop-k.k bs c.row_place-next.result to c.loop-k-test.true in
    let plan : IsRowsPlan s from_column bs a.plan.now.residues = plan_kept kept.0 s a.plan.now from_column bs kept.1 c.first_col-tile_from.ensures c.blocks-blocks.ensures kept.2 in
    let part = c.of-part.ensures.part in
    planned_at HoldsSmall s from_column bs a.plan.now.residues c.of-part.result.residues.now c.loop-k.k c.loop-k.piece c.of-part.result.y _ plan.small low c.loop-k.invariant.pieces part.y part.residues

pub loop-k-preserved : goal.loop-k-preserved
loop-k-preserved g c = let a = c.args in
    let s = a.by.now.shape in
    let bs = c.blocks-blocks.result.now in
    let kept = c.requires.kept in
    let from : c.row_place-first.result ≡ place_of_row s a.row bs = c.row_place-first.ensures kept.0 kept.2 ∙ (λ i. place_of_row (kept.1 i) a.row (sym c.blocks-blocks.ensures i)) in
    let to : c.row_place-next.result ≡ place_of_row s (a.row + 1) bs = c.row_place-next.ensures kept.0 kept.2 ∙ (λ i. place_of_row (kept.1 i) (a.row + 1) (sym c.blocks-blocks.ensures i)) in
    let low : c.loop-k.k < length bs = in_column s (a.row + 1) c.loop-k.k bs c.row_place-next.result to c.loop-k-test.true in
    let before = c.loop-k.invariant in
    let put = c.put_planned_block.ensures in
    record {
      least = omega (arith, before.least);
      most = omega (arith, c.loop-k-test.true);
      pieces = end_at s bs c.loop-k.k c.loop-k.piece c.of-part.result.end _ low before.pieces c.of-part.ensures.end;
      areas = record { y = put.areas.y ∙ before.areas.y; u = put.areas.u ∙ before.areas.u; v = put.areas.v ∙ before.areas.v };
      range = put.range;
      so_far = put_at (rebuilding_of g.S.Samples.map a.by.now) s c.first_col-tile_from.result bs a.plan.now.residues c.of-part.result.residues.now c.row_place-first.result.block c.row_place-first.result.piece c.loop-k.k c.loop-k.piece c.of-part.result.y _
          (samples_of a.planes.now) (samples_of c.loop-k.planes) (samples_of c.put_planned_block.new.planes) before.least low (first_piece s a.row bs c.row_place-first.result from) before.pieces
          c.of-part.ensures.part.y c.of-part.ensures.part.residues before.so_far put.map;
    }

pub returns-clause-map : goal.returns-clause-map
returns-clause-map g c = let a = c.args in
    let s = a.by.now.shape in
    let bs = c.blocks-blocks.result.now in
    let kept = c.requires.kept in
    let from : c.row_place-first.result ≡ place_of_row s a.row bs = c.row_place-first.ensures kept.0 kept.2 ∙ (λ i. place_of_row (kept.1 i) a.row (sym c.blocks-blocks.ensures i)) in
    let to : c.row_place-next.result ≡ place_of_row s (a.row + 1) bs = c.row_place-next.ensures kept.0 kept.2 ∙ (λ i. place_of_row (kept.1 i) (a.row + 1) (sym c.blocks-blocks.ensures i)) in
    all_put (rebuilding_of g.S.Samples.map a.by.now) s c.first_col-tile_from.result a.row c.loop-k.k bs a.plan.now.column.grid.blocks a.plan.now.residues c.row_place-first.result c.row_place-next.result
    (samples_of a.planes.now) (samples_of c.loop-k.planes) c.blocks-blocks.ensures from to c.loop-k.invariant.most c.loop-k-test.false c.loop-k.invariant.so_far
    ∙ ap (λ n. with_blocks (rebuilding_of g.S.Samples.map a.by.now) (samples_of a.planes.now) (planned_between s n a.row a.plan.now.column.grid.blocks a.plan.now.residues)) c.first_col-tile_from.ensures

pub returns-clause-in_order : goal.returns-clause-in_order
returns-clause-in_order g c = λ order. let a = c.args in
    returns-clause-map g c ∙ ap (λ (bs : List PlannedBlock). with_blocks (rebuilding_of g.S.Samples.map a.by.now) (samples_of a.planes.now) bs)
    (row_planned a.by.now.shape a.plan.now.column.grid.from a.row a.plan.now.column.grid.blocks a.plan.now.residues order)
