use Rattle.std.proofs.Common.{rules, ◌≡◌, ◌∙◌, ◌≤◌, ◌+◌, length, ap, sym, arith}
use Rattle.frame_headers.specs.HeaderState.{shape_of}
use Rattle.column_plan.specs.PlanRows.{place_of_row}
use Rattle.recon_rows.proofs.RowSteps.{places_rise}
use Rattle.frame_steps.proofs.Copies.{row_inside}
use Rattle.frame_steps.proofs.needs.needs_of_row.Goals as goal

pub overflow_add-row : goal.overflow_add-row
overflow_add-row c = omega (arith, c.requires.row, c.requires.size.3)

pub offset_bounds-blocks-first : goal.offset_bounds-blocks-first
offset_bounds-blocks-first c =
    let s = shape_of c.args.header.now in
    let bs = c.blocks-blocks.result.now in
    let from : c.row_place-first.result ≡ place_of_row s c.args.row bs = c.row_place-first.ensures c.args.header.now c.requires.kept ∙ ap (place_of_row s c.args.row) (sym c.blocks-blocks.ensures) in
    let low : c.row_place-first.result.block ≤ length bs = row_inside s c.args.row bs c.row_place-first.result from in
    search rules

pub slice_bounds-needs-count : goal.slice_bounds-needs-count
slice_bounds-needs-count c =
    let s = shape_of c.args.header.now in
    let bs = c.blocks-blocks.result.now in
    let from : c.row_place-first.result ≡ place_of_row s c.args.row bs = c.row_place-first.ensures c.args.header.now c.requires.kept ∙ ap (place_of_row s c.args.row) (sym c.blocks-blocks.ensures) in
    let to : c.row_place-next.result ≡ place_of_row s (c.args.row + 1) bs = c.row_place-next.ensures c.args.header.now c.requires.kept ∙ ap (place_of_row s (c.args.row + 1)) (sym c.blocks-blocks.ensures) in
    places_rise s c.args.row bs c.row_place-first.result c.row_place-next.result from to

pub slice_bounds-needs-start : goal.slice_bounds-needs-start
slice_bounds-needs-start c =
    let s = shape_of c.args.header.now in
    let bs = c.blocks-blocks.result.now in
    let from : c.row_place-first.result ≡ place_of_row s c.args.row bs = c.row_place-first.ensures c.args.header.now c.requires.kept ∙ ap (place_of_row s c.args.row) (sym c.blocks-blocks.ensures) in
    let to : c.row_place-next.result ≡ place_of_row s (c.args.row + 1) bs = c.row_place-next.ensures c.args.header.now c.requires.kept ∙ ap (place_of_row s (c.args.row + 1)) (sym c.blocks-blocks.ensures) in
    places_rise s c.args.row bs c.row_place-first.result c.row_place-next.result from to

pub slice_bounds-needs-end : goal.slice_bounds-needs-end
slice_bounds-needs-end c =
    let s = shape_of c.args.header.now in
    let bs = c.blocks-blocks.result.now in
    let to : c.row_place-next.result ≡ place_of_row s (c.args.row + 1) bs = c.row_place-next.ensures c.args.header.now c.requires.kept ∙ ap (place_of_row s (c.args.row + 1)) (sym c.blocks-blocks.ensures) in
    row_inside s (c.args.row + 1) bs c.row_place-next.result to
