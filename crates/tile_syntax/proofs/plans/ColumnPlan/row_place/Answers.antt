use Rattle.std.proofs.Common.{◌∙◌, length, sym, ap}
use Rattle.column_plan.proofs.RowStarts.{row_found}
use Rattle.frame_headers.specs.HeaderState.{shape_of}
use Rattle.tile_syntax.proofs.plans.ColumnPlan.row_place.Goals as goal

pub returns : goal.returns
returns c = λ header kept.
    let p = c.args.self.now in
    let blocks = p.column.grid.blocks in
    c.at.ensures ∙ row_found (shape_of header) blocks p.rows.places.items c.args.row c.end-end.result kept.rows
    (c.end-end.ensures ∙ ap (λ n. record { block = length blocks; piece = n }) (sym kept.all))
