use Rattle.std.proofs.Common.{◌∙◌, ◌+◌, ◌-◌, ◌*◌, arith}
use Rattle.vp9_types.specs.Sizes.{superblocks_along}
use Rattle.recon_rows.specs.column_order.ColumnStrips.{column_from}
use Rattle.frame_steps.proofs.ColumnSpans.{areas_of, begins_inside, column_begins, column_stops, few_columns, stops_behind}
use Rattle.frame_steps.proofs.Copies.{first_tile}
use Rattle.frame_steps.proofs.strips.put_strip.Goals as goal

pub new-tile-requires-clause-below : goal.new-tile-requires-clause-below
new-tile-requires-clause-below g c = first_tile c.args.of.now.setting.now.header c.args.of.now.column c.requires.below

pub superblocks-requires-clause-order : goal.superblocks-requires-clause-order
superblocks-requires-clause-order g c =
    let s = c.args.of.now.setting.now in
    let k = c.args.of.now.column in
    let begins = column_begins s k c.new-tile.result c.new-tile.ensures c.requires.below in
    let stops = column_stops s k c.new-tile.result c.new-tile.ensures c.requires.below in
    omega (arith, begins, stops, stops_behind s.header k)

pub superblocks-requires-clause-few : goal.superblocks-requires-clause-few
superblocks-requires-clause-few g c =
    let s = c.args.of.now.setting.now in
    let k = c.args.of.now.column in
    let stops = column_stops s k c.new-tile.result c.new-tile.ensures c.requires.below in
    omega (arith, stops, begins_inside s.header (k + 1), few_columns s)

pub overflow_add-to : goal.overflow_add-to
overflow_add-to g c =
    let s = c.args.of.now.setting.now in
    let k = c.args.of.now.column in
    let begins = column_begins s k c.new-tile.result c.new-tile.ensures c.requires.below in
    omega (arith, begins, begins_inside s.header k, few_columns s, c.superblocks.ensures.few)

pub new_strip-requires-clause-begin : goal.new_strip-requires-clause-begin
new_strip-requires-clause-begin g c =
    let s = c.args.of.now.setting.now in
    let k = c.args.of.now.column in
    rw c.shape.ensures (omega (arith, column_begins s k c.new-tile.result c.new-tile.ensures c.requires.below, begins_inside s.header k))

pub rows-requires-clause-areas : goal.rows-requires-clause-areas
rows-requires-clause-areas g c =
    let s = c.args.of.now.setting.now in
    let k = c.args.of.now.column in
    let begins = column_begins s k c.new-tile.result c.new-tile.ensures c.requires.below in
    let stops = column_stops s k c.new-tile.result c.new-tile.ensures c.requires.below in
    let to = (λ i. begins i + 8 * c.superblocks.ensures.is i) ∙ (λ i. column_from s.header k + 8 * superblocks_along (stops i - begins i)) in
    rw c.requires.shape (areas_of s.header k c.args.of.now.row c.args.of.now.plan.now c.shape.result _ _ c.in_ok-strip.strip c.requires.column c.shape.ensures begins to c.in_ok-strip.ensures.areas)
