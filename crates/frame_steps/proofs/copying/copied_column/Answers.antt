use Rattle.std.proofs.Common.{◌≡◌, ◌∙◌, ◌<◌, sym, refl, subst, arith, length, List}
use Rattle.std.proofs.lemmas.List.{take_all}
use Rattle.block_plan.specs.declared.block.BlockInfo.{BlockInfo}
use Rattle.frame_steps.proofs.ColumnSpans.{column_begins, column_stops, stops_behind}
use Rattle.frame_steps.proofs.Copies.{can_be_put, grown, is_copied, rows_are}
use Rattle.frame_steps.proofs.copying.copied_column.Goals as goal

pub new-requires : goal.new-requires
new-requires c =
    let s = c.args.setting.now in
    let begins = column_begins s c.args.k c.new-tile.result c.new-tile.ensures c.requires.below in
    let stops = column_stops s c.args.k c.new-tile.result c.new-tile.ensures c.requires.below in
    omega (arith, begins, stops, stops_behind s.header c.args.k)

pub loop-block-init : goal.loop-block-init
loop-block-init c =
    let s = c.args.setting.now in
    rw c.in_ok-grid.ensures (record {
      rows = refl;
      from = column_begins s c.args.k c.new-tile.result c.new-tile.ensures c.requires.below;
      to = column_stops s c.args.k c.new-tile.result c.new-tile.ensures c.requires.below;
      room = omega arith;
      blocks = refl;
    })

pub put-requires-clause-room : goal.put-requires-clause-room
put-requires-clause-room c = omega (arith, c.loop-block.invariant.room, c.loop-block-test.true)

pub put-requires-clause-row : goal.put-requires-clause-row
put-requires-clause-row c =
    let s = c.args.setting.now in
    let at = can_be_put s.header c.args.k c.args.column.now c.requires.is c.loop-block.block-index _ (subst (λ (bs : List BlockInfo). c.loop-block.block-index < length bs) c.blocks-blocks.ensures c.loop-block-test.true) in
    rw (c.loop-block.invariant.rows, rows_are s, c.blocks-blocks.ensures) at.0

pub put-requires-clause-first : goal.put-requires-clause-first
put-requires-clause-first c =
    let s = c.args.setting.now in
    let at = can_be_put s.header c.args.k c.args.column.now c.requires.is c.loop-block.block-index _ (subst (λ (bs : List BlockInfo). c.loop-block.block-index < length bs) c.blocks-blocks.ensures c.loop-block-test.true) in
    rw (c.loop-block.invariant.from, c.blocks-blocks.ensures) at.1

pub put-requires-clause-last : goal.put-requires-clause-last
put-requires-clause-last c =
    let s = c.args.setting.now in
    let at = can_be_put s.header c.args.k c.args.column.now c.requires.is c.loop-block.block-index _ (subst (λ (bs : List BlockInfo). c.loop-block.block-index < length bs) c.blocks-blocks.ensures c.loop-block-test.true) in
    rw (c.loop-block.invariant.to, c.blocks-blocks.ensures) at.2

pub loop-block-preserved : goal.loop-block-preserved
loop-block-preserved c =
    let at = c.loop-block in
    rw c.put.ensures (record {
      rows = at.invariant.rows;
      from = at.invariant.from;
      to = at.invariant.to;
      room = omega (arith, at.invariant.room, c.loop-block-test.true);
      blocks = grown c.blocks-blocks.result.now at.grid.blocks at.block-index _ at.invariant.blocks c.loop-block-test.true;
    })

pub returns-clause-is : goal.returns-clause-is
returns-clause-is c =
    let s = c.args.setting.now in
    let at = c.loop-block in
    let blocks : at.grid.blocks ≡ c.args.column.now.grid.blocks =
    at.invariant.blocks ∙ take_all at.block-index c.blocks-blocks.result.now (omega (arith, c.loop-block-test.false)) ∙ c.blocks-blocks.ensures in
    is_copied s.header c.args.k c.args.column.now _ c.requires.below c.requires.is (at.invariant.rows ∙ rows_are s) at.invariant.from at.invariant.to blocks (rw (sym c.shape.ensures) c.in_ok-new.ensures.fit)

pub returns-clause-blocks : goal.returns-clause-blocks
returns-clause-blocks c =
    let at = c.loop-block in
    at.invariant.blocks ∙ take_all at.block-index c.blocks-blocks.result.now (omega (arith, c.loop-block-test.false)) ∙ c.blocks-blocks.ensures
