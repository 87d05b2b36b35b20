use Rattle.std.proofs.Common.{◌≡◌, ◌∙◌, ap, map, replicate, arith}
use Rattle.frame_headers.specs.HeaderState.{shape_of}
use Rattle.frame_state.specs.Code.{column_as_listed}
use Rattle.frame_state.specs.FrameReading.{no_column}
use Rattle.frame_state.proofs.ColumnSteps.{one_begun, none_begun, tile_columns}
use Rattle.frame_state.proofs.columns.TileColumn.new_all.Goals as goal

pub loop-k-init : goal.loop-k-init
loop-k-init c = record { begun = rw c.in_ok-columns.ensures.items (none_begun c.args.setting.now.header); room = omega (arith, c.in_ok-columns.ensures.capacity) }

pub push_reserved-requires : goal.push_reserved-requires
push_reserved-requires c = omega (arith, c.loop-k.invariant.begun.many, c.loop-k.invariant.room, c.loop-k-test.true)

pub loop-k-preserved : goal.loop-k-preserved
loop-k-preserved c = record {
  begun = one_begun c.args.setting.now.header c.loop-k.k c.loop-k.columns.items c.push_reserved.new.self.items c.in_ok-new.field-0 c.push_reserved.ensures.items
      c.loop-k.invariant.begun c.in_ok-new.ensures.is c.in_ok-new.ensures.start;
  room = omega (arith, c.push_reserved.ensures.capacity, c.loop-k.invariant.room);
}

pub returns-clause-are : goal.returns-clause-are
returns-clause-are c = tile_columns c.args.setting.now.header c.loop-k.k c.loop-k.columns.items (omega arith) c.loop-k.invariant.begun

pub returns-clause-start : goal.returns-clause-start
returns-clause-start c =
    let all : c.loop-k.k ≡ c.columns-count.result = omega arith in
    c.loop-k.invariant.begun.told ∙ ap (λ n. map column_as_listed (replicate n (no_column (shape_of c.args.setting.now.header)))) (all ∙ c.columns-count.ensures)
