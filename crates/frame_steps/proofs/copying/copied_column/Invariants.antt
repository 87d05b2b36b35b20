use Rattle.std.proofs.Common.{◌≡◌, ◌+◌, length, take}
use Rattle.recon_rows.specs.column_order.ColumnStrips.{column_from}
use Rattle.frame_steps.proofs.copying.copied_column.Given as goal

abbrev pub invariant-loop-block : goal.invariant-loop-block
invariant-loop-block l = record {
  rows : l.grid.rows ≡ l.setting.places.rows;
  from : l.grid.from ≡ column_from l.setting.header l.k;
  to : l.grid.to ≡ column_from l.setting.header (l.k + 1);
  room : l.grid.room + l.block-index ≡ length l.blocks;
  blocks : l.grid.blocks ≡ take l.block-index l.blocks;
}
