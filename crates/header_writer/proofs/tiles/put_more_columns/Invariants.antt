use Rattle.std.proofs.Common.{◌-◌, ◌≤◌}
use Rattle.std.specs.Prelude.{flat_map, replicate, true}
use Rattle.header_writer.specs.Code.{HasPut}
use Rattle.header_writer.specs.Spelling.{bit}
use Rattle.header_writer.proofs.TilePuts.{ColumnsLeft}
use Rattle.header_writer.proofs.tiles.put_more_columns.Given as goal

abbrev pub invariant-loop-now : goal.invariant-loop-now
invariant-loop-now l = record {
  from : l.least ≤ l.now;
  within : l.now ≤ l.log2;
  put : ColumnsLeft l.greatest l.least l.now l.fn.bits l.bits;
  spells : HasPut l.fn.bits (flat_map bit (replicate (l.now - l.least) true)) l.bits;
}

abbrev pub decreases-loop-now : goal.decreases-loop-now
decreases-loop-now l = l.log2 - l.now
