use Rattle.std.proofs.Common.{take, drop}
use Rattle.frame_headers.specs.Filter.{coded_delta}
use Rattle.std.specs.Prelude.{flat_map, zip}
use Rattle.header_writer.specs.Code.{EachLeft, HasPut}
use Rattle.header_writer.proofs.Spells.{spelled_pair}
use Rattle.header_writer.proofs.filter.put_deltas.Given as goal

abbrev pub invariant-loop-i : goal.invariant-loop-i
invariant-loop-i l = record {
  puts : EachLeft (coded_delta l.update l.name) l.olds l.fn.bits (take l.i l.deltas) (drop l.i l.olds) l.bits;
  spells : HasPut l.fn.bits (flat_map spelled_pair (take l.i (zip l.olds l.deltas))) l.bits;
}
