use Rattle.std.proofs.Common.{◌≡◌, ◌≤◌, ◌-◌, ◌/◌, ◌^◌, ◌++◌}
use Rattle.vp9_types.specs.Bits.{spelled}
use Rattle.header_writer.proofs.bits.BitWriter.field.Given as goal

abbrev pub invariant-loop-left : goal.invariant-loop-left
invariant-loop-left l = record {
  within : l.left ≤ l.width;
  put : l.self ≡ l.fn.self ++ spelled (l.width - l.left) (l.value / 2 ^ l.left);
}

abbrev pub decreases-loop-left : goal.decreases-loop-left
decreases-loop-left l = l.left
