use Rattle.std.proofs.Common.{◌≡◌, ◌+◌, ◌-◌, ◌*◌, ◌^◌, ◌≤◌, length}
use Rattle.bool_encoder.specs.Code.{be_number}
use Rattle.bool_encoder.proofs.bytes.carry.Given as goal

abbrev pub invariant-loop-at : goal.invariant-loop-at
invariant-loop-at l = record {
  within : l.at ≤ length l.bytes;
  number : be_number l.bytes + 2 ^ (8 * (length l.bytes - l.at)) ≡ be_number l.fn.bytes + 1;
}

abbrev pub decreases-loop-at : goal.decreases-loop-at
decreases-loop-at l = l.at
