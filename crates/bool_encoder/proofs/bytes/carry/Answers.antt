use Rattle.std.proofs.Common.{◌-◌, arith}
use Rattle.std.proofs.Math.ListN.{length-set}
use Rattle.bool_encoder.proofs.Numbers.{carry_goes, carry_ends}
use Rattle.bool_encoder.proofs.bytes.carry.Goals as goal

pub loop-at-preserved : goal.loop-at-preserved
loop-at-preserved c = record {
  within = omega (arith, length-set c.loop-at.bytes (c.loop-at.at - 1) 0);
  number = carry_goes c.loop-at.bytes c.loop-at.at _ c.loop-at-test.true c.loop-at.invariant.within c.if-bytes-at.true c.loop-at.invariant.number;
}

pub returns-then-at-gt0 : goal.returns-then-at-gt0
returns-then-at-gt0 c =
    carry_ends c.loop-at.bytes c.loop-at.at _ c.if-at-gt0.true c.loop-at.invariant.within c.loop-at.invariant.number
