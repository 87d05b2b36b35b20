use Rattle.std.proofs.Common.{arith}
use Rattle.frame_headers.proofs.SlotLemmas.{slot_refreshed, all_refreshed}
use Rattle.frame_headers.proofs.persist.refresh_slots.Goals as goal

pub loop-i-preserved : goal.loop-i-preserved
loop-i-preserved g c =
    rw (c.slot_held.ensures, c.index-slots-i.is)
    (slot_refreshed c.args.refresh c.args.frame c.args.slots.now c.loop-i.i c.loop-i.flags c.loop-i.slots c.index-slots-i.result (omega arith) (omega arith) c.loop-i.invariant)

pub returns : goal.returns
returns g c = all_refreshed c.args.refresh c.args.frame c.args.slots.now c.loop-i.i c.loop-i.flags c.loop-i.slots (omega arith) (omega arith) c.loop-i.invariant
