use Rattle.frame_headers.proofs.SlotLemmas.{IsRefreshed}
use Rattle.frame_headers.proofs.persist.refresh_slots.Given as goal

abbrev pub invariant-loop-i : goal.invariant-loop-i
invariant-loop-i g l = IsRefreshed l.refresh l.frame l.initial.slots l.i l.flags l.slots
