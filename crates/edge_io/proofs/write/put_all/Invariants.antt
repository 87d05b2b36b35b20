use Rattle.std.proofs.Common.{◌≡◌, ◌-◌, ◌≤◌, length, take}
use Rattle.edge_io.specs.Putting.{Takes}
use Rattle.edge_io.proofs.write.put_all.Given as goal

-- the sink has taken the bytes so far, and nothing failed
abbrev pub invariant-loop-at : goal.invariant-loop-at
invariant-loop-at g l =
    record {
      within : l.at ≤ length l.piece;
      taken : Takes (g.K.Sink.taken l.fn.sink) (g.K.Sink.taken l.sink) (take l.at l.piece);
      faults : g.K.Sink.faults l.sink ≡ g.K.Sink.faults l.fn.sink;
      grows : g.K.Sink.grows l.sink ≡ g.K.Sink.grows l.fn.sink;
      again : g.K.Sink.can_put l.sink;
    }

abbrev pub decreases-loop-at : goal.decreases-loop-at
decreases-loop-at g l = length l.piece - l.at
