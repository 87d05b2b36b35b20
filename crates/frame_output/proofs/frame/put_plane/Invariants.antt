use Rattle.std.proofs.Common.{◌≡◌, ◌-◌, ◌≤◌}
use Rattle.edge_io.specs.Putting.{Takes}
use Rattle.frame_output.specs.Texts.{rows_text}
use Rattle.frame_output.proofs.frame.put_plane.Given as goal

-- the sink has taken the rows so far, and nothing failed
abbrev pub invariant-loop-y : goal.invariant-loop-y
invariant-loop-y g l =
    record {
      within : l.y ≤ l.height;
      taken : Takes (g.K.Sink.taken l.fn.sink) (g.K.Sink.taken l.sink) (rows_text l.shape.depth l.width (g.S.Samples.map l.samples l.plane) 0 l.y);
      faults : g.K.Sink.faults l.sink ≡ g.K.Sink.faults l.fn.sink;
      grows : g.K.Sink.grows l.sink ≡ g.K.Sink.grows l.fn.sink;
      again : g.K.Sink.can_put l.sink;
    }

abbrev pub decreases-loop-y : goal.decreases-loop-y
decreases-loop-y g l = l.height - l.y
