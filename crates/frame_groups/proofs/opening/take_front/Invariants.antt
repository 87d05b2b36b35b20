use Rattle.std.proofs.Common.{◌+◌, ◌-◌, ◌≡◌, ◌<◌, ◌≤◌, ◌^◌, take}
use Rattle.edge_io.specs.SourceReading.{Gave}
use Rattle.frame_groups.proofs.opening.take_front.Given as goal

-- the first bytes are in the buffer, and nothing failed
abbrev pub invariant-pieces : goal.invariant-pieces
invariant-pieces g l =
    record {
      few : l.at ≤ 4;
      gave : Gave (g.S.Source.rest l.initial.source) (g.S.Source.rest l.source) (take l.at l.front);
      given : g.S.Source.given l.source ≡ g.S.Source.given l.initial.source + l.at;
      most : 0 < l.at → g.S.Source.given l.source < 2 ^ 63;
      faults : g.S.Source.faults l.source ≡ g.S.Source.faults l.initial.source;
      again : g.S.Source.can_fill l.source;
    }

abbrev pub decreases-pieces : goal.decreases-pieces
decreases-pieces g l = 4 - l.at
