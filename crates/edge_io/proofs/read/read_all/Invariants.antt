use Rattle.std.proofs.Common.{◌≡◌, ◌-◌, ◌<◌, ◌^◌, length}
use Rattle.edge_io.specs.SourceReading.{Gave}
use Rattle.edge_io.proofs.read.read_all.Given as goal

-- the bytes so far were given, and nothing failed
abbrev pub invariant-pieces : goal.invariant-pieces
invariant-pieces g l =
    record {
      room : 0 < length l.piece;
      gave : Gave (g.S.Source.rest l.fn.source) (g.S.Source.rest l.source) l.all.items;
      faults : g.S.Source.faults l.source ≡ g.S.Source.faults l.fn.source;
      again : g.S.Source.can_fill l.source;
    }

abbrev pub decreases-pieces : goal.decreases-pieces
decreases-pieces g l = 2 ^ 63 - g.S.Source.given l.source
