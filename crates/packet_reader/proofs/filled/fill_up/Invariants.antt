use Rattle.std.proofs.Common.{◌≡◌, ◌-◌, ◌≤◌, ◌++◌, ℕ, List, length}
use Rattle.edge_io.specs.SourceReading.{Gave}
use Rattle.packet_reader.proofs.filled.fill_up.Given as goal

-- a front was given, and nothing failed
abbrev pub invariant-pieces : goal.invariant-pieces
invariant-pieces g l =
    record {
      few : length l.all.items ≤ l.n;
      gave : (front : List ℕ) × (l.all.items ≡ l.initial.all.items ++ front) × Gave (g.S.Source.rest l.initial.source) (g.S.Source.rest l.source) front;
      faults : g.S.Source.faults l.source ≡ g.S.Source.faults l.initial.source;
      again : g.S.Source.can_fill l.source;
    }

abbrev pub decreases-pieces : goal.decreases-pieces
decreases-pieces g l = l.n - length l.all.items
