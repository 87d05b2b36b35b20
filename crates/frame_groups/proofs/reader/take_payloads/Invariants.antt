use Rattle.std.proofs.Common.{◌≡◌}
use Rattle.packet_reader.specs.TakenPackets.{ahead, source_of, stage_of}
use Rattle.frame_groups.specs.Code.{AddsGroup}
use Rattle.frame_groups.specs.Groups.{CountsGroup, NoneBegun, StandsBehind}
use Rattle.frame_groups.proofs.reader.take_payloads.Given as goal

-- what was taken so far is a group
abbrev pub invariant-packets : goal.invariant-packets
invariant-packets g l =
    record {
      group : AddsGroup l.fn.reader l.reader g.S.Source.rest l.fn.payloads.items l.payloads.items l.behind;
      begun : NoneBegun l.behind (ahead g.S.Source.rest l.reader) (g.S.Source.rest (source_of l.reader));
      stage : StandsBehind l.behind (stage_of l.reader) (g.S.Source.can_fill (source_of l.reader));
      faults : CountsGroup (g.S.Source.faults (source_of l.fn.reader)) (g.S.Source.faults (source_of l.reader)) l.behind;
      again : g.S.Source.faults (source_of l.reader) ≡ g.S.Source.faults (source_of l.fn.reader) → g.S.Source.can_fill (source_of l.reader);
    }
