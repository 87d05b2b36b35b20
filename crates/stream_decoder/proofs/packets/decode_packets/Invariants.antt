use Rattle.std.proofs.Common.{◌≡◌}
use Rattle.stream_decoder.proofs.TurnLemmas.{begun_at}
use Rattle.stream_decoder.specs.Code.{MayGoOn, OnWay}
use Rattle.stream_decoder.proofs.packets.decode_packets.Given as goal

-- the decode is on its way
abbrev pub invariant-turns : goal.invariant-turns
invariant-turns g l =
    record {
      way : OnWay l.fn.format (begun_at g.S.Source.rest g.S.Source.faults g.K.Sink.taken g.K.Sink.faults l.fn.reader l.fn.sink) g.S.Source.rest g.S.Source.faults g.K.Sink.taken g.K.Sink.faults l.way;
      may : MayGoOn l.fn.format g.S.Source.can_fill g.K.Sink.can_put l.way;
      grows : g.K.Sink.grows l.way.sink ≡ g.K.Sink.grows l.fn.sink;
    }
