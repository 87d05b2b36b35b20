use Rattle.std.proofs.Common.{◌∙◌, refl}
use Rattle.stream_decoder.proofs.TurnLemmas.{begun_at, first_may, first_way}
use Rattle.stream_decoder.proofs.packets.decode_packets.Goals as goal

pub turns-init : goal.turns-init
turns-init g c = record {
  way = first_way c.args.format g.S.Source.rest g.S.Source.faults g.K.Sink.taken g.K.Sink.faults c.args.reader c.none.result c.args.sink c.requires.stage c.none.ensures.frames c.none.ensures.past;
  may = first_may c.args.format g.S.Source.can_fill g.K.Sink.can_put c.args.reader c.none.result c.args.sink c.requires.stage c.requires.source c.requires.sink c.none.ensures.past;
  grows = refl;
}

pub returns-in-Over-clause-decodes : goal.returns-in-Over-clause-decodes
returns-in-Over-clause-decodes g c =
    c.in-Over.ensures.turns (begun_at g.S.Source.rest g.S.Source.faults g.K.Sink.taken g.K.Sink.faults c.args.reader c.args.sink) c.requires.ivf c.turns.invariant.way

pub turns-preserved : goal.turns-preserved
turns-preserved g c = record {
  way = c.in-On.ensures.turns (begun_at g.S.Source.rest g.S.Source.faults g.K.Sink.taken g.K.Sink.faults c.args.reader c.args.sink) c.requires.ivf c.turns.invariant.way;
  may = c.in-On.ensures.again;
  grows = c.in-On.ensures.grows ∙ c.turns.invariant.grows;
}
