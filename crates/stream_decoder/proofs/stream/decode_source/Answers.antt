use Rattle.stream_decoder.proofs.Begins.{decodes_failed, decodes_ivf, decodes_short, decodes_webm}
use Rattle.stream_decoder.proofs.stream.decode_source.Goals as goal

pub returns-in-Webm-clause-decodes : goal.returns-in-Webm-clause-decodes
returns-in-Webm-clause-decodes g c =
    let rest = g.S.Source.rest in
    let count = g.S.Source.faults in
    let h = c.in-Webm.ensures in
    let looked = c.in-Webm.looked in
    let ran = c.decode_whole.result in
    decodes_webm c.args.format looked.front (rest c.args.source) (rest looked.source) (rest ran.source) (count c.args.source) (count looked.source) (count ran.source) (g.K.Sink.taken c.args.sink)
    (g.K.Sink.taken ran.sink) (g.K.Sink.faults c.args.sink) (g.K.Sink.faults ran.sink) ran.outcome h.bytes.1 h.faults c.decode_whole.ensures.decodes

pub returns-in-Ivf-clause-decodes : goal.returns-in-Ivf-clause-decodes
returns-in-Ivf-clause-decodes g c =
    let rest = g.S.Source.rest in
    let count = g.S.Source.faults in
    let h = c.in-Ivf.ensures in
    let looked = c.in-Ivf.looked in
    let ran = c.decode_packets.result in
    let reader = c.behind-reader.ensures in
    decodes_ivf c.args.format rest count c.behind-reader.result looked.source looked.front (rest c.args.source) (rest ran.source) (count c.args.source) (count ran.source) (g.K.Sink.taken c.args.sink)
    (g.K.Sink.taken ran.sink) (g.K.Sink.faults c.args.sink) (g.K.Sink.faults ran.sink) ran.outcome reader.source reader.begun h.bytes.1 h.faults c.decode_packets.ensures.decodes

pub returns-in-Short-clause-decodes : goal.returns-in-Short-clause-decodes
returns-in-Short-clause-decodes g c =
    let rest = g.S.Source.rest in
    let count = g.S.Source.faults in
    let h = c.in-Short.ensures in
    let source = c.in-Short.source in
    decodes_short c.args.format (rest c.args.source) (rest source) (count c.args.source) (count source) (g.K.Sink.taken c.args.sink) (g.K.Sink.faults c.args.sink) h.bytes h.faults

pub returns-in-Failed-clause-decodes : goal.returns-in-Failed-clause-decodes
returns-in-Failed-clause-decodes g c =
    let rest = g.S.Source.rest in
    let count = g.S.Source.faults in
    let h = c.in-Failed.ensures in
    let source = c.in-Failed.source in
    decodes_failed c.args.format (rest c.args.source) (rest source) (count c.args.source) (count source) (g.K.Sink.taken c.args.sink) (g.K.Sink.faults c.args.sink) h.bytes h.faults
