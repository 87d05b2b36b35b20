use Rattle.std.proofs.Common.{◌∙◌, ap}
use Rattle.std.specs.Prelude.{Err}
use Rattle.std.proofs.lemmas.Result.{err_from_is_err_and}
use Rattle.packet_reader.proofs.HeaderLemmas.{no_first, takes_first, tells_first, tells_none}
use Rattle.packet_reader.specs.TakenPackets.{with_front}
use Rattle.packet_reader.proofs.packets.take_first.Goals as goal

pub returns-clause-bytes : goal.returns-clause-bytes
returns-clause-bytes g c =
    let rest = g.S.Source.rest in
    takes_first (with_front c.args.begun.now (rest c.args.source.now)) (rest c.pass_header.new.source) (rest c.take_packet.new.source) c.in_ok-told.field-0 c.take_packet.result c.in_ok-told.ensures.bytes c.take_packet.ensures.bytes

pub returns-clause-rate : goal.returns-clause-rate
returns-clause-rate g c =
    let rest = g.S.Source.rest in
    tells_first (with_front c.args.begun.now (rest c.args.source.now)) (rest c.pass_header.new.source) c.args.told.now c.in_ok-told.field-0 c.take_packet.result c.in_ok-told.ensures.bytes

pub returns-in_err-told-clause-bytes : goal.returns-in_err-told-clause-bytes
returns-in_err-told-clause-bytes g c =
    let rest = g.S.Source.rest in
    let p = err_from_is_err_and c.from_residual.result c.from_residual.ensures.1 in
    rw (p.1 ∙ ap Err p.2) (no_first (with_front c.args.begun.now (rest c.args.source.now)) (rest c.pass_header.new.source) c.in_err-told.field-0.0 c.in_err-told.ensures.bytes)

pub returns-in_err-told-clause-rate : goal.returns-in_err-told-clause-rate
returns-in_err-told-clause-rate g c =
    let rest = g.S.Source.rest in
    let p = err_from_is_err_and c.from_residual.result c.from_residual.ensures.1 in
    rw (p.1 ∙ ap Err p.2) (tells_none (with_front c.args.begun.now (rest c.args.source.now)) (rest c.pass_header.new.source) c.args.told.now c.in_err-told.field-0.0 c.in_err-told.ensures.bytes)
