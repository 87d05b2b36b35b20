use Rattle.std.proofs.Common.{◌≡◌, [], ap, sym, ◌∙◌, inl, inr}
use Rattle.std.specs.Prelude.{Err, Ok}
use Rattle.std.proofs.lemmas.Result.{err_from_is_err_and}
use Rattle.ivf_container.specs.Packets.{header_end, frame_rate_of}
use Rattle.packet_reader.proofs.PacketLemmas.{gave_last}
use Rattle.packet_reader.proofs.HeaderLemmas.{enough_fails, enough_is, fails_alone, never_short, refused_header}
use Rattle.packet_reader.specs.TakenPackets.{with_front}
use Rattle.packet_reader.proofs.packets.pass_header.Goals as goal

pub returns-in_err-header-clause-bytes : goal.returns-in_err-header-clause-bytes
returns-in_err-header-clause-bytes g c =
    let rest = g.S.Source.rest in
    let p = err_from_is_err_and c.from_residual.result c.from_residual.ensures.1 in
    let f = c.in_err-header.ensures.bytes in
    rw (p.1 ∙ ap Err p.2) (refused_header c.in_err-header.field-0.0 (with_front c.args.begun.now (rest c.args.source.now)) (rest c.take_header.new.source) f.0 f.1 f.2)

pub returns-in_err-read_header-clause-bytes : goal.returns-in_err-read_header-clause-bytes
returns-in_err-read_header-clause-bytes g c =
    let rest = g.S.Source.rest in
    let p = err_from_is_err_and c.from_residual-in_err-read_header.result c.from_residual-in_err-read_header.ensures.1 in
    let f = c.in_ok-header.ensures.bytes in
    let header = c.in_ok-header.header.items in
    let e = c.in_err-read_header.field-0.0 in
    let fails : header_end header ≡ Err e = ap header_end (sym c.deref.ensures.value) ∙ sym c.in_err-read_header.ensures.exact in
    rw (p.1 ∙ ap Err p.2) (λ bytes told. let h = f.0 bytes told in elim f.1 [
      | inl enough ↦ (header, h.0, h.1, h.2, enough_fails header h.0 e enough fails)
      | inr short ↦
          (header, [], gave_last (with_front c.args.begun.now (rest c.args.source.now)) (rest c.take_header.new.source) header bytes f.0 short.1 told, short.1 bytes told, fails_alone header e fails)
    ])

pub returns-clause-bytes : goal.returns-clause-bytes
returns-clause-bytes g c =
    let f = c.in_ok-header.ensures.bytes in
    let header = c.in_ok-header.header.items in
    let passes : header_end header ≡ Ok c.in_ok-read_header.field-0 = ap header_end (sym c.deref.ensures.value) ∙ sym c.in_ok-read_header.ensures.exact in
    let rate : c.rate.result ≡ frame_rate_of header = c.rate.ensures ∙ ap frame_rate_of c.deref-2.ensures.value in
    λ bytes told. let h = f.0 bytes told in elim f.1 [
      | inl enough ↦ (header, h.0, h.1, h.2, (enough_is header c.in_ok-read_header.field-0 enough passes, rate))
      | inr short ↦ (header, h.0, h.1, h.2, (never_short header c.in_ok-read_header.field-0 short.0 passes, rate))
    ]
