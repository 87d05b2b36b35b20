use Rattle.std.proofs.Common.{rules, ◌≡◌, ◌<◌, ◌≤◌, length, [], ◌++◌, take, refl, ap, ◌∙◌, arith, length-append}
use Rattle.std.specs.Prelude.{Err}
use Rattle.std.proofs.lemmas.Result.{err_from_is_err_and}
use Rattle.byteorder.specs.Endian.{little_number}
use Rattle.ivf_container.specs.Packets.{size_at}
use Rattle.packet_reader.proofs.PacketLemmas.{no_next, cut_short, no_payload, size_stays, packet_is, packet_alone, gave_both, gave_last, refused_next}
use Rattle.packet_reader.proofs.packets.take_packet.Goals as goal

pub returns-in_err-fill_up-clause-bytes : goal.returns-in_err-fill_up-clause-bytes
returns-in_err-fill_up-clause-bytes g c =
    let rest = g.S.Source.rest in
    let p = err_from_is_err_and c.from_residual.result c.from_residual.ensures.1 in
    let f = c.in_err-fill_up.ensures.bytes in
    rw (p.1 ∙ ap Err p.2) (refused_next c.in_err-fill_up.field-0.0 (rest c.args.source.now) (rest c.fill_up.new.source) f.0 f.1 (no_payload f.0 (omega (arith, f.2))))

pub returns-then-is_empty-clause-bytes : goal.returns-then-is_empty-clause-bytes
returns-then-is_empty-clause-bytes g c =
    let rest = g.S.Source.rest in
    let f = c.in_ok-fill_up.ensures.bytes in
    let none : length c.fill_up.new.all.items ≡ 0 = search rules in
    let ended = f.4 (omega (arith, none)) in
    λ bytes told. (
      f.0,
      [],
      gave_last (rest c.args.source.now) (rest c.fill_up.new.source) f.0 bytes f.2 ended told,
      ended bytes told,
      (no_next f.0 (omega (arith, none, ap length f.1, length-append c.new-head.result.items f.0)), refl),
    )

pub returns-then-len-lt-PACKET_HEADER-clause-bytes :
    goal.returns-then-len-lt-PACKET_HEADER-clause-bytes
returns-then-len-lt-PACKET_HEADER-clause-bytes g c =
    let rest = g.S.Source.rest in
    let f = c.in_ok-fill_up.ensures.bytes in
    let is : c.fill_up.new.all.items ≡ f.0 = f.1 ∙ ap (λ xs. xs ++ f.0) c.new-head.ensures.items in
    let some : 0 < length c.fill_up.new.all.items = search rules in
    let short : length c.fill_up.new.all.items < 12 = search rules in
    let ended = f.4 short in
    let long = length-append f.0 [] in
    λ bytes told. (
      f.0,
      [],
      gave_last (rest c.args.source.now) (rest c.fill_up.new.source) f.0 bytes f.2 ended told,
      ended bytes told,
      cut_short (f.0 ++ []) (omega (arith, some, ap length is, long)) (omega (arith, short, ap length is, long)),
    )

pub returns-in_err-fill_up-2-clause-bytes : goal.returns-in_err-fill_up-2-clause-bytes
returns-in_err-fill_up-2-clause-bytes g c =
    let rest = g.S.Source.rest in
    let p = err_from_is_err_and c.from_residual-in_err-fill_up-2.result c.from_residual-in_err-fill_up-2.ensures.1 in
    let f = c.in_ok-fill_up.ensures.bytes in
    let k = c.in_err-fill_up-2.ensures.bytes in
    let is : c.fill_up.new.all.items ≡ f.0 = f.1 ∙ ap (λ xs. xs ++ f.0) c.new-head.ensures.items in
    let twelve : 12 ≤ length c.fill_up.new.all.items = search rules in
    let says : c.read_u32-size.result ≡ size_at f.0 0 = c.read_u32-size.ensures ∙ ap (λ xs. little_number 4 (take 4 xs)) (c.deref.ensures.value ∙ is) in
    let size = size_stays f.0 k.0 (omega (arith, twelve, ap length is)) in
    rw (p.1 ∙ ap Err p.2) (refused_next c.in_err-fill_up-2.field-0.0 (rest c.args.source.now) (rest c.fill_up-2.new.source) (f.0 ++ k.0)
    (gave_both (rest c.args.source.now) (rest c.fill_up.new.source) (rest c.fill_up-2.new.source) f.0 k.0 f.2 k.1)
    (no_payload (f.0 ++ k.0) (omega (arith, f.3, ap length is, size, says, k.2, length-append f.0 k.0))))

pub returns-then-len-size-clause-bytes : goal.returns-then-len-size-clause-bytes
returns-then-len-size-clause-bytes g c =
    let rest = g.S.Source.rest in
    let f = c.in_ok-fill_up.ensures.bytes in
    let k = c.in_ok-fill_up-2.ensures.bytes in
    let is : c.fill_up.new.all.items ≡ f.0 = f.1 ∙ ap (λ xs. xs ++ f.0) c.new-head.ensures.items in
    let also : c.fill_up-2.new.all.items ≡ k.0 = k.1 ∙ ap (λ xs. xs ++ k.0) c.new-payload.ensures.items in
    let twelve : 12 ≤ length c.fill_up.new.all.items = search rules in
    let short : length c.fill_up-2.new.all.items < c.read_u32-size.result = search rules in
    let says : c.read_u32-size.result ≡ size_at f.0 0 = c.read_u32-size.ensures ∙ ap (λ xs. little_number 4 (take 4 xs)) (c.deref.ensures.value ∙ is) in
    let all = f.0 ++ k.0 in
    let size = size_stays f.0 k.0 (omega (arith, twelve, ap length is)) in
    let more = size_stays all [] (omega (arith, twelve, ap length is, length-append f.0 k.0)) in
    let gave = gave_both (rest c.args.source.now) (rest c.fill_up.new.source) (rest c.fill_up-2.new.source) f.0 k.0 f.2 k.2 in
    λ bytes told. let ended = k.4 short (f.2 bytes told).0 (f.2 bytes told).2 in (
      all,
      [],
      gave_last (rest c.args.source.now) (rest c.fill_up-2.new.source) all bytes gave (λ bytes told. k.4 short (f.2 bytes told).0 (f.2 bytes told).2) told,
      ended,
      cut_short (all ++ []) (omega (arith, twelve, ap length is, length-append all [], length-append f.0 k.0))
          (omega (arith, f.3, ap length is, ap length also, size, more, says, short, length-append all [], length-append f.0 k.0)),
    )

pub returns-clause-bytes : goal.returns-clause-bytes
returns-clause-bytes g c =
    let rest = g.S.Source.rest in
    let f = c.in_ok-fill_up.ensures.bytes in
    let k = c.in_ok-fill_up-2.ensures.bytes in
    let is : c.fill_up.new.all.items ≡ f.0 = f.1 ∙ ap (λ xs. xs ++ f.0) c.new-head.ensures.items in
    let also : c.fill_up-2.new.all.items ≡ k.0 = k.1 ∙ ap (λ xs. xs ++ k.0) c.new-payload.ensures.items in
    let twelve : 12 ≤ length c.fill_up.new.all.items = search rules in
    let enough : c.read_u32-size.result ≤ length c.fill_up-2.new.all.items = search rules in
    let says : c.read_u32-size.result ≡ size_at f.0 0 = c.read_u32-size.ensures ∙ ap (λ xs. little_number 4 (take 4 xs)) (c.deref.ensures.value ∙ is) in
    let long : length f.0 ≡ 12 = omega (arith, f.3, twelve, ap length is) in
    let size : size_at f.0 0 ≡ length k.0 = omega (arith, says, enough, k.3, ap length also) in
    let gave = gave_both (rest c.args.source.now) (rest c.fill_up.new.source) (rest c.fill_up-2.new.source) f.0 k.0 f.2 k.2 in
    rw also (λ bytes told. let h = gave bytes told in (f.0 ++ k.0, h.0, h.1, h.2, (packet_alone f.0 k.0 long size, packet_is f.0 k.0 h.0 long size)))
