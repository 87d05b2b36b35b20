use Rattle.std.proofs.Common.{◌≡◌, ℕ, length, List, ◌++◌, ap, subst, ◌∙◌, arith, inl, inr, length-append}
use Rattle.std.proofs.lemmas.Bool.{cases_lt}
use Rattle.std.proofs.lemmas.Result.{err_from_is_err_and}
use Rattle.packet_reader.specs.Code.{IsShort}
use Rattle.packet_reader.specs.TakenPackets.{with_front}
use Rattle.packet_reader.proofs.PacketLemmas.{gave_behind, gave_both, ended_behind, ended_still}
use Rattle.packet_reader.proofs.HeaderLemmas.{IsWhole, cut_header, whole_header}
use Rattle.packet_reader.proofs.packets.take_header.Goals as goal

pub returns-in_err-fill_up-clause-bytes : goal.returns-in_err-fill_up-clause-bytes
returns-in_err-fill_up-clause-bytes g c =
    let rest = g.S.Source.rest in
    let begun = c.args.begun.now in
    let f = c.in_err-fill_up.ensures.bytes in
    let start : c.extend_from_slice.new.self.items ≡ begun = c.in_ok-extend_from_slice.ensures.items ∙ ap (λ xs. xs ++ begun) c.new-header.ensures.items in
    let p = err_from_is_err_and c.from_residual-in_err-fill_up.result c.from_residual-in_err-fill_up.ensures.1 in
    rw p.1 (
      begun ++ f.0,
      gave_behind begun (rest c.args.source.now) (rest c.fill_up.new.source) f.0 f.1,
      inl (omega (arith, f.2, ap length start, length-append begun f.0)),
    )

pub returns-in_err-fill_up-2-clause-bytes : goal.returns-in_err-fill_up-2-clause-bytes
returns-in_err-fill_up-2-clause-bytes g c =
    let rest = g.S.Source.rest in
    let begun = c.args.begun.now in
    let old = with_front begun (rest c.args.source.now) in
    let f = c.in_ok-fill_up.ensures.bytes in
    let k = c.in_err-fill_up-2.ensures.bytes in
    let start : c.extend_from_slice.new.self.items ≡ begun = c.in_ok-extend_from_slice.ensures.items ∙ ap (λ xs. xs ++ begun) c.new-header.ensures.items in
    let is : c.fill_up.new.all.items ≡ begun ++ f.0 = f.1 ∙ ap (λ xs. xs ++ f.0) start in
    let gave = gave_behind begun (rest c.args.source.now) (rest c.fill_up.new.source) f.0 f.2 in
    let w = c.whole_header-whole.ensures in
    let said : IsWhole c.deref.result.now c.whole_header-whole.result = record { order = w.order; said = w.said; signed = w.signed } in
    let whole = subst (λ (xs : List ℕ). IsWhole xs c.whole_header-whole.result) (c.deref.ensures.value ∙ is) said in
    let p = err_from_is_err_and c.from_residual-in_err-fill_up-2.result c.from_residual-in_err-fill_up-2.ensures.1 in
    rw p.1 (
      (begun ++ f.0) ++ k.0,
      gave_both old (rest c.fill_up.new.source) (rest c.fill_up-2.new.source) (begun ++ f.0) k.0 gave k.1,
      cut_header (begun ++ f.0) k.0 c.whole_header-whole.result whole (omega (arith, ap length is, k.2)),
    )

pub returns-clause-bytes : goal.returns-clause-bytes
returns-clause-bytes g c =
    let rest = g.S.Source.rest in
    let begun = c.args.begun.now in
    let old = with_front begun (rest c.args.source.now) in
    let f = c.in_ok-fill_up.ensures.bytes in
    let k = c.in_ok-fill_up-2.ensures.bytes in
    let start : c.extend_from_slice.new.self.items ≡ begun = c.in_ok-extend_from_slice.ensures.items ∙ ap (λ xs. xs ++ begun) c.new-header.ensures.items in
    let first = begun ++ f.0 in
    let is : c.fill_up.new.all.items ≡ begun ++ f.0 = f.1 ∙ ap (λ xs. xs ++ f.0) start in
    let gave = gave_behind begun (rest c.args.source.now) (rest c.fill_up.new.source) f.0 f.2 in
    let w = c.whole_header-whole.ensures in
    let said : IsWhole c.deref.result.now c.whole_header-whole.result = record { order = w.order; said = w.said; signed = w.signed } in
    let whole = subst (λ (xs : List ℕ). IsWhole xs c.whole_header-whole.result) (c.deref.ensures.value ∙ is) said in
    let all : c.fill_up-2.new.all.items ≡ first ++ k.0 = k.1 ∙ ap (λ xs. xs ++ k.0) is in
    rw all (
      gave_both old (rest c.fill_up.new.source) (rest c.fill_up-2.new.source) first k.0 gave k.2,
      elim (cases_lt (length first) 32) [
        | inl few ↦
            let short : IsShort (first ++ k.0) = elim whole.said [
              | inl same ↦ inl (omega (arith, few, same, k.3, ap length all))
              | inr said ↦ absurd (omega (arith, few, said.0))
            ] in
            let ended = ended_behind begun (rest c.args.source.now) (rest c.fill_up.new.source) (f.4 (omega (arith, few, ap length is))) in
            inr (short, ended_still old (rest c.fill_up.new.source) (rest c.fill_up-2.new.source) first k.0 gave ended k.2)
        | inr long ↦ elim (whole_header first k.0 c.whole_header-whole.result whole long (omega (arith, k.3, ap length all))) [
          | inl enough ↦ inl enough
          | inr cut ↦ inr (cut.0, λ bytes told. k.4 (omega (arith, cut.1, ap length all)) (gave bytes told).0 (gave bytes told).2)
        ]
      ],
    )
