use Rattle.std.proofs.Common.{◌∙◌, sym, ap, subst, inl, inr, arith}
use Rattle.std.specs.Prelude.{nat_eq}
use Rattle.drawn_frames.specs.Heads.{draw_head}
use Rattle.seq_decoder.specs.Code.{StandsFor}
use Rattle.seq_decoder.specs.DecoderState.{State}
use Rattle.seq_decoder.specs.declared.form.OutputForm.{OutputForm}
use Rattle.stream_forge.specs.Code.{IsMadeAfter, Passes}
use Rattle.stream_forge.specs.FileReads.{IsMadeFrame}
use Rattle.stream_forge.proofs.DrawnReads.{frame_steps}
use Rattle.stream_forge.proofs.MadeFrames.{file_is}
use Rattle.stream_forge.proofs.Streams.{all_made, ends_here, frame_breaks, frame_made, if_ended, none_made, not_written, one_made, persists}
use Rattle.stream_forge.proofs.stream.make_stream.Goals as goal

pub loop-n-init : goal.loop-n-init
loop-n-init c = record {
  may = c.new-decoder.ensures.may;
  raw = ap (λ (f : OutputForm). f.format) c.new-decoder.ensures.form;
  made = λ later. let no : ⊥ = cc in absurd no;
  far = none_made c.args.number c.args.frames c.new-decoder.result _ c.write_header.new.out.items c.new-out.result.items c.new-decoder.ensures.stands c.from.ensures c.in_ok-write_header.ensures.put c.new-out.ensures.items;
}

pub pass-requires-clause-steps : goal.pass-requires-clause-steps
pass-requires-clause-steps c =
    let far = c.loop-n.invariant.far in
    let made = frame_made far.state _ _ _ c.in-Ok.written c.write_next-written.result.1.x (sym c.is_some.ensures ∙ c.if-is_some.false) (rw c.in-Ok.is at (c.write_next-written.ensures.gives far.state far.stands)) in
    (far.state, far.stands, rw (c.from-in-loop-n-2.ensures, c.deref-in-loop-n.ensures.value) (frame_steps c.loop-n.n far.state _ _ _ c.in-Ok.written.bytes.items c.write_next-written.result.1.x made))

pub loop-n-preserved : goal.loop-n-preserved
loop-n-preserved c =
    let bytes = c.in-Ok.written.bytes.items in
    let rest = c.write_next-written.result.1 in
    let gives : (state : State) → StandsFor c.loop-n.decoder state → IsMadeFrame c.loop-n.n state c.loop-n.draws.x bytes rest.x =
    λ state stands. frame_made state _ _ _ c.in-Ok.written rest.x (sym c.is_some.ensures ∙ c.if-is_some.false) (rw c.in-Ok.is at (c.write_next-written.ensures.gives state stands)) in
    let passes : Passes c.loop-n.n c.loop-n.decoder bytes c.pass.new.decoder = rw (c.from-in-loop-n-2.ensures, c.deref-in-loop-n.ensures.value) at c.in_ok-pass.ensures.passes in
    let far = c.loop-n.invariant.far in
    let after = subst (λ p. IsMadeAfter (draw_head (nat_eq c.loop-n.n 0) p c.loop-n.draws.x).0.header c.loop-n.decoder.persist) far.stands.persist c.write_next-written.ensures.after in
    record {
      may = c.in_ok-pass.ensures.may;
      raw = c.in_ok-pass.ensures.raw;
      made = λ later. persists c.args.number c.args.frames c.loop-n.n c.loop-n.decoder c.pass.new.decoder c.loop-n.draws rest c.loop-n.out.items bytes c.loop-n.invariant.far gives passes after;
      far = one_made c.args.number c.args.frames c.loop-n.n c.loop-n.decoder c.pass.new.decoder c.loop-n.draws rest c.loop-n.out.items c.write_packet.new.out.items bytes c.loop-n-test.true c.loop-n.invariant.far gives (omega (arith, c.if-len.false)) passes
          (rw (c.from-in-loop-n.ensures, c.deref.ensures.value) at c.in_ok-write_packet.ensures.put);
    }

pub returns-clause-read : goal.returns-clause-read
returns-clause-read c =
    all_made c.args.number c.args.frames c.loop-n.n c.loop-n.decoder c.loop-n.draws c.loop-n.out.items (omega (arith, c.loop-n-test.false)) c.loop-n.invariant.far

pub returns-clause-made : goal.returns-clause-made
returns-clause-made c = file_is c.args.number c.args.frames c.loop-n.out.items (returns-clause-read c)

pub returns-then-is_some-clause-read : goal.returns-then-is_some-clause-read
returns-then-is_some-clause-read c =
    ends_here c.args.number c.args.frames c.loop-n.n c.loop-n.decoder c.loop-n.draws c.loop-n.out.items c.loop-n-test.true c.loop-n.invariant.far
    (λ state stands. inl (frame_breaks state _ _ _ c.in-Ok.written c.write_next-written.result.1.x (sym c.is_some.ensures ∙ c.if-is_some.true) (rw c.in-Ok.is at (c.write_next-written.ensures.gives state stands))))

pub returns-then-is_some-clause-made : goal.returns-then-is_some-clause-made
returns-then-is_some-clause-made c = file_is c.args.number c.args.frames c.loop-n.out.items (returns-then-is_some-clause-read c)

pub returns-then-len-clause-read : goal.returns-then-len-clause-read
returns-then-len-clause-read c =
    ends_here c.args.number c.args.frames c.loop-n.n c.loop-n.decoder c.loop-n.draws c.loop-n.out.items c.loop-n-test.true c.loop-n.invariant.far
    (λ state stands. inr (
      c.in-Ok.written.bytes.items,
      c.write_next-written.result.1.x,
      frame_made state _ _ _ c.in-Ok.written c.write_next-written.result.1.x (sym c.is_some.ensures ∙ c.if-is_some.false) (rw c.in-Ok.is at (c.write_next-written.ensures.gives state stands)),
      omega (arith, c.if-len.true),
    ))

pub returns-then-len-clause-made : goal.returns-then-len-clause-made
returns-then-len-clause-made c = file_is c.args.number c.args.frames c.loop-n.out.items (returns-then-len-clause-read c)

pub returns-in-Err-clause-read : goal.returns-in-Err-clause-read
returns-in-Err-clause-read c =
    if_ended _ _ c.ended.result c.ended.ensures
    (λ file ends. rw ends.0 (ends_here c.args.number c.args.frames c.loop-n.n c.loop-n.decoder c.loop-n.draws c.loop-n.out.items c.loop-n-test.true c.loop-n.invariant.far
    (λ state stands. inl (not_written state _ _ _ c.write_next-written.result.0 c.in-Err.why c.write_next-written.result.1.x c.in-Err.is ends.1 (c.write_next-written.ensures.gives state stands)))))

pub returns-in-Err-clause-made : goal.returns-in-Err-clause-made
returns-in-Err-clause-made c = if_ended _ _ c.ended.result (returns-in-Err-clause-read c) (λ file read. file_is c.args.number c.args.frames file.items read)
