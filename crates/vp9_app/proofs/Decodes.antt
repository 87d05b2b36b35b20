-- From how a decode ended to how the work of `decode` did.
use Rattle.std.proofs.Common.{◌≡◌, ap, sym, subst}
use Rattle.std.specs.Prelude.{false}
use Rattle.vp9_types.specs.declared.outcome.Outcome.{Outcome}
use Rattle.vp9_types.specs.declared.outcome.Outcome.TheVariants as outcome
use Rattle.command_words.specs.declared.command.DecodeOptions.{DecodeOptions}
use Rattle.stream_decoder.specs.Streams.{DecodesSource}
use Rattle.vp9_app.specs.declared.status.Status.{Status}
use Rattle.vp9_app.specs.ReadingCommands.{DecodesBy, DecodesSo, Streams}
use Rattle.vp9_app.specs.Seen.{OfSink, OfSource}
use Rattle.vp9_app.specs.Statuses.{decode_ended, status_of_ending}

-- a decode of a source, as it is seen
abbrev pub DecodesSeen : DecodeOptions → OfSource → OfSink → Outcome → Type 0
DecodesSeen options s o outcome = DecodesSource options.format s.rest s.left s.faults s.faults_now o.before o.after o.faults o.faults_now outcome

streams : (options : DecodeOptions) (s : OfSource) (o : OfSink) (end : Outcome) → DecodesSeen options s o end → Streams options s o (decode_ended end)
streams options s o outcome.Done h = record {
  source = h.0;
  out = h.1;
  told = λ bytes t. (ap status_of_ending (h.2 bytes t).0.0, (h.2 bytes t).0.1, (h.2 bytes t).1);
}
streams options s o (outcome.Broken stop) h = record {
  source = h.0;
  out = h.1;
  taken = h.2;
  told = λ bytes t. (ap status_of_ending (h.3 bytes t).0, (h.3 bytes t).1);
}
streams options s o outcome.ReadFault h = h
streams options s o outcome.WriteFault h = h
streams options s o outcome.OutOfMemory h = h

pub crew_decodes : (options : DecodeOptions) (s : OfSource) (o : OfSink) (end : Outcome) (st : Status) → options.plain ≡ false → DecodesSeen options s o end → st ≡ decode_ended end → DecodesSo options s o st
crew_decodes options s o end st crew h is =
    subst (λ plain. DecodesBy plain options s o st) (sym crew) (subst (λ st. Streams options s o st) (sym is) (streams options s o end h))
