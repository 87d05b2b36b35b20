use Rattle.std.proofs.Common.{◌≡◌, length}
use Rattle.file_frames.specs.Code.{ahead}
use Rattle.seq_decoder.specs.Code.{MayDecode, StandsFor}
use Rattle.seq_decoder.specs.DecoderState.{State}
use Rattle.seq_decoder.proofs.RunLemmas.{HasWritten}
use Rattle.seq_decoder.proofs.plain.decode_plain.Given as goal

abbrev pub invariant-frames : goal.invariant-frames
invariant-frames g l = record {
  may : MayDecode l.decoder;
  can : g.K.Sink.can_put l.sink;
  grows : g.K.Sink.grows l.sink ≡ g.K.Sink.grows l.initial.sink;
  written : (state : State) × StandsFor l.decoder state
      × HasWritten l.fn.format l.bytes (record { state = state; form = l.decoder.form }) (ahead l.frames) (g.K.Sink.taken l.initial.sink) (g.K.Sink.taken l.sink) (g.K.Sink.faults l.initial.sink) (g.K.Sink.faults l.sink);
}

abbrev pub decreases-frames : goal.decreases-frames
decreases-frames g l = length (ahead l.frames).frames
