-- A coded frame behind the frames that left a state.
use Rattle.std.proofs.Common.{◌≡◌, subst}
use Rattle.std.specs.Prelude.{Result}
use Rattle.frame_headers.specs.declared.persist.Persist.{Persist}
use Rattle.seq_decoder.specs.frame_state.Sources.{FramePast}
use Rattle.drawn_frames.specs.frame_writer.Code.{GivesFrame}
use Rattle.drawn_frames.specs.frame_writer.FrameSymbols.{Speaker}
use Rattle.drawn_frames.specs.frame_writer.declared.written.NotWritten.{NotWritten}
use Rattle.drawn_frames.specs.frame_writer.declared.written.Written.{Written}
use Rattle.prob_contexts.specs.ProbLists.{lists_of}
use Rattle.prob_contexts.specs.declared.contexts.Contexts.{Contexts}
use Rattle.seq_decoder.specs.After.{past_of}
use Rattle.seq_decoder.specs.SavedContexts.{context_before}
use Rattle.seq_decoder.specs.DecoderState.{State, persist_of}
use Rattle.stream_forge.specs.Code.{GivesBehind, frame_with}
use Rattle.stream_forge.specs.declared.coded.CodedFrame.{CodedFrame}

pub behind_given : {T : Type 0} (speaker : Speaker T) (persist : Persist) (state : State) (frame : CodedFrame) (contexts : Contexts) (past : FramePast) (t new : T) (result : Result Written NotWritten)
    → persist ≡ persist_of state → past ≡ past_of state frame.header → lists_of contexts ≡ context_before frame.header state.contexts
    → GivesFrame speaker persist (frame_with frame contexts) past t result new → GivesBehind speaker state frame t result new
behind_given speaker persist state frame contexts past t new result same past_is are gives =
    (contexts, are, subst (λ (p : Persist × FramePast). GivesFrame speaker p.0 (frame_with frame contexts) p.1 t result new) (λ i. (same i, past_is i)) gives)
