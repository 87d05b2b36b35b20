use Rattle.std.proofs.Common.{refl}
use Rattle.seq_decoder.specs.After.{past_of}
use Rattle.seq_decoder.specs.DecoderState.{persist_of}
use Rattle.stream_forge.specs.Code.{frame_with}
use Rattle.stream_forge.proofs.DrawnReads.{coded_given}
use Rattle.stream_forge.proofs.frames.write_drawn.Goals as goal

pub returns : goal.returns
returns c = λ state stands.
    let gives = c.write_coded-written.ensures state stands in
    let header = c.args.header.now in
    coded_given (persist_of state) state (frame_with (record { header = header; choices = c.args.choices; modes = c.draw_frame_modes-modes.result }) gives.0) (past_of state header) c.args.draws.x
    (record { draws = c.draw_frame_modes-modes.new.draws }) c.write_coded-written.result.1 c.write_coded-written.result.0 refl refl gives.1 c.draw_frame_modes-modes.ensures.drawn gives.2
