use Rattle.listed_frames.specs.seq_decoder.Code.{MayDecode}
use Rattle.stream_tests.proofs.listed_frames_tests.comes_out.Given as goal

abbrev pub invariant-loop-frame : goal.invariant-loop-frame
invariant-loop-frame l = record { may : MayDecode l.decoder }
