use Rattle.frame_output.specs.declared.rendering.Format.TheVariants.{Raw}
use Rattle.job_decoder.specs.seq_decoder.Outputs.{output_of}
use Rattle.stream_trial.proofs.Sums.{tells}
use Rattle.stream_trial.proofs.trial.try_plain.Goals as goal

pub returns : goal.returns
returns c =
    tells (output_of Raw c.args.file.now) _ c.decode_plain-outcome.new.sink.bytes.items c.decode_plain-outcome.result c.sum_in.result c.new-sink.ensures c.decode_plain-outcome.ensures.decodes c.sum_in.ensures
