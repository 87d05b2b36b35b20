use Rattle.frame_output.specs.declared.rendering.Format.TheVariants.{Raw}
use Rattle.job_decoder.specs.seq_decoder.Outputs.{output_of}
use Rattle.stream_trial.proofs.Sums.{tells}
use Rattle.stream_trial.proofs.trial.try_crew.Goals as goal

pub returns : goal.returns
returns g c =
    let decoded = c.decode_by_jobs-decoded in
    tells (output_of Raw c.args.file.now) _ decoded.result.sink.bytes.items decoded.result.outcome c.sum_in.result c.new.ensures decoded.ensures.decodes c.sum_in.ensures
