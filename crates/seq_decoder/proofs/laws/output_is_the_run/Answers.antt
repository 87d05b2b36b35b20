use Rattle.std.proofs.Common.{refl}
use Rattle.std.specs.Prelude.{None}
use Rattle.file_frames.specs.Containers.{rate_of_file}
use Rattle.file_frames.specs.FileFrames.{frames_in, frames_of_file}
use Rattle.frame_output.specs.declared.rendering.Format.TheVariants.{Md5, Raw}
use Rattle.seq_decoder.specs.Outputs.{form_from, output_of}
use Rattle.seq_decoder.specs.Runs.{digest_text, picture_text, run_of}
use Rattle.seq_decoder.specs.DecoderState.{start_state}
use Rattle.seq_decoder.proofs.OutputLemmas.{output_follows}
use Rattle.seq_decoder.proofs.laws.output_is_the_run.Goals as goal

pub returns-clause-raw : goal.returns-clause-raw
unfolding output_of run_of
returns-clause-raw c = λ bytes.
    output_follows Raw picture_text (λ rate first picture. refl) (λ first shape. refl) (rate_of_file bytes) (form_from Raw (rate_of_file bytes)) (frames_in (frames_of_file bytes)) 0 (frames_of_file bytes).ending start_state None

pub returns-clause-digests : goal.returns-clause-digests
unfolding output_of run_of
returns-clause-digests c = λ bytes.
    output_follows Md5 digest_text (λ rate first picture. refl) (λ first shape. refl) (rate_of_file bytes) (form_from Md5 (rate_of_file bytes)) (frames_in (frames_of_file bytes)) 0 (frames_of_file bytes).ending start_state None
