use Rattle.std.proofs.Common.{◌≡◌, subst, string_bytes}
use Rattle.std.specs.Prelude.{None, Ok}
use Rattle.frame_output.specs.declared.rendering.Format.TheVariants.{Raw}
use Rattle.job_decoder.specs.seq_decoder.Outputs.{output_of}
use Rattle.job_decoder.specs.seq_decoder.Runs.{run_of}
use Rattle.stream_trial.specs.Code.{Tells}
use Rattle.stream_trial.specs.TrialLines.{shown_count}
use Rattle.stream_trial.proofs.Sums.{tells_line}
use Rattle.stream_trial.proofs.trial.trial_line.Goals as goal

pub returns-clause-line : goal.returns-clause-line
returns-clause-line g c =
    let sum = c.in_ok-told.told in
    let shown = c.count_shown-shown.result in
    tells_line c.args.number c.args.frames c.in-Ok.file.items (string_bytes c.in_ok-line_of.field-0) sum shown c.in-Ok.ensures.made
    (subst (λ file. Tells (output_of Raw file) (Ok sum)) c.deref-3.ensures.value c.in_ok-told.ensures)
    (subst (λ file. (run_of file).ending ≡ None → shown ≡ shown_count file) c.deref-4.ensures.value c.count_shown-shown.ensures)
    c.in_ok-line_of.ensures
