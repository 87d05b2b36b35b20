-- What a decode into a sink that never fails tells.
use Rattle.std.proofs.Common.{◌≡◌, ◌∙◌, ℕ, List, [], refl, ap, sym, subst}
use Rattle.std.specs.Prelude.{Result, Ok, Err, Option, Some, None}
use Rattle.vp9_types.specs.declared.outcome.Outcome.{Outcome}
use Rattle.vp9_types.specs.declared.rule.Rule.{Rule}
use Rattle.edge_io.specs.Putting.{Takes}
use Rattle.file_frames.specs.FileFrames.{frames_in, frames_of_file}
use Rattle.file_frames.specs.Containers.{rate_of_file}
use Rattle.file_frames.specs.Walks.{Walked}
use Rattle.frame_output.specs.declared.rendering.Format.TheVariants.{Raw}
use Rattle.job_decoder.specs.seq_decoder.Outcomes.{Decodes}
use Rattle.job_decoder.specs.seq_decoder.Outputs.{form_from, output_of}
use Rattle.job_decoder.specs.seq_decoder.Runs.{picture_text, run_of}
use Rattle.job_decoder.specs.seq_decoder.DecoderState.{start_state}
use Rattle.job_decoder.proofs.of_seq_decoder.OutputLemmas.{output_follows}
use Rattle.stream_forge.specs.MadeFiles.{made}
use Rattle.stream_trial.specs.declared.trial.NoLine.{NoLine}
use Rattle.stream_trial.specs.declared.trial.NoLine.TheVariants.{Broken, OutOfMemory}
use Rattle.stream_trial.specs.declared.trial.Sum.{Sum}
use Rattle.stream_trial.specs.Code.{IsSumOf, Sums, Tells}
use Rattle.stream_trial.specs.TrialLines.{line_of, shown_count}
use Rattle.stream_trial.specs.Trials.{IsTrialLine}

the_some : {a b : List ℕ} → ◌≡◌ {A = Option (List ℕ)} (Some a) (Some b) → a ≡ b
the_some e = cc

the_text : (text adds : List ℕ) → Takes (Some []) (Some text) adds → text ≡ adds
the_text text adds takes = the_some (takes [] refl)

sums_as : (text adds : List ℕ) (s : Sum) → text ≡ adds → IsSumOf text s → IsSumOf adds s
sums_as text adds s same h = subst (λ t. IsSumOf t s) same h

-- a sink that had taken nothing tells the output
told_of_none : (output : Walked ℕ Rule) (text : List ℕ) (o : Outcome) (r : Result Sum NoLine) → Decodes output (Some []) (Some text) 0 0 o → Sums o text r → Tells output r
told_of_none output text o (Ok s) d h =
    let done = subst (λ o. Decodes output (Some []) (Some text) 0 0 o) h.0 d in
    (done.ends, sums_as text output.adds s (the_text text output.adds done.writes) h.1)
told_of_none output text o (Err (Broken stop)) d h =
    let ended = subst (λ o. Decodes output (Some []) (Some text) 0 0 o) h d in
    ended.ends
told_of_none output text o (Err OutOfMemory) d h = tt

pub tells : (output : Walked ℕ Rule) (before text : List ℕ) (o : Outcome) (r : Result Sum NoLine) → before ≡ [] → Decodes output (Some before) (Some text) 0 0 o → Sums o text r → Tells output r
tells output before text o r none d h = told_of_none output text o r (subst (λ b. Decodes output (Some b) (Some text) 0 0 o) none d) h

-- the run ends as its output does
pub run_ends : (file : List ℕ) → (output_of Raw file).ending ≡ (run_of file).ending
unfolding output_of run_of
run_ends file =
    ap (λ w. w.ending)
    (output_follows Raw picture_text (λ rate first picture. refl) (λ first shape. refl) (rate_of_file file) (form_from Raw (rate_of_file file)) (frames_in (frames_of_file file)) 0 (frames_of_file file).ending start_state None)

-- a made file, as the definitions have it
made_told : (number count : ℕ) (file : List ℕ) (s : Sum) → file ≡ made number count → Tells (output_of Raw file) (Ok s) → Tells (output_of Raw (made number count)) (Ok s)
made_told number count file s is told = subst (λ file. Tells (output_of Raw file) (Ok s)) is told

-- the line of a file that breaks no rule
pub tells_line : (number count : ℕ) (file line : List ℕ) (s : Sum) (shown : ℕ) → file ≡ made number count → Tells (output_of Raw file) (Ok s)
    → ((run_of file).ending ≡ None → shown ≡ shown_count file) → line ≡ line_of shown s.bytes s.sum → IsTrialLine number count line
tells_line number count file line s shown is told counts line_is =
    let so = made_told number count file s is told in
    let count_is = counts (sym (run_ends file) ∙ told.0) ∙ ap shown_count is in record {
      ends = so.0;
      told = line_is ∙ (λ i. line_of (count_is i) (so.1.0 i) (so.1.1 i));
    }
