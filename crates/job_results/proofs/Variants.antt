-- A frame that shows a slot isn't coded.
use Rattle.std.proofs.Common.{◌≡◌, ℕ, List, ap, ◌∙◌}
use Rattle.std.specs.Prelude.{Some, None, Result, Ok}
use Rattle.vp9_types.specs.declared.rule.Rule.{Rule}
use Rattle.frame_headers.specs.Header.{head_of}
use Rattle.frame_headers.specs.declared.header.FrameHead.{FrameHead}
use Rattle.frame_headers.specs.declared.header.FrameHead.TheVariants as head
use Rattle.frame_output.specs.declared.rendering.Format.{Format}
use Rattle.numbered_frames.specs.Coded.{CodedFrame, coded, coded_from, headed_from}
use Rattle.numbered_frames.specs.FrameNumbers.{frame_at}
use Rattle.numbered_frames.specs.seq_decoder.Outputs.{Putting}
use Rattle.numbered_frames.specs.seq_decoder.DecoderState.{persist_of}
use Rattle.job_results.specs.JobResults.{ShowsSlot}
use Rattle.numbered_frames.specs.Films.{Film}

none_coded : (p : Putting) (frame : List ℕ) (slot : ℕ) (read : Result FrameHead Rule) → read ≡ Ok (head.ShowExisting slot) → headed_from p frame read ≡ None
none_coded p frame slot read is = ap (headed_from p frame) is

pub shows_none : (format : Format) (film : Film) (f slot : ℕ) → ShowsSlot format film f slot → coded format film f ≡ None
unfolding coded
shows_none format film f slot h =
    ap (λ o. coded_from o (frame_at film f)) h.reached ∙ (ap (coded_from (Some h.kept)) h.there ∙ none_coded h.kept h.frame slot (head_of (persist_of h.kept.state) h.frame) h.head)

pub not_shown : (format : Format) (film : Film) (f slot : ℕ) (c : CodedFrame) → ShowsSlot format film f slot → coded format film f ≡ Some c → ⊥
not_shown format film f slot c h is = let none = shows_none format film f slot h in absurd cc
