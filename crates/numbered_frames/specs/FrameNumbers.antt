-- A decode by the numbers of its frames: what is kept before a frame, and what the frame adds.
use Rattle.std.specs.Prelude.{◌≡◌, ◌⊎◌, ℕ, zero, suc, List, [], Option, Some, None, Result, Ok, Err, slice_get}
use Rattle.vp9_types.specs.declared.rule.Rule.{Rule}
use Rattle.file_frames.specs.Walks.{Added, Walked, walk_from}
use Rattle.frame_output.specs.declared.rendering.Format.{Format}
use Rattle.seq_decoder.specs.After.{step}
use Rattle.seq_decoder.specs.Code.{put_text}
use Rattle.seq_decoder.specs.Outputs.{Putting, form_from, put, putting}
use Rattle.seq_decoder.specs.DecoderState.{start_state}
use Rattle.numbered_frames.specs.Films.{Film}

-- the bytes of a frame, none behind the last one
abbrev pub frame_at : Film → ℕ → Option (List ℕ)
frame_at film f = slice_get film.frames f

abbrev pub start : Format → Film → Putting
start format film = record { state = start_state; form = form_from format film.rate }

-- what a frame of this number and these bytes adds to what is kept before it, and makes of it
abbrev pub put_frame : ℕ → Putting → List ℕ → Result (Added Putting ℕ) Rule
put_frame f p frame = put p.form (step f p.state frame)

abbrev pub kept_after : Result (Added Putting ℕ) Rule → Option Putting
kept_after (Ok added) = Some added.state
kept_after (Err rule) = None

abbrev pub after_frame : ℕ → Option Putting → Option (List ℕ) → Option Putting
after_frame f None frame = None
after_frame f (Some p) None = None
after_frame f (Some p) (Some frame) = kept_after (put_frame f p frame)

-- What is kept before frame f. There is none where the film has fewer frames, or one of those before f breaks a rule.
unfoldable pub before : Format → Film → ℕ → Option Putting
before format film zero = Some (start format film)
before format film (suc f) = after_frame f (before format film f) (frame_at film f)

abbrev pub text_from : ℕ → Option Putting → Option (List ℕ) → List ℕ
text_from f None frame = []
text_from f (Some p) None = []
text_from f (Some p) (Some frame) = put_text (put_frame f p frame)

-- the text of what frame f shows
unfoldable pub text : Format → Film → ℕ → List ℕ
text format film f = text_from f (before format film f) (frame_at film f)

-- What is written of a film; and the number of the first frame that breaks a rule, with that rule, or None where the film ends. For the film
-- of a file it is what is written of the file.
abbrev pub film_output : Format → Film → Walked ℕ Rule
film_output format film = walk_from (putting (form_from format film.rate)) 0 (start format film) film.frames film.ending

-- at the end of the film, or where a rule is broken behind its frames
abbrev pub file_ending : ℕ → Option Rule → Option (ℕ × Rule)
file_ending f None = None
file_ending f (Some rule) = Some (f, rule)

-- All frames below f are decoded, and the run ends at f so: there is no such frame, or it breaks a rule.
pub record EndsAt (format : Format) (film : Film) (f : ℕ) (ending : Option (ℕ × Rule)) : Type 0 where
  pub kept : Putting
  pub reached : before format film f ≡ Some kept
  pub ends : ((frame_at film f ≡ None) × (ending ≡ file_ending f film.ending))
      ⊎ ((frame : List ℕ) × (rule : Rule) × (frame_at film f ≡ Some frame) × (put_frame f kept frame ≡ Err rule) × (ending ≡ Some (f, rule)))
