-- What is written of a run: the texts of its shown frames, in a format.
use Rattle.std.specs.Prelude.{ℕ, ◌==◌, ◌&&◌, Bool, true, false, List, [], Option, Some, None, Result, Ok, Err, if◌then◌else◌}
use Rattle.vp9_types.specs.Shapes.{depth_bits}
use Rattle.vp9_types.specs.declared.rule.Rule.{Rule}
use Rattle.vp9_types.specs.declared.rule.Rule.TheVariants.{OutputShape}
use Rattle.vp9_types.specs.declared.shape.Shape.{Shape}
use Rattle.file_frames.specs.Containers.{rate_of_file}
use Rattle.file_frames.specs.FileFrames.{frames_of_file}
use Rattle.file_frames.specs.Walks.{Added, Walk, Walked, walk}
use Rattle.frame_headers.specs.References.{same_bit}
use Rattle.frame_output.specs.Formats.{output_text}
use Rattle.frame_output.specs.declared.rendering.Format.{Format}
use Rattle.frame_output.specs.declared.rendering.Format.TheVariants.{Y4m}
use Rattle.seq_decoder.specs.After.{Stepped, step}
use Rattle.seq_decoder.specs.DecoderState.{Picture, State, start_state}
use Rattle.seq_decoder.specs.declared.form.OutputForm.{OutputForm}

abbrev pub same_shape : Shape → Shape → Bool
same_shape a b = a.w == b.w && a.h == b.h && depth_bits a.depth == depth_bits b.depth && same_bit a.ss_x b.ss_x && same_bit a.ss_y b.ss_y

-- A Y4M stream tells one shape, that of its first frame.
abbrev pub fits_format : Format → Option Shape → Shape → Bool
fits_format Y4m (Some first) shape = same_shape first shape
fits_format format first shape = true

abbrev pub admits : OutputForm → Option Picture → Bool
admits form None = true
admits form (Some picture) = fits_format form.format form.first picture.shape

abbrev pub is_first : Option Shape → Bool
is_first None = true
is_first (Some first) = false

-- what is written of what a frame shows
abbrev pub shown_text : OutputForm → Option Picture → List ℕ
shown_text form None = []
shown_text form (Some picture) = output_text form.format form.rate (is_first form.first) picture.shape picture.map

abbrev pub first_of : Option Shape → Shape → Shape
first_of None shape = shape
first_of (Some first) shape = first

abbrev pub form_after : OutputForm → Option Picture → OutputForm
form_after form None = form
form_after form (Some picture) = record form { first = Some (first_of form.first picture.shape) }

---- The walk ----

-- what the decoder keeps, and how shown frames are put
pub record Putting : Type 0 where
  pub state : State
  pub form : OutputForm

-- a frame adds the text of what it shows, unless it breaks a rule: the last of them is that its shape can't be told
abbrev pub put : OutputForm → Result Stepped Rule → Result (Added Putting ℕ) Rule
put form (Ok stepped) =
    if admits form stepped.shown then Ok (record { state = record { state = stepped.state; form = form_after form stepped.shown }; adds = shown_text form stepped.shown })
    else Err OutputShape
put form (Err rule) = Err rule

abbrev pub form_from : Format → ℕ × ℕ → OutputForm
form_from format rate = record { format = format; rate = rate; first = None }

abbrev pub putting : OutputForm → Walk Putting ℕ Rule
putting form = record {
  start = record { state = start_state; form = form };
  step = λ number p frame. put p.form (step number p.state frame);
  broken = λ rule. rule;
}

-- The bytes that are written; and the number of the first frame that breaks a rule, with that rule, or None where the file ends.
unfoldable pub output_of : Format → List ℕ → Walked ℕ Rule
output_of format bytes = walk (putting (form_from format (rate_of_file bytes))) (frames_of_file bytes)
