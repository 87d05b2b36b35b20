-- The run of a file: its frames, decoded one after another.
use Rattle.std.specs.Prelude.{ℕ, List, [], ◌∷◌, Option, Some, None, Result, Ok, Err}
use Rattle.std.specs.List.{flat_map}
use Rattle.vp9_types.specs.declared.rule.Rule.{Rule}
use Rattle.md5.specs.Md5.{md5}
use Rattle.file_frames.specs.FileFrames.{frames_of_file}
use Rattle.file_frames.specs.Walks.{Added, Walk, Walked, walk}
use Rattle.frame_output.specs.Formats.{digest_line}
use Rattle.frame_output.specs.Texts.{frame_text}
use Rattle.seq_decoder.specs.After.{Stepped, step}
use Rattle.seq_decoder.specs.DecoderState.{Picture, State, start_state}

-- The shown frames in order; and the number of the first frame that breaks a rule, with that rule, or None where the file ends.
abbrev pub Run : Type 0
Run = Walked Picture Rule

abbrev pub shown_list : Option Picture → List Picture
shown_list None = []
shown_list (Some picture) = picture ∷ []

abbrev pub added_picture : Result Stepped Rule → Result (Added State Picture) Rule
added_picture (Ok stepped) = Ok (record { state = stepped.state; adds = shown_list stepped.shown })
added_picture (Err rule) = Err rule

-- a frame adds what it shows
abbrev pub decoding : Walk State Picture Rule
decoding = record {
  start = start_state;
  step = λ number state frame. added_picture (step number state frame);
  broken = λ rule. rule;
}

unfoldable pub run_of : List ℕ → Run
run_of bytes = walk decoding (frames_of_file bytes)

---- Its texts ----

abbrev pub picture_text : Picture → List ℕ
picture_text picture = frame_text picture.shape picture.map

-- the digest of a picture's text, with its size
abbrev pub digest_text : Picture → List ℕ
digest_text picture = digest_line (md5 (frame_text picture.shape picture.map)) picture.shape

-- those of the pictures that it shows, one after another, and how it ends
abbrev pub texts_of : (Picture → List ℕ) → Run → Walked ℕ Rule
texts_of text run = record { adds = flat_map text run.adds; ending = run.ending }
