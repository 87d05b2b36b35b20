-- The frames that slots hold, by their numbers.
use Rattle.std.specs.Prelude.{ℕ, List, [], ◌∷◌, Option, Some, None}
use Rattle.numbered_frames.specs.seq_decoder.Outputs.{Putting}
use Rattle.numbered_frames.specs.seq_decoder.DecoderState.{Picture}

abbrev pub numbers_in : List (Option Picture) → List ℕ
numbers_in [] = []
numbers_in (None ∷ slots) = numbers_in slots
numbers_in (Some picture ∷ slots) = picture.frame ∷ numbers_in slots

abbrev pub slots_of : Option Putting → List ℕ
slots_of None = []
slots_of (Some p) = numbers_in p.state.slots
