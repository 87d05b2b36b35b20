-- What the calls answer.
use Rattle.std.specs.Prelude.{◌≡◌, ◌⊎◌, ℕ, List, ◌++◌, string_bytes, Option, Some, None, Result, Ok, Err}
use Rattle.vp9_types.specs.declared.outcome.Stop.{Stop}
use Rattle.vp9_types.specs.declared.rule.Rule.{Rule}
use Rattle.file_frames.specs.Walks.{Added, Walked}
use Rattle.frame_headers.specs.declared.persist.Persist.{Persist}
use Rattle.vp9_app.specs.declared.listing.Listed.{Listed}
use Rattle.vp9_app.specs.declared.status.Status.{Status}
use Rattle.vp9_app.specs.declared.status.Status.TheVariants as status
use Rattle.vp9_app.specs.Answers.{Reports}
use Rattle.vp9_app.specs.Seen.{OfSink}

-- a listing that ends so
abbrev pub ending_of : Option Stop → Option (ℕ × Rule)
ending_of None = None
ending_of (Some stop) = Some (stop.frame, stop.rule)

abbrev pub listing_of : Listed → Walked ℕ Rule
listing_of l = record { adds = string_bytes l.text; ending = ending_of l.ending }

-- the line of a frame was added to the text, or the frame breaks a rule
abbrev pub AddsLine : List ℕ → Result (Added Persist ℕ) Rule → Result Persist Rule → List ℕ → Type 0
AddsLine old step (Ok next) new = (line : List ℕ) × (step ≡ Ok (record { state = next; adds = line })) × (new ≡ old ++ line)
AddsLine old step (Err rule) new = (step ≡ Err rule) × (new ≡ old)

-- where there is no memory for the line of a rule, want of memory is told instead
abbrev pub MayLackMemory : Status → Status → Type 0
MayLackMemory (status.Broken stop) told = (told ≡ status.Broken stop) ⊎ (told ≡ status.OutOfMemory)
MayLackMemory first told = told ≡ first

abbrev pub Tells : OfSink → Status → Status → Type 0
Tells n first last = (told : Status) × MayLackMemory first told × Reports n told last
