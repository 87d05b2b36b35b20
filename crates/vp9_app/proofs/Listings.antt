-- The listing so far, and what the next frame adds.
use Rattle.std.proofs.Common.{◌≡◌, ℕ, ◌+◌, List, [], ◌∷◌, ap, sym, ◌∙◌}
use Rattle.std.specs.Prelude.{Some, None, Err}
use Rattle.vp9_types.specs.declared.outcome.Stop.{Stop}
use Rattle.vp9_types.specs.declared.rule.Rule.{Rule}
use Rattle.file_frames.specs.Code.{Ahead, IsOnWay}
use Rattle.file_frames.proofs.Walks.{ends_at, arrives, breaks}
use Rattle.frame_headers.specs.declared.persist.Persist.{Persist}
use Rattle.vp9_app.specs.Code.{AddsLine}
use Rattle.vp9_app.specs.Listing.{list_step, lining, listing}

-- the lines so far, and what is left
abbrev pub HasListed : List ℕ → List ℕ → Persist → Ahead → Type 0
HasListed bytes text persist a = IsOnWay lining bytes text persist a

-- the next frame, as the cursor gives it
abbrev pub IsFrame : Ahead → ℕ → List ℕ → Ahead → Type 0
IsFrame a number frame next = (a ≡ record { number = number; frames = frame ∷ next.frames; ending = next.ending }) × (next.number ≡ number + 1)

-- at a frame that breaks a rule
pub frame_breaks : (bytes frame : List ℕ) (number : ℕ) (persist : Persist) (a rest : Ahead) (text new : List ℕ) (rule : Rule)
    → HasListed bytes text persist a → IsFrame a number frame rest → AddsLine text (list_step number persist frame) (Err rule) new → listing bytes ≡ record { adds = new; ending = Some (number, rule) }
unfolding listing
frame_breaks bytes frame number persist a rest text new rule h is adds =
    ends_at lining bytes text persist a rest number frame rule h is adds.0 ∙ ap (λ t. record { adds = t; ending = Some (number, rule) }) (sym adds.1)

-- at the end of the file, and at a rule of the container
pub all_listed : (bytes : List ℕ) (persist : Persist) (a : Ahead) (text : List ℕ) → HasListed bytes text persist a → a ≡ record { number = a.number; frames = []; ending = None }
    → listing bytes ≡ record { adds = text; ending = None }
unfolding listing
all_listed bytes persist a text h is = arrives lining bytes text persist a a.number h is

pub file_breaks : (bytes : List ℕ) (persist : Persist) (a : Ahead) (text : List ℕ) (stop : Stop) → HasListed bytes text persist a → a ≡ record { number = stop.frame; frames = []; ending = Some stop.rule }
    → listing bytes ≡ record { adds = text; ending = Some (stop.frame, stop.rule) }
unfolding listing
file_breaks bytes persist a text stop h is = breaks lining bytes text persist a stop.frame stop.rule h is
