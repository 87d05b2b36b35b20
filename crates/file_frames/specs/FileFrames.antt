-- The frames of a file, numbered from 0: those of its payloads, one payload after another (Annex B of the standard).
use Rattle.std.specs.Prelude.{◌≡◌, ◌⊎◌, ℕ, List, [], ◌∷◌, Option, Some, Result, Ok, Err}
use Rattle.std.specs.List.{flat_map}
use Rattle.vp9_types.specs.declared.rule.Rule.{Rule}
use Rattle.ivf_container.specs.Packets.{Packets}
use Rattle.file_frames.specs.Containers.{HasPackets, packets_of_file}
use Rattle.superframe_index.specs.PayloadFrames.{IsSplit, at_spans, frames_of}

-- the frames of each payload, and the rule that the container or the sizes of a payload's index break at the frame that
-- would come next, or None at the end of the file
pub record FileFrames : Type 0 where
  pub payloads : List (List (List ℕ))
  pub ending : Option Rule

abbrev pub no_frames : Option Rule → FileFrames
no_frames ending = record { payloads = []; ending = ending }

-- the frames of a payload, and then these
abbrev pub with_frames : List (List ℕ) → FileFrames → FileFrames
with_frames frames file = record { payloads = frames ∷ file.payloads; ending = file.ending }

-- the frames in order: the number of a frame is its place in this list
abbrev pub frames_in : FileFrames → List (List ℕ)
frames_in file = flat_map (λ frames. frames) file.payloads

---- What the frames of a file are ----

-- payloads, and the end of the file or a rule of its container behind them, have these frames: up to the first payload
-- whose sizes break a rule, which has none
abbrev pub AreSplit : List (List ℕ) → Option Rule → FileFrames → Type 0
AreSplit [] ending file = file ≡ no_frames ending
AreSplit (payload ∷ payloads) ending file =
    ((frames : List (List ℕ)) × (rest : FileFrames) × IsSplit payload (Ok frames) × AreSplit payloads ending rest × (file ≡ with_frames frames rest))
    ⊎ ((rule : Rule) × IsSplit payload (Err rule) × (file ≡ no_frames (Some rule)))

abbrev pub HasFrames : List ℕ → FileFrames → Type 0
HasFrames bytes file = (packets : Packets) × HasPackets bytes packets × AreSplit packets.payloads packets.ending file

---- The same, computed ----

abbrev pub joined : Result (List (List ℕ)) Rule → FileFrames → FileFrames
joined (Ok frames) rest = with_frames frames rest
joined (Err rule) rest = no_frames (Some rule)

-- the frames of these payloads, and of what is behind them
abbrev pub split_all : List (List ℕ) → Option Rule → FileFrames
split_all [] ending = no_frames ending
split_all (payload ∷ payloads) ending = joined (at_spans payload (frames_of payload)) (split_all payloads ending)

abbrev pub split_packets : Packets → FileFrames
split_packets packets = split_all packets.payloads packets.ending

unfoldable pub frames_of_file : List ℕ → FileFrames
frames_of_file bytes = split_packets (packets_of_file bytes)
