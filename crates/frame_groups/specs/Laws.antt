-- What the laws of groups say.
use Rattle.std.specs.Prelude.{◌≡◌, ℕ, List, Some}
use Rattle.vp9_types.specs.declared.rule.Rule.TheVariants.{IvfHeader}
use Rattle.file_frames.specs.Containers.{rate_of_file}
use Rattle.file_frames.specs.FileFrames.{frames_of_file, no_frames}

-- a file that has no whole header: no frames, and no rate
abbrev pub IsNoFile : List ℕ → Type 0
IsNoFile bytes = (frames_of_file bytes ≡ no_frames (Some IvfHeader)) × (rate_of_file bytes ≡ (0, 0))
