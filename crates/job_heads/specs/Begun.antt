-- What has begun, by the coded frame that it is.
use Rattle.std.specs.Prelude.{◌≡◌, ℕ, List, Some}
use Rattle.frame_output.specs.declared.rendering.Format.{Format}
use Rattle.job_results.specs.frame_steps.StepResults.{sources_by}
use Rattle.job_results.specs.frame_steps.declared.beginning.BegunFrame.{BegunFrame}
use Rattle.job_results.specs.numbered_frames.Coded.{CodedFrame, coded}
use Rattle.job_results.specs.numbered_frames.Films.{Film}

-- what has begun has the coded frame's bytes and headers, and what its blocks are read by
abbrev pub IsMadeOf : CodedFrame → BegunFrame → Type 0
IsMadeOf c b = (b.bytes.now ≡ c.bytes) × (b.setting.header ≡ c.header) × (b.compressed ≡ c.compressed) × (sources_by b ≡ c.by)

-- where the frame is coded, this is it
abbrev pub IsItsBegun : Format → Film → ℕ → BegunFrame → Type 0
IsItsBegun format film f b = (c : CodedFrame) → coded format film f ≡ Some c → IsMadeOf c b
