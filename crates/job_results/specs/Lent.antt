-- What right results say, by what they are results of.
use Rattle.std.specs.Prelude.{◌≡◌, ℕ, Result, Some}
use Rattle.frame_output.specs.declared.rendering.Format.{Format}
use Rattle.frame_steps.specs.Kept.{MayFollow, StandsFor}
use Rattle.frame_steps.specs.declared.beginning.BegunFrame.{BegunFrame}
use Rattle.frame_steps.specs.declared.columns.PlannedColumn.{PlannedColumn}
use Rattle.frame_steps.specs.declared.kept.Kept.{Kept}
use Rattle.frame_steps.specs.tile_syntax.declared.plans.Unplanned.{Unplanned}
use Rattle.numbered_frames.specs.Coded.{CodedFrame, coded}
use Rattle.numbered_frames.specs.FrameNumbers.{before}
use Rattle.numbered_frames.specs.seq_decoder.Outputs.{Putting}
use Rattle.job_results.specs.ResultPlanes.{Keeps}
use Rattle.job_results.specs.JobResults.{IsAnyFiltered, IsAnyStrip, IsBegunAs, IsColumnAs, ShowsSlot}
use Rattle.job_results.specs.declared.any_planes.AnyPlanes.{AnyPlanes}
use Rattle.job_results.specs.declared.lent.HeadRead.{HeadRead}
use Rattle.job_results.specs.declared.lent.HeadRead.TheVariants as head
use Rattle.numbered_frames.specs.Films.{Film}

-- this is kept before frame f
pub record IsKeptBefore (format : Format) (film : Film) (f : ℕ) (k : Kept) : Type 0 where
  pub kept : Putting
  pub reached : before format film f ≡ Some kept
  pub stands : StandsFor k kept.state
  pub form : k.form ≡ kept.form
  pub may : MayFollow k

-- frame f is coded, and has begun so
abbrev pub IsBegunFrame : Format → Film → ℕ → BegunFrame → Type 0
IsBegunFrame format film f b = (c : CodedFrame) × (coded format film f ≡ Some c) × IsBegunAs c b

abbrev pub IsHeadRead : Format → Film → ℕ → HeadRead → Type 0
IsHeadRead format film f (head.Coded b) = IsBegunFrame format film f b.now
IsHeadRead format film f (head.Shows slot) = ShowsSlot format film f slot

-- frame f is coded, and its k-th tile column came to this
abbrev pub IsColumnOf : Format → Film → ℕ → ℕ → Result PlannedColumn Unplanned → Type 0
IsColumnOf format film f k r = (c : CodedFrame) × (coded format film f ≡ Some c) × IsColumnAs c k r

-- planes hold a row of superblocks of a tile column of frame f
abbrev pub IsStripOf : Format → Film → ℕ → ℕ → ℕ → AnyPlanes → Type 0
IsStripOf format film f k r planes = (c : CodedFrame) × (coded format film f ≡ Some c) × Keeps c.header.color.depth planes × IsAnyStrip c k r planes

-- planes hold what a row of superblocks of frame f leaves when it is filtered
abbrev pub IsFilteredOf : Format → Film → ℕ → ℕ → AnyPlanes → Type 0
IsFilteredOf format film f r planes = (c : CodedFrame) × (coded format film f ≡ Some c) × Keeps c.header.color.depth planes × IsAnyFiltered c r planes
