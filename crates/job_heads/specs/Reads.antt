-- What is kept of the bands that the rows of a frame that has begun read of other frames.
use Rattle.std.specs.Prelude.{◌≡◌, ◌<◌, ◌^◌, ℕ, List, get_or, length, map, Option, Ok, Vec}
use Rattle.std.specs.declared.alloc.Global.{Global}
use Rattle.vp9_types.specs.declared.job.BandSpan.{BandSpan}
use Rattle.job_results.specs.frame_state.FrameReading.{FrameRead, read_all_tiles}
use Rattle.job_results.specs.frame_steps.StepResults.{IsColumn, sources_by}
use Rattle.job_results.specs.frame_steps.declared.beginning.BegunFrame.{BegunFrame}
use Rattle.job_results.specs.frame_steps.declared.columns.PlannedColumn.{PlannedColumn}
use Rattle.job_results.specs.RowReads.{spans_by}
use Rattle.job_results.specs.declared.reads.RowReads.{RowReads}

-- its tiles are all read
abbrev pub IsAllRead : BegunFrame → Type 0
IsAllRead b = (read : FrameRead) × (read_all_tiles (sources_by b) b.bytes.now b.compressed ≡ Ok read)

-- these are of the rows of its k-th tile column, by the numbers of the frames that slots hold
pub record AreColumnReads (b : BegunFrame) (numbers : List (Option ℕ)) (k : ℕ) (rows : List (List (Option BandSpan))) : Type 0 where
  pub planned : PlannedColumn
  pub column : IsColumn b k (Ok planned)
  pub each : rows ≡ map (λ needs. spans_by numbers b.setting.header.kind needs) planned.needs.items

-- and these of the first tile columns
abbrev pub AreFirstReads : BegunFrame → List (Option ℕ) → List (Vec (List (Option BandSpan)) Global) → Type 0
AreFirstReads b numbers columns = (k : ℕ) (d : Vec (List (Option BandSpan)) Global) → k < length columns → AreColumnReads b numbers k (get_or columns k d).items

-- of all of them
pub record AreReads (b : BegunFrame) (numbers : List (Option ℕ)) (reads : RowReads) : Type 0 where
  pub many : length reads.columns.items ≡ 2 ^ b.setting.header.params.tiles.columns_log2
  pub each : AreFirstReads b numbers reads.columns.items
