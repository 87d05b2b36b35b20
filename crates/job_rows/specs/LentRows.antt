-- The samples of a frame by its number, and the rows that its jobs are lent.
use Rattle.std.specs.Prelude.{◌≡◌, ◌<◌, ◌-◌, ◌^◌, ℕ, List, get_or, length, Option, Some, None, Result, Ok, Err}
use Rattle.vp9_types.specs.Maps.{FrameMap}
use Rattle.vp9_types.specs.Shapes.{mi_rows}
use Rattle.vp9_types.specs.Sizes.{superblocks_along}
use Rattle.vp9_types.specs.declared.rule.Rule.{Rule}
use Rattle.vp9_types.specs.declared.shape.Depth.{Depth}
use Rattle.frame_headers.specs.HeaderState.{shape_of}
use Rattle.planes.specs.Pictures.{blank}
use Rattle.planes.specs.declared.frame_planes.FramePlanes.{FramePlanes}
use Rattle.job_results.specs.frame_decoder.DecodedFrames.{raw, rebuilding}
use Rattle.frame_output.specs.declared.rendering.Format.{Format}
use Rattle.job_results.specs.frame_state.FrameReading.{FrameRead}
use Rattle.job_results.specs.numbered_frames.Coded.{CodedFrame, coded, read_of, references}
use Rattle.job_results.specs.JobResults.{IsFilteredAs, IsStripAs}
use Rattle.job_results.specs.numbered_frames.Films.{Film}

---- A frame ----

abbrev pub raw_read : CodedFrame → Result FrameRead Rule → FrameMap
raw_read c (Ok read) = raw (rebuilding c.header (references c)) read.blocks
raw_read c (Err rule) = blank

abbrev pub raw_from : Option CodedFrame → FrameMap
raw_from None = blank
raw_from (Some c) = raw_read c (read_of c)

-- frame f before the loop filter
unfoldable pub raw_frame : Format → Film → ℕ → FrameMap
raw_frame format film f = raw_from (coded format film f)

-- it is coded, and of a depth so
abbrev pub IsOfDepth : (Depth → Type 0) → Format → Film → ℕ → Type 0
IsOfDepth P format film f = (c : CodedFrame) × (coded format film f ≡ Some c) × P c.header.color.depth

-- where it is coded, this is so of it
abbrev pub OfFrame : Format → Film → ℕ → (CodedFrame → Type 0) → Type 0
OfFrame format film f P = (c : CodedFrame) → coded format film f ≡ Some c → P c

---- Its rows of superblocks ----

-- it is coded, its tiles are all read, and it has this row of superblocks
pub record HasRow (format : Format) (film : Film) (f row : ℕ) : Type 0 where
  pub frame : CodedFrame
  pub is : coded format film f ≡ Some frame
  pub read : FrameRead
  pub reads : read_of frame ≡ Ok read
  pub inside : row < superblocks_along (mi_rows (shape_of frame.header))

-- and this tile column
pub record HasStrip (format : Format) (film : Film) (f k row : ℕ) : Type 0 where
  pub has : HasRow format film f row
  pub column : k < 2 ^ has.frame.header.params.tiles.columns_log2

---- What is lent of them ----

-- the strips of so many tile columns
pub record AreStrips {X : Type 0} (c : CodedFrame) (columns row : ℕ) (strips : List (FramePlanes X)) : Type 0 where
  pub many : length strips ≡ columns
  pub each : (k : ℕ) (d : FramePlanes X) → k < length strips → IsStripAs c k row (get_or strips k d)

-- the strip above a row: none above the first one
abbrev pub IsStripOver : {X : Type 0} → CodedFrame → ℕ → ℕ → Option (FramePlanes X) → Type 0
IsStripOver c k row None = row ≡ 0
IsStripOver c k row (Some f) = (0 < row) × IsStripAs c k (row - 1) f

-- what the row above leaves when it is filtered
abbrev pub IsFilteredOver : {X : Type 0} → CodedFrame → ℕ → Option (FramePlanes X) → Type 0
IsFilteredOver c row None = row ≡ 0
IsFilteredOver c row (Some f) = (0 < row) × IsFilteredAs c (row - 1) f
