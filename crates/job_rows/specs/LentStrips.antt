-- A row of superblocks of a tile column, with all that it is made of.
use Rattle.std.specs.Prelude.{◌≡◌, ◌<◌, ◌^◌, ℕ, Option, Some, None}
use Rattle.vp9_types.specs.Shapes.{mi_rows}
use Rattle.vp9_types.specs.Sizes.{superblocks_along}
use Rattle.frame_headers.specs.FrameSizes.{IsFrameSize}
use Rattle.frame_headers.specs.HeaderState.{shape_of}
use Rattle.frame_headers.specs.Tiles.{AreFewTiles}
use Rattle.frame_headers.specs.declared.header.FrameKind.{FrameKind}
use Rattle.frame_headers.specs.declared.header.FrameKind.TheVariants.{Inter}
use Rattle.frame_headers.specs.declared.header.InterFields.{InterFields}
use Rattle.frame_output.specs.declared.rendering.Format.{Format}
use Rattle.vp9_types.specs.declared.shape.Shape.{Shape}
use Rattle.block_rebuild.specs.declared.references.ReferencePicture.{ReferencePicture}
use Rattle.job_results.specs.frame_state.ColumnPlans.{tile_bytes}
use Rattle.job_results.specs.frame_steps.StepResults.{HaveSizes, row_needs_of}
use Rattle.job_results.specs.frame_steps.declared.strips.PlannedRow.{PlannedRow}
use Rattle.band_needs.specs.declared.ranges.BandNeeds.{BandNeeds}
use Rattle.job_results.specs.numbered_frames.Coded.{CodedFrame}
use Rattle.job_rows.specs.LentReferences.{IsReferenceRows}
use Rattle.job_rows.specs.declared.strips.AllRows.{AllRows}
use Rattle.job_results.specs.numbered_frames.Films.{Film}
use Rattle.job_results.specs.tile_syntax.Code.{IsPlanAsRead}

-- a row of superblocks of a tile column of a coded frame, which is planned
pub record IsPlannedRow (c : CodedFrame) (of : PlannedRow) : Type 0 where
  pub size : IsFrameSize c.header.size
  pub few : AreFewTiles c.header.params.tiles
  pub references : HaveSizes c.header.kind
  pub by : c.by.header ≡ c.header
  pub header : of.setting.now.header ≡ c.header
  pub column : of.column < 2 ^ c.header.params.tiles.columns_log2
  pub row : of.row < superblocks_along (mi_rows (shape_of c.header))
  pub plan : IsPlanAsRead c.by (tile_bytes c.bytes c.spans) of.column of.plan.now

-- the frame refers to no other one
abbrev pub RefersToNone : FrameKind → Type 0
RefersToNone kind = (fields : InterFields) → kind ≡ Inter fields → ⊥

-- a picture of this shape, by these samples
abbrev pub IsPicture : {S : Type 0} → S → Shape → Option (ReferencePicture S) → Type 0
IsPicture samples shape None = ⊥
IsPicture samples shape (Some picture) = (picture.samples.now ≡ samples) × (picture.shape ≡ shape)

-- rows of superblocks of the three references of frame f, which have some bands of each
pub record AreAllRows {X : Type 0} (format : Format) (film : Film) (f : ℕ) (fields : InterFields) (needs : BandNeeds) (rows : AllRows X) : Type 0 where
  pub last : IsReferenceRows format film f fields.references.last needs.last rows.last
  pub golden : IsReferenceRows format film f fields.references.golden needs.golden rows.golden
  pub altref : IsReferenceRows format film f fields.references.altref needs.altref rows.altref

-- those that a planned row is predicted from
pub record ReadsRows {X : Type 0} (format : Format) (film : Film) (f : ℕ) (c : CodedFrame) (of : PlannedRow) (rows : AllRows X) : Type 0 where
  pub fields : InterFields
  pub kind : c.header.kind ≡ Inter fields
  pub read : AreAllRows format film f fields (row_needs_of c.header of.row of.plan.now.column.grid.blocks) rows
