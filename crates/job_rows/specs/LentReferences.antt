-- The frames that a frame refers to, and the rows of superblocks of them that are lent.
use Rattle.std.specs.Prelude.{◌≡◌, ◌≤◌, ◌<◌, ◌+◌, ◌-◌, ℕ, length, map, min, Option, Some, None, IfSome, slice_index_or}
use Rattle.vp9_types.specs.Shapes.{mi_rows}
use Rattle.vp9_types.specs.Sizes.{superblocks_along}
use Rattle.vp9_types.specs.declared.block.ReferenceFrame.{ReferenceFrame}
use Rattle.frame_headers.specs.declared.header.FrameKind.{FrameKind}
use Rattle.frame_headers.specs.declared.header.FrameKind.TheVariants.{Inter}
use Rattle.frame_headers.specs.declared.header.InterFields.{InterFields}
use Rattle.frame_headers.specs.declared.header.Reference.{Reference}
use Rattle.frame_headers.specs.declared.header.References.{References}
use Rattle.vp9_types.specs.declared.shape.Shape.{Shape}
use Rattle.band_needs.specs.declared.ranges.BandNeeds.{BandNeeds}
use Rattle.frame_output.specs.declared.rendering.Format.{Format}
use Rattle.inter_contexts.specs.BlockReferences.{reference_in}
use Rattle.band_needs.specs.declared.ranges.BandRange.{BandRange}
use Rattle.filtered_rows.specs.BufferRows.{HoldRows}
use Rattle.job_results.specs.numbered_frames.Coded.{CodedFrame, coded}
use Rattle.job_results.specs.numbered_frames.NumberedPictures.{pictures}
use Rattle.job_results.specs.seq_decoder.DecoderState.{Picture}
use Rattle.job_rows.specs.declared.references.ReferenceRows.{ReferenceRows}
use Rattle.job_results.specs.numbered_frames.Films.{Film}

-- a frame of this kind names the reference
abbrev pub Names : FrameKind → Reference → Type 0
Names kind r = (fields : InterFields) × (kind ≡ Inter fields) × ((reference : ReferenceFrame) × (reference_in fields.references reference ≡ r))

-- the header of frame f does
abbrev pub IsReferred : Format → Film → ℕ → Reference → Type 0
IsReferred format film f r = (c : CodedFrame) × (coded format film f ≡ Some c) × Names c.header.kind r

-- the frame is coded, and names these
abbrev pub NamesAll : Format → Film → ℕ → InterFields → Type 0
NamesAll format film f fields = (c : CodedFrame) × (coded format film f ≡ Some c) × (c.header.kind ≡ Inter fields)

-- bands lie in a frame of this shape
abbrev pub IsInside : Shape → BandRange → Type 0
IsInside shape bands = (bands.first ≤ bands.last) × (bands.last < superblocks_along (mi_rows shape))

-- so do those that are needed of the references
pub record AreInside (refs : References) (needs : BandNeeds) : Type 0 where
  pub last : IfSome needs.last (IsInside refs.last.shape)
  pub golden : IfSome needs.golden (IsInside refs.golden.shape)
  pub altref : IfSome needs.altref (IsInside refs.altref.shape)

-- the slot of the reference holds the frame of this number
pub record IsNumberOf (format : Format) (film : Film) (f : ℕ) (r : Reference) (n : ℕ) : Type 0 where
  pub frame : CodedFrame
  pub is : coded format film f ≡ Some frame
  pub picture : Picture
  pub held : slice_index_or frame.kept.state.slots r.slot None ≡ Some picture
  pub shape : picture.shape ≡ r.shape
  pub number : picture.frame ≡ n

-- rows of superblocks have some bands: they begin at or before them, and end behind the row below them, if there is one
pub record HaveBands (rows first count : ℕ) (bands : BandRange) : Type 0 where
  pub from : first ≤ bands.first
  pub to : min (bands.last + 1) (rows - 1) < first + count

-- rows of superblocks of the frame that a reference is, and what bands they have
pub record IsReferenceRows {X : Type 0} (format : Format) (film : Film) (f : ℕ) (r : Reference) (bands : Option BandRange) (rows : ReferenceRows X) : Type 0 where
  pub number : IsNumberOf format film f r rows.frame
  pub same : rows.shape ≡ r.shape
  pub shape : rows.shape ≡ (pictures format film rows.frame).shape
  pub held : HoldRows (pictures format film rows.frame) rows.first (map (λ b. b.now) rows.rows.items)
  pub have : IfSome bands (HaveBands (superblocks_along (mi_rows rows.shape)) rows.first (length rows.rows.items))
