-- The pictures that a frame's blocks are predicted from.
use Rattle.std.specs.Prelude.{◌≡◌, true, ℕ}
use Rattle.vp9_types.specs.declared.block.ReferenceFrame.{ReferenceFrame}
use Rattle.vp9_types.specs.declared.shape.Plane.{Plane}
use Rattle.frame_headers.specs.References.{has_allowed_scale}
use Rattle.frame_headers.specs.HeaderState.{shape_of}
use Rattle.frame_headers.specs.declared.header.FrameKind.TheVariants.{Inter}
use Rattle.frame_headers.specs.declared.header.Header.{Header}
use Rattle.frame_headers.specs.declared.header.InterFields.{InterFields}
use Rattle.inter_contexts.specs.BlockReferences.{reference_in}
use Rattle.planes.specs.Pictures.{map_of, plane_of}
use Rattle.planes.specs.Planes.{HasRow}
use Rattle.planes.specs.declared.picture.Picture.{Picture}
use Rattle.block_rebuild.specs.Code.{HasReference}
use Rattle.block_rebuild.specs.declared.references.Rebuilding.{Rebuilding}

-- the rows of a picture (as it tells them by `Samples`)
abbrev pub has_row : {X : Type 0} → Picture X → Plane → ℕ → Type 0
has_row f p y = HasRow (plane_of f.planes p).area y 0 (plane_of f.planes p).area.columns

abbrev pub row_width : {X : Type 0} → Picture X → Plane → ℕ
row_width f p = (plane_of f.planes p).area.columns

-- whichever reference is in range is there
abbrev pub HasPictures : {X : Type 0} → Header → Rebuilding (Picture X) → Type 0
HasPictures header pictures =
    (fields : InterFields) (reference : ReferenceFrame) → header.kind ≡ Inter fields → has_allowed_scale header.size (reference_in fields.references reference) ≡ true
    → HasReference has_row row_width map_of pictures reference

-- they can be used for this frame
pub record ArePicturesOf {X : Type 0} (header : Header) (pictures : Rebuilding (Picture X)) : Type 0 where
  pub shape : pictures.shape ≡ shape_of header
  pub there : HasPictures header pictures
