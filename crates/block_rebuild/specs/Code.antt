-- What the code asks of a block and of planes.
use Rattle.std.specs.Prelude.{◌≡◌, ◌<◌, ◌≤◌, ◌+◌, ◌*◌, ℕ, min, Option, Some, None, IfSome}
use Rattle.vp9_types.specs.Maps.{Map, FrameMap, IsAtMost}
use Rattle.vp9_types.specs.Shapes.{halved, mi_rows, mi_cols, plane_height, plane_width}
use Rattle.vp9_types.specs.Sizes.{greatest}
use Rattle.vp9_types.specs.declared.shape.Plane.{Plane}
use Rattle.vp9_types.specs.declared.shape.Plane.TheVariants.{Y, U, V}
use Rattle.vp9_types.specs.declared.shape.Shape.{Shape}
use Rattle.vp9_tables.specs.BlockTables.{greatest_of}
use Rattle.vp9_tables.specs.Numbers.{tx_number}
use Rattle.block_plan.specs.InPlanes.{mode_at}
use Rattle.block_plan.specs.Planned.{Residue}
use Rattle.block_plan.specs.declared.block.BlockInfo.{BlockInfo}
use Rattle.block_plan.specs.declared.block.Prediction.{Prediction}
use Rattle.block_plan.specs.declared.block.Prediction.TheVariants.{Intra, Inter}
use Rattle.block_plan.specs.declared.block.InterPrediction.{InterPrediction}
use Rattle.inter_places.specs.Axes.{IsPlace, first_place, last_place}
use Rattle.inter_places.specs.Places.{IsReference, parts_of, place_of, is_subsampled, coded_length}
use Rattle.inter_places.specs.declared.part.Direction.TheVariants.{Down, Across}
use Rattle.block_geometry.specs.BlockSizes.{width_8, height_8}
use Rattle.inter_places.specs.declared.part.BlockPart.{BlockPart}
use Rattle.intra_predict.specs.Places.{place_in}
use Rattle.intra_predict.specs.declared.block.IntraBlock.{IntraBlock}
use Rattle.planes.specs.declared.frame_planes.FramePlanes.{FramePlanes}
use Rattle.planes.specs.Planes.{PlaneSamples, lower_end, plane_map, right_end}
use Rattle.planes.specs.declared.area.Area.{Area}
use Rattle.vp9_types.specs.declared.block.ReferenceFrame.{ReferenceFrame}
use Rattle.vp9_types.specs.declared.block.ReferenceFrame.TheVariants.{Last, Golden, Altref}
use Rattle.vp9_types.specs.declared.shape.Depth.{Depth}
use Rattle.block_geometry.specs.declared.transform_blocks.PlaneBlock.{PlaneBlock}
use Rattle.block_geometry.specs.declared.transform_blocks.TransformPlace.{TransformPlace}
use Rattle.block_rebuild.specs.RebuiltBlocks.{put_residue}
use Rattle.block_rebuild.specs.InterBlocks.{ReferencePicture, Rebuilding, add_residue, no_picture, part_of}
use Rattle.block_rebuild.specs.declared.references.ReferencePicture as code_picture
use Rattle.block_rebuild.specs.declared.references.Rebuilding as code
use Rattle.block_rebuild.specs.declared.in_plane.IntraInPlane.{IntraInPlane}
use Rattle.block_rebuild.specs.declared.inter_in_plane.TwoPlaces.{TwoPlaces}

-- a block that starts inside its frame and its tile, with a transform that fits
pub record IsPlaced (shape : Shape) (tile_from : ℕ) (b : BlockInfo) : Type 0 where
  pub row : b.row < mi_rows shape
  pub column : b.col < mi_cols shape
  pub tile : tile_from ≤ b.col
  pub fits : tx_number b.tx ≤ greatest_of b.size

-- An area of a plane has the samples of a block, those of its tile left of it, and the row above: all of the plane, or a strip.
pub record HoldsBlock (shape : Shape) (p : Plane) (tile_from : ℕ) (b : BlockInfo) (a : Area) : Type 0 where
  pub top : a.first_row ≤ halved (is_subsampled shape p Down) (8 * b.row)
  pub above : 0 < halved (is_subsampled shape p Down) (8 * b.row) → a.first_row < halved (is_subsampled shape p Down) (8 * b.row)
  pub left : a.first_column ≤ halved (is_subsampled shape p Across) (8 * tile_from)
  pub bottom : min (coded_length shape p Down) (halved (is_subsampled shape p Down) (8 * (b.row + height_8 b.size))) ≤ lower_end a
  pub right : min (coded_length shape p Across) (halved (is_subsampled shape p Across) (8 * (b.col + width_8 b.size))) ≤ right_end a
  pub low : lower_end a ≤ coded_length shape p Down
  pub narrow : right_end a ≤ coded_length shape p Across

-- a part of a plane that holds a block, with samples in the range of its depth
pub record IsPartOf (shape : Shape) (p : Plane) (tile_from : ℕ) (b : BlockInfo) (s : PlaneSamples) : Type 0 where
  pub area : HoldsBlock shape p tile_from b s.area
  pub range : IsAtMost (greatest shape.depth) (plane_map s)

-- in all planes
pub record HoldsBlockIn {X : Type 0} (shape : Shape) (tile_from : ℕ) (b : BlockInfo) (f : FramePlanes X) : Type 0 where
  pub y : HoldsBlock shape Y tile_from b f.y.area
  pub u : HoldsBlock shape U tile_from b f.u.area
  pub v : HoldsBlock shape V tile_from b f.v.area

-- two frames' planes lie in the same places
pub record HasAreasOf {X : Type 0} (f g : FramePlanes X) : Type 0 where
  pub y : g.y.area ≡ f.y.area
  pub u : g.u.area ≡ f.u.area
  pub v : g.v.area ≡ f.v.area

-- the transform block at a row and column of an intra block in a plane
abbrev pub block_at : IntraInPlane → TransformPlace → IntraBlock
block_at b at = record { place = place_in b.coded at.row at.column; size = b.tx; mode = mode_at b.modes.now b.size b.plane at.row at.column }

-- one more is put into an area
abbrev pub put_more : Area → IntraInPlane → Map → TransformPlace × Residue → Map
put_more a b m r = put_residue (right_end a) (lower_end a) b.depth (block_at b r.0) r.1 m

-- the residue of one more is added in an area
abbrev pub add_more : Area → Depth → PlaneBlock → Map → TransformPlace × Residue → Map
add_more a depth b m r = add_residue (right_end a) (lower_end a) depth b r.0 r.1 m

---- Pictures that blocks refer to ----

abbrev pub picture_of : {S : Type 0} → (S → FrameMap) → Option (code_picture.ReferencePicture S) → ReferencePicture
picture_of map None = no_picture
picture_of map (Some r) = record { shape = r.shape; map = map r.samples.now }

abbrev pub reference_of : {S : Type 0} → code.Rebuilding S → ReferenceFrame → Option (code_picture.ReferencePicture S)
reference_of by Last = by.last
reference_of by Golden = by.golden
reference_of by Altref = by.altref

-- what the code holds, as the standard says it
abbrev pub rebuilding_of : {S : Type 0} → (S → FrameMap) → code.Rebuilding S → Rebuilding
rebuilding_of map by = record { shape = by.shape; references = λ reference. picture_of map (reference_of by reference) }

-- a picture whose size is in range for a frame, with all rows of its planes, each sample in the range of the frame's depth
pub record IsUsable {S : Type 0} (holds : S → Plane → ℕ → Type 0) (width : S → Plane → ℕ) (map : S → FrameMap) (shape : Shape) (r : code_picture.ReferencePicture S) : Type 0 where
  pub reference : IsReference shape r.shape
  pub held : (p : Plane) (y : ℕ) → y < plane_height r.shape p → holds r.samples.now p y
  pub wide : (p : Plane) → plane_width r.shape p ≤ width r.samples.now p
  pub range : (p : Plane) → IsAtMost (greatest shape.depth) (map r.samples.now p)

-- there is such a picture
abbrev pub HasReference : {S : Type 0} → (S → Plane → ℕ → Type 0) → (S → Plane → ℕ) → (S → FrameMap) → code.Rebuilding S → ReferenceFrame → Type 0
HasReference {S} holds width map by reference = (r : code_picture.ReferencePicture S) × (reference_of by reference ≡ Some r) × IsUsable holds width map by.shape r

-- for each that a block refers to
abbrev pub HasReferences : {S : Type 0} → (S → Plane → ℕ → Type 0) → (S → Plane → ℕ) → (S → FrameMap) → code.Rebuilding S → Prediction → Type 0
HasReferences holds width map by (Intra modes) = Unit {0}
HasReferences holds width map by (Inter modes) =
    HasReference holds width map by modes.references.first × IfSome modes.references.second (HasReference holds width map by)

---- Pictures of which only some rows are there ----

-- the rows from the first to the last that a part of a block is predicted from
abbrev pub HoldsPart : {S : Type 0} → (S → Plane → ℕ → Type 0) → Shape → BlockInfo → InterPrediction → BlockPart → code_picture.ReferencePicture S → Type 0
HoldsPart holds shape b modes part r =
    (y : ℕ) → first_place (place_of shape b modes part r.shape).down ≤ y → y ≤ last_place (place_of shape b modes part r.shape).down (place_of shape b modes part r.shape).rows →
    holds r.samples.now part.plane y

-- A picture serves a block, by its first vectors (0) or the second ones (1): it has the rows that the block is predicted from,
-- whatever else it has.
pub record Serves {S : Type 0} (holds : S → Plane → ℕ → Type 0) (width : S → Plane → ℕ) (map : S → FrameMap) (shape : Shape) (b : BlockInfo) (modes : InterPrediction) (list : ℕ)
    (r : code_picture.ReferencePicture S) : Type 0 where
  pub reference : IsReference shape r.shape
  pub held : (p : Plane) (n : ℕ) → n < parts_of shape b.size p → HoldsPart holds shape b modes (part_of p n list) r
  pub wide : (p : Plane) → plane_width r.shape p ≤ width r.samples.now p
  pub range : (p : Plane) → IsAtMost (greatest shape.depth) (map r.samples.now p)

-- there is such a picture
abbrev pub IsServed : {S : Type 0} → (S → Plane → ℕ → Type 0) → (S → Plane → ℕ) → (S → FrameMap) → code.Rebuilding S → BlockInfo → InterPrediction → ℕ → ReferenceFrame → Type 0
IsServed {S} holds width map by b modes list reference =
    (r : code_picture.ReferencePicture S) × (reference_of by reference ≡ Some r) × Serves holds width map by.shape b modes list r

-- for each that a block refers to
abbrev pub AreServed : {S : Type 0} → (S → Plane → ℕ → Type 0) → (S → Plane → ℕ) → (S → FrameMap) → code.Rebuilding S → BlockInfo → Prediction → Type 0
AreServed holds width map by b (Intra modes) = Unit {0}
AreServed holds width map by b (Inter modes) =
    IsServed holds width map by b modes 0 modes.references.first × IfSome modes.references.second (IsServed holds width map by b modes 1)

---- Parts with two references ----

-- the places of a part of a block in its first reference and in its second
pub record AreTwoPlaces (by : Rebuilding) (b : BlockInfo) (modes : InterPrediction) (n : ℕ) (places : TwoPlaces) : Type 0 where
  pub second : modes.references.second ≡ Some places.second
  pub at : places.at ≡ place_of by.shape b modes (part_of places.at.plane n 0) (by.references modes.references.first).shape
  pub other : places.other ≡ place_of by.shape b modes (part_of places.at.plane n 1) (by.references places.second).shape
  pub fits : IsPlace places.at
  pub other_fits : IsPlace places.other

-- places in U, and those of the part of V with the same number
abbrev pub AreInV : TwoPlaces → TwoPlaces → Type 0
AreInV u v = (by : Rebuilding) (b : BlockInfo) (modes : InterPrediction) (n : ℕ) → AreTwoPlaces by b modes n u → AreTwoPlaces by b modes n v
