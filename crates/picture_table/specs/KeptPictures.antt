-- Pictures, whatever they keep a sample as.
use Rattle.std.specs.Prelude.{◌≡◌, Option, Some, None}
use Rattle.vp9_types.specs.Maps.{FrameMap}
use Rattle.vp9_types.specs.declared.shape.Depth.{Depth}
use Rattle.vp9_types.specs.declared.shape.Depth.TheVariants.{Eight}
use Rattle.vp9_types.specs.declared.shape.Shape.{Shape}
use Rattle.planes.specs.Pictures.{FitsPlanes, HasSizes, IsBlank, IsInRange, map_of}
use Rattle.planes.specs.declared.picture.Picture.{Picture}
use Rattle.picture_table.specs.declared.any.AnyPicture.{AnyPicture}
use Rattle.picture_table.specs.declared.any.AnyPicture.TheVariants.{Bytes, Words}

abbrev pub shape_of_any : AnyPicture → Shape
shape_of_any (Bytes p) = p.shape
shape_of_any (Words p) = p.shape

abbrev pub depth_of : AnyPicture → Depth
depth_of p = (shape_of_any p).depth

abbrev pub map_of_any : AnyPicture → FrameMap
map_of_any (Bytes p) = map_of p
map_of_any (Words p) = map_of p

-- bytes keep samples of depth 8, words those of the others
abbrev pub KeepInBytes : Depth → Type 0
KeepInBytes depth = depth ≡ Eight

abbrev pub KeepInWords : Depth → Type 0
KeepInWords depth = depth ≡ Eight → ⊥

-- it has room for pictures of this shape: planes of its sizes, which keep samples as its depth asks
abbrev pub HasRoomFor : Shape → AnyPicture → Type 0
HasRoomFor shape (Bytes p) = HasSizes shape p.planes × KeepInBytes shape.depth
HasRoomFor shape (Words p) = HasSizes shape p.planes × KeepInWords shape.depth

-- zeros of this shape
abbrev pub IsBlankAs : Shape → AnyPicture → Type 0
IsBlankAs shape (Bytes p) = IsBlank shape p × KeepInBytes shape.depth
IsBlankAs shape (Words p) = IsBlank shape p × KeepInWords shape.depth

-- a picture of a size that frames have, with all samples of its shape, each in the range of its depth
pub record IsWhole {X : Type 0} (p : Picture X) : Type 0 where
  pub fits : FitsPlanes p.shape
  pub sizes : HasSizes p.shape p.planes
  pub range : IsInRange p.shape.depth p.planes

-- such a picture, which keeps its samples as its depth asks
abbrev pub IsSound : AnyPicture → Type 0
IsSound (Bytes p) = IsWhole p × KeepInBytes p.shape.depth
IsSound (Words p) = IsWhole p × KeepInWords p.shape.depth

-- the same picture by what it keeps a sample as
abbrev pub IsThere : {X : Type 0} → AnyPicture → Option (Picture X) → Type 0
IsThere told None = ⊥
IsThere told (Some p) = IsWhole p × (p.shape ≡ shape_of_any told) × (map_of p ≡ map_of_any told)
