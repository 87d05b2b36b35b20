-- What a table of pictures holds.
use Rattle.std.specs.Prelude.{◌≡◌, ◌<◌, ◌==◌, ℕ, Bool, false, List, map, length, Option, Some, None, All, IfSome, slice_get}
use Rattle.std.specs.List.{list_any}
use Rattle.vp9_types.specs.Maps.{FrameMap}
use Rattle.vp9_types.specs.declared.shape.Shape.{Shape}
use Rattle.picture_table.specs.KeptPictures.{IsSound, map_of_any, shape_of_any}
use Rattle.picture_table.specs.declared.any.AnyPicture.{AnyPicture}
use Rattle.picture_table.specs.declared.table.PictureTable.{PictureTable}

abbrev pub is_named : ℕ → Option ℕ → Bool
is_named place None = false
is_named place (Some named) = named == place

-- a slot names this place
abbrev pub names : ℕ → List (Option ℕ) → Bool
names place slots = list_any (is_named place) slots

abbrev pub IsBelow : ℕ → Option ℕ → Type 0
IsBelow count slot = IfSome slot (λ place. place < count)

-- the picture at a place is, if one is there
abbrev pub IsSoundAt : List AnyPicture → ℕ → Type 0
IsSoundAt pictures place = IfSome (slice_get pictures place) IsSound

abbrev pub NamesSound : List AnyPicture → Option ℕ → Type 0
NamesSound pictures slot = IfSome slot (IsSoundAt pictures)

-- the places that slots name are there, and their pictures are sound
pub record IsTable (t : PictureTable) : Type 0 where
  pub many : length t.slots ≡ 8
  pub within : All (IsBelow (length t.pictures.items)) t.slots
  pub sound : All (NamesSound t.pictures.items) t.slots

-- the picture at a place is so
abbrev pub HasPicture : PictureTable → ℕ → (AnyPicture → Type 0) → Type 0
HasPicture t place P = (p : AnyPicture) × (slice_get t.pictures.items place ≡ Some p) × P p

-- what a picture shows
abbrev pub shown : Option AnyPicture → Option (Shape × FrameMap)
shown None = None
shown (Some p) = Some (shape_of_any p, map_of_any p)

-- what a slot holds
abbrev pub held_in : List AnyPicture → Option ℕ → Option (Shape × FrameMap)
held_in pictures None = None
held_in pictures (Some place) = shown (slice_get pictures place)

-- what the slots hold
abbrev pub held : PictureTable → List (Option (Shape × FrameMap))
held t = map (held_in t.pictures.items) t.slots
