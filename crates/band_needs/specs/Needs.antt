-- The bands that blocks need of their references, found from the first and the last row of each part.
use Rattle.std.specs.Prelude.{ℕ, ◌/◌, List, Option, Some, None}
use Rattle.std.specs.List.{fold, range_with_len}
use Rattle.vp9_types.specs.declared.block.ReferenceFrame.{ReferenceFrame}
use Rattle.vp9_types.specs.declared.shape.Plane.{Plane}
use Rattle.vp9_types.specs.declared.shape.Plane.TheVariants.{Y, U, V}
use Rattle.vp9_types.specs.declared.shape.Shape.{Shape}
use Rattle.block_plan.specs.declared.block.BlockInfo.{BlockInfo}
use Rattle.block_plan.specs.declared.block.InterPrediction.{InterPrediction}
use Rattle.block_plan.specs.declared.block.Prediction.{Prediction}
use Rattle.block_plan.specs.declared.block.Prediction.TheVariants.{Intra, Inter}
use Rattle.inter_places.specs.Axes.{first_place, last_place}
use Rattle.inter_places.specs.Places.{parts_of, place_of}
use Rattle.inter_places.specs.declared.axis.Axis.{Axis}
use Rattle.inter_places.specs.declared.axis.Place.{Place}
use Rattle.inter_places.specs.declared.part.BlockPart.{BlockPart}
use Rattle.band_needs.specs.Ranges.{both_ranges, with_range, no_needs}
use Rattle.band_needs.specs.BandReads.{part_in, band_height}
use Rattle.band_needs.specs.declared.ranges.BandRange.{BandRange}
use Rattle.band_needs.specs.declared.ranges.BandNeeds.{BandNeeds}

abbrev pub rows_range : ℕ → Axis → ℕ → BandRange
rows_range height down rows = record { first = first_place down / height; last = last_place down rows / height }

abbrev pub place_range : ℕ → Place → BandRange
place_range height at = rows_range height at.down at.rows

abbrev pub part_range : Shape → Shape → BlockInfo → InterPrediction → BlockPart → BandRange
part_range shape reference b modes part = place_range (band_height reference part.plane) (place_of shape b modes part reference)

-- one part more of a plane
abbrev pub with_part : Shape → Shape → BlockInfo → InterPrediction → ℕ → Plane → BandRange → ℕ → BandRange
with_part shape reference b modes list p s n = both_ranges s (part_range shape reference b modes (part_in p n list))

unfoldable pub plane_range : Shape → Shape → BlockInfo → InterPrediction → ℕ → Plane → BandRange
plane_range shape reference b modes list p =
    fold (with_part shape reference b modes list p) (part_range shape reference b modes (part_in p 0 list)) (range_with_len 0 (parts_of shape b.size p))

-- by the first vectors of a block or the second ones, in all planes
unfoldable pub list_range : Shape → Shape → BlockInfo → InterPrediction → ℕ → BandRange
list_range shape reference b modes list =
    both_ranges (both_ranges (plane_range shape reference b modes list Y) (plane_range shape reference b modes list U)) (plane_range shape reference b modes list V)

abbrev pub with_second : Shape → (ReferenceFrame → Shape) → BlockInfo → InterPrediction → Option ReferenceFrame → BandNeeds → BandNeeds
with_second shape references b modes None n = n
with_second shape references b modes (Some r) n = with_range n r (list_range shape (references r) b modes 1)

abbrev pub with_inter : Shape → (ReferenceFrame → Shape) → BlockInfo → BandNeeds → InterPrediction → BandNeeds
with_inter shape references b n modes =
    with_second shape references b modes modes.references.second
    (with_range n modes.references.first (list_range shape (references modes.references.first) b modes 0))

abbrev pub with_prediction : Shape → (ReferenceFrame → Shape) → BlockInfo → BandNeeds → Prediction → BandNeeds
with_prediction shape references b n (Intra modes) = n
with_prediction shape references b n (Inter modes) = with_inter shape references b n modes

-- those of one block more
unfoldable pub with_block : Shape → (ReferenceFrame → Shape) → BandNeeds → BlockInfo → BandNeeds
with_block shape references n b = with_prediction shape references b n b.prediction

unfoldable pub needs_of : Shape → (ReferenceFrame → Shape) → List BlockInfo → BandNeeds
needs_of shape references blocks = fold (with_block shape references) no_needs blocks
