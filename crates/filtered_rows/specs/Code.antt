-- What is copied, and what `FilteredFrame` says of itself.
use Rattle.std.specs.Prelude.{ℕ, ◌+◌, ◌-◌}
use Rattle.vp9_types.specs.declared.shape.Plane.{Plane}
use Rattle.vp9_types.specs.declared.shape.Shape.{Shape}
use Rattle.vp9_types.specs.Maps.{FrameMap}
use Rattle.vp9_types.specs.Shapes.{coded_width}
use Rattle.planes.specs.declared.area.Area.{Area}
use Rattle.band_cells.specs.Bands.{Picture}
use Rattle.loop_filter.specs.Laws.{first_changed, first_own}
use Rattle.filtered_rows.specs.BufferRows.{RowSpan, IsFinalWithin}

-- the rows of a plane that are pending for a row of superblocks
abbrev pub pending_part : Shape → Plane → ℕ → Area
pending_part shape plane row = record {
  first_row = first_changed shape plane row;
  first_column = 0;
  rows = first_own shape plane row - first_changed shape plane row;
  columns = coded_width shape plane;
}

-- so many rows of superblocks, from a first one on
abbrev pub rows_from : ℕ → ℕ → ℕ → RowSpan
rows_from frame first count = record { frame = frame; first = first; end = first + count }

-- what `FilteredFrame` has: the rows that these rows of superblocks make final, of the pictures of a run
abbrev pub held_in : (ℕ → Picture) → RowSpan → Plane → ℕ → Type 0
held_in pictures rows p y = IsFinalWithin (pictures rows.frame).shape rows p y

abbrev pub width_in : (ℕ → Picture) → RowSpan → Plane → ℕ
width_in pictures rows p = coded_width (pictures rows.frame).shape p

abbrev pub map_in : (ℕ → Picture) → RowSpan → FrameMap
map_in pictures rows = (pictures rows.frame).map
