-- The map of segment ids, one for each place of 8x8 (6.4.7 and 6.4.9 of the standard: get_segment_id and what is kept in
-- PrevSegmentIds).
use Rattle.std.specs.Prelude.{ℕ, List, min}
use Rattle.std.specs.List.{fold, flat_map, range_with_len}
use Rattle.vp9_types.specs.Maps.{Map, rows_of, row_of}
use Rattle.block_geometry.specs.declared.parts.Part.{Part}

pub record SegmentIds : Type 0 where
  pub rows : ℕ
  pub cols : ℕ
  pub ids : List ℕ

-- row, column, id
abbrev pub id_map : SegmentIds → Map
id_map m = rows_of m.cols m.ids

-- the ids of a part, row by row
abbrev pub ids_in : Map → Part → List ℕ
ids_in ids part = flat_map (λ r. row_of ids r part.col part.cols) (range_with_len part.row part.rows)

-- the least id of a part. No id is above 7
unfoldable pub least_id : Map → Part → ℕ
least_id ids part = fold min 7 (ids_in ids part)
