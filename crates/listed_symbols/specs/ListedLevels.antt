-- The levels of a block, as they are listed (6.4.21 and 6.4.24 of the standard: residual, tokens), and where they stand.
use Rattle.std.specs.Prelude.{ℕ, suc, ◌+◌, ◌-◌, ◌*◌, ◌^◌, ℤ, pos, unsigned_abs, Bool, ◌&&◌, ◌||◌, not, List, [], ◌∷◌, ◌++◌, length, take, drop, replicate, get_or, slice_index, slice_index_or, slice_set, nat_eq, nat_le, nat_lt, Option, Some, None, if◌then◌else◌}
use Rattle.std.specs.List.{list_all}
use Rattle.vp9_types.specs.declared.shape.Depth.{Depth}
use Rattle.vp9_tables.specs.Coefficients.{category_of}
use Rattle.vp9_tables.specs.Scans.{area, scan_of}
use Rattle.block_geometry.specs.TransformBlocks.{place_at}
use Rattle.block_geometry.specs.declared.transform_blocks.TransformPlace.{TransformPlace}
use Rattle.residue_syntax.specs.BlocksInPlanes.{type_at}
use Rattle.residue_syntax.specs.declared.in_plane.BlockInPlane.{BlockInPlane}
use Rattle.residue_writer.specs.declared.levels.PlaneLevels.{PlaneLevels}

---- Of a transform block ----

-- the last category can say it
abbrev pub is_coded : Depth → ℤ → Bool
is_coded depth level = nat_lt (unsigned_abs level) (67 + 2 ^ length (category_of 6 depth))

abbrev pub is_zero : ℤ → Bool
is_zero level = nat_eq (unsigned_abs level) 0

-- the last of so many levels isn't zero
abbrev pub ends : List ℤ → Bool
ends levels = nat_eq (length levels) 0 || not (is_zero (slice_index_or levels (length levels - 1) (pos 0)))

-- whether tokens can say levels, which stand in the first places of a scan of so many: the last one isn't zero unless it is
-- the scan's last
unfoldable pub can_levels : Depth → ℕ → List ℤ → Bool
can_levels depth places levels =
    nat_le (length levels) places && list_all (is_coded depth) levels && (nat_eq (length levels) places || ends levels)

-- levels by position: they stand in the places of a scan from the k-th on
abbrev pub placed_from : ℕ → List ℕ → List ℤ → List ℤ → List ℤ
placed_from k scan [] values = values
placed_from k scan (level ∷ levels) values = placed_from (suc k) scan levels (slice_set values (slice_index scan k) level)

-- the others are zeros
unfoldable pub by_position : ℕ → List ℕ → List ℤ → List ℤ
by_position places scan levels = placed_from 0 scan levels (replicate places (pos 0))

---- Of a block in a plane ----

-- so many values from a place on are replaced
abbrev pub with_run : ℕ → ℕ → List ℤ → List ℤ → List ℤ
with_run from count run values = take from values ++ (run ++ drop count (drop from values))

-- the k-th transform block, which stands at a row and column, has these levels
unfoldable pub with_levels : BlockInPlane → TransformPlace → ℕ → List ℤ → PlaneLevels → PlaneLevels
with_levels b at k levels s =
    let tx = b.block.tx in
    record {
      counts = slice_set s.counts k (length levels);
      values = with_run (k * area tx) (area tx) (by_position (area tx) (scan_of tx (type_at b at.row at.column)) levels) s.values;
    }

-- the transform blocks from the k-th on have levels that are listed one after another, if tokens can say them; those behind
-- have none, and there is a transform block for each
unfoldable pub with_each : BlockInPlane → List TransformPlace → ℕ → List (List ℤ) → PlaneLevels → Option PlaneLevels
with_each b places k [] s = Some s
with_each b places k (levels ∷ lists) s =
    if nat_lt k (length places) && can_levels b.quant.depth (area b.block.tx) levels
    then with_each b places (k + 1) lists (with_levels b (get_or places k (place_at 0 0)) k levels s) else None

abbrev pub no_levels : PlaneLevels
no_levels = record { counts = replicate 256 0; values = replicate 4096 (pos 0) }
