-- Vectors, in eighths of a luma sample, and what is made of them when they are predicted (6.5 of the standard: clamp_mv_ref
-- in find_mv_refs, find_best_ref_mvs).
use Rattle.std.specs.Prelude.{ℕ, ◌+◌, ◌*◌, ◌<◌, ℤ, pos, neg_ℤ, ◌-ℤ◌, ◌*ℤ◌, Bool, ◌&&◌, unsigned_abs, int_div, nat_lt, if◌then◌else◌}
use Rattle.std.specs.Ordering.{int_eq}
use Rattle.block_geometry.specs.BlockSizes.{width_8, height_8}
use Rattle.block_plan.specs.BlockMvs.{clip3}
use Rattle.block_plan.specs.declared.block.Mv.{Mv}
use Rattle.mv_prediction.specs.declared.search.MvSearch.{MvSearch}

abbrev pub same_vector : Mv → Mv → Bool
same_vector a b = int_eq a.row b.row && int_eq a.column b.column

abbrev pub negated : Mv → Mv
negated v = record { row = neg_ℤ v.row; column = neg_ℤ v.column }

-- how far a block may be led: 128, which are 16 samples, beyond the first of the places of 8x8 and beyond the last
abbrev pub reach_before : ℕ → ℤ
reach_before at = neg_ℤ (pos (64 * at + 128))

abbrev pub reach_after : ℕ → ℕ → ℕ → ℤ
reach_after at side end = pos (64 * end + 128) -ℤ pos (64 * (at + side))

unfoldable pub clamp_mv_ref : MvSearch → Mv → Mv
clamp_mv_ref s v = record {
  row = clip3 (reach_before s.at.row) (reach_after s.at.row (height_8 s.at.size) s.places.rows) v.row;
  column = clip3 (reach_before s.at.col) (reach_after s.at.col (width_8 s.at.size) s.places.cols) v.column;
}

-- usehp's test: (Abs(component) >> 3) < COMPANDED_MVREF_THRESH, which is 8, for both components
abbrev pub is_short_vector : Mv → Bool
is_short_vector v = nat_lt (unsigned_abs v.row) 64 && nat_lt (unsigned_abs v.column) 64

-- an odd component goes to the even one next to it, toward 0
abbrev pub evened : ℤ → ℤ
evened x = int_div x (pos 2) *ℤ pos 2

-- find_best_ref_mvs: high precision is kept where the frame allows it and the vector is short. The clamp that follows there reaches further
-- than that of clamp_mv_ref, and changes nothing behind it.
abbrev pub usable_precision : Bool → Mv → Mv
usable_precision allowed v = if allowed && is_short_vector v then v else record { row = evened v.row; column = evened v.column }

-- Each vector that is read is between -16384 and 16384, so each of a frame is.
abbrev pub IsSmallVector : Mv → Type 0
IsSmallVector v = (unsigned_abs v.row < 16384) × (unsigned_abs v.column < 16384)
