-- Levels that tokens can code (6.4.24 of the standard).
use Rattle.std.specs.Prelude.{◌≡◌, ◌≢◌, ℕ, ◌<◌, ◌≤◌, ◌+◌, ◌-◌, ◌^◌, ℤ, pos, unsigned_abs, List, length, slice_index, slice_index_or}
use Rattle.std.specs.List.{All}
use Rattle.vp9_types.specs.declared.shape.Depth.{Depth}
use Rattle.vp9_tables.specs.Coefficients.{category_of}
use Rattle.coef_tokens.specs.Places.{Tables}

-- what the last category can say: it begins at 67, and has 14, 16 or 18 bits, by the depth
abbrev pub IsCoded : Depth → ℕ → Type 0
IsCoded depth m = m < 67 + 2 ^ length (category_of 6 depth)

-- the level of a position
abbrev pub level_in : List ℤ → ℕ → ℤ
level_in levels position = slice_index_or levels position (pos 0)

-- Levels by position, of which so many places of the scan are coded: all others are 0. more_coefs isn't read after a zero,
-- so the last place that is coded has a level, unless it is the scan's last.
pub record CanPut (t : Tables) (levels : List ℤ) (count : ℕ) : Type 0 where
  pub most : count ≤ length t.scan
  pub coded : All (λ level. IsCoded t.depth (unsigned_abs level)) levels
  pub others : (position : ℕ) → ((k : ℕ) → k < count → slice_index t.scan k ≢ position) → level_in levels position ≡ pos 0
  pub last : 0 < count → count < length t.scan → level_in levels (slice_index t.scan (count - 1)) ≢ pos 0
