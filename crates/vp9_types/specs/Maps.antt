-- Words on planes: a plane is a map from row and column to sample, 0 outside of the plane.
use Rattle.std.specs.Prelude.{ℕ, ◌+◌, ◌-◌, ◌*◌, ◌≡◌, ◌≤◌, ◌<◌, ◌&&◌, Bool, List, length, map, slice_index, nat_lt, nat_le, if◌then◌else◌}
use Rattle.std.specs.List.{range_with_len}
use Rattle.vp9_types.specs.declared.shape.Plane.{Plane}
use Rattle.vp9_types.specs.declared.shape.Plane.TheVariants.{Y, U, V}

-- row, column, sample
abbrev pub Map : Type 0
Map = ℕ → ℕ → ℕ

abbrev pub FrameMap : Type 0
FrameMap = Plane → Map

-- rows of `width` samples, one after another
unfoldable pub rows_of : ℕ → List ℕ → Map
rows_of width samples = λ y x. if nat_lt x width then slice_index samples (y * width + x) else 0

-- n samples of row y, from column x on
abbrev pub row_of : Map → ℕ → ℕ → ℕ → List ℕ
row_of m y x n = map (m y) (range_with_len x n)

-- k is one of the n places from `from` on
abbrev pub is_within : ℕ → ℕ → ℕ → Bool
is_within from n k = nat_le from k && nat_lt k (from + n)

-- a block of rows and columns put in at row y and column x
unfoldable pub with_block : Map → ℕ → ℕ → ℕ → ℕ → Map → Map
with_block m y x rows columns block =
    λ r c. if is_within y rows r && is_within x columns c then block (r - y) (c - x) else m r c

-- a strip of `height` rows, and what lies below it
unfoldable pub stacked : ℕ → Map → Map → Map
stacked height above below = λ r c. if nat_lt r height then above r c else below (r - height) c

-- a frame of three planes
abbrev pub frame_map : Map → Map → Map → FrameMap
frame_map y u v Y = y
frame_map y u v U = u
frame_map y u v V = v

-- one plane replaced
unfoldable pub with_plane : FrameMap → Plane → Map → FrameMap
with_plane f Y m = frame_map m (f U) (f V)
with_plane f U m = frame_map (f Y) m (f V)
with_plane f V m = frame_map (f Y) (f U) m

-- a block buffer of rows of `size` holds what f says
abbrev pub HoldsRows : List ℕ → ℕ → ℕ → Map → Type 0
HoldsRows block size rows f = (i j : ℕ) → i < rows → j < size → slice_index block (i * size + j) ≡ f i j

abbrev pub Holds : List ℕ → ℕ → Map → Type 0
Holds block size f = HoldsRows block size size f

abbrev pub IsAtMost : ℕ → Map → Type 0
IsAtMost most m = (y x : ℕ) → m y x ≤ most

-- rows of w samples of a plane, row y and those below it: each begins `stride` samples behind the one above
pub record IsPiece (m : Map) (w y rows : ℕ) (samples : List ℕ) (stride : ℕ) : Type 0 where
  pub value : (r c : ℕ) → r < rows → c < w → slice_index samples (r * stride + c) ≡ m (y + r) c
  pub room : (r : ℕ) → r < rows → r * stride + w ≤ length samples
  pub near : stride ≤ 65536
