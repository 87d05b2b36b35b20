-- What the rows of a frame owe to one another while they are filtered.
use Rattle.std.specs.Prelude.{ℕ, ◌+◌, ◌-◌, ◌*◌, ◌<◌, ◌≤◌, ◌≡◌, ◌⊎◌, List, min, nat_lt, if◌then◌else◌}
use Rattle.vp9_types.specs.Maps.{FrameMap}
use Rattle.vp9_types.specs.Shapes.{halved, mi_rows, coded_height}
use Rattle.vp9_types.specs.Sizes.{superblocks_along}
use Rattle.vp9_types.specs.declared.shape.Plane.{Plane}
use Rattle.vp9_types.specs.declared.shape.Shape.{Shape}
use Rattle.block_plan.specs.declared.block.BlockInfo.{BlockInfo}
use Rattle.loop_edges.specs.Cells.{sub_y}
use Rattle.loop_edges.specs.Code.{with_row, filtered_before}
use Rattle.loop_edges.specs.FrameEdges.{filtered_frame}
use Rattle.loop_edges.specs.declared.setting.EdgeSetting.{EdgeSetting}

-- the first row of a plane that a row of superblocks may change or read: the eighth above it
abbrev pub first_changed : Shape → Plane → ℕ → ℕ
first_changed shape plane sr = halved (sub_y shape plane) (64 * sr) - 8

-- its own first row; of one behind the last, the end of the plane
abbrev pub first_own : Shape → Plane → ℕ → ℕ
first_own shape plane sr = min (coded_height shape plane) (halved (sub_y shape plane) (64 * sr))

-- the row below its own
abbrev pub lower_end_of : Shape → Plane → ℕ → ℕ
lower_end_of shape plane sr = first_own shape plane (sr + 1)

-- Two frames agree from the first rows on that a row of superblocks reads.
abbrev pub AgreeFrom : Shape → ℕ → FrameMap → FrameMap → Type 0
AgreeFrom shape sr m n = (plane : Plane) (y x : ℕ) → first_changed shape plane sr ≤ y → m plane y x ≡ n plane y x

-- A row of superblocks changes no row of samples above its eight last ones, and reads none.
abbrev pub LeavesRowsAbove : EdgeSetting → List BlockInfo → ℕ → Type 0
LeavesRowsAbove f blocks sr = (m : FrameMap) (plane : Plane) (y x : ℕ) → y < first_changed f.shape plane sr → with_row f blocks m sr plane y x ≡ m plane y x

abbrev pub ReadsNoRowAbove : EdgeSetting → List BlockInfo → ℕ → Type 0
ReadsNoRowAbove f blocks sr = (m n : FrameMap) → AgreeFrom f.shape sr m n → AgreeFrom f.shape sr (with_row f blocks m sr) (with_row f blocks n sr)

-- Two frames agree in all rows that a row of superblocks may change or read.
abbrev pub AgreeOver : Shape → ℕ → FrameMap → FrameMap → Type 0
AgreeOver shape sr m n = (plane : Plane) (y x : ℕ) → first_changed shape plane sr ≤ y → y < lower_end_of shape plane sr → m plane y x ≡ n plane y x

-- Below its own rows it changes none either.
abbrev pub LeavesRowsBelow : EdgeSetting → List BlockInfo → ℕ → Type 0
LeavesRowsBelow f blocks sr = (m : FrameMap) (plane : Plane) (y x : ℕ) → lower_end_of f.shape plane sr ≤ y → with_row f blocks m sr plane y x ≡ m plane y x

-- What it makes of these rows depends on them alone.
abbrev pub ReadsItsRowsAlone : EdgeSetting → List BlockInfo → ℕ → Type 0
ReadsItsRowsAlone f blocks sr = (m n : FrameMap) → AgreeOver f.shape sr m n → AgreeOver f.shape sr (with_row f blocks m sr) (with_row f blocks n sr)

-- Once so many rows of superblocks are filtered, all but the last eight rows of samples are those of the filtered frame.
abbrev pub AreFinal : EdgeSetting → List BlockInfo → ℕ → Type 0
AreFinal f blocks rows = (m : FrameMap) (plane : Plane) (y x : ℕ) → y < first_changed f.shape plane rows → rows ≤ superblocks_along (mi_rows f.shape) →
    filtered_before f blocks m rows plane y x ≡ filtered_frame f blocks m plane y x

---- Row after row, in a buffer ----

-- the row below those that are final once a row of superblocks is filtered: of the last one all are
abbrev pub final_end : Shape → Plane → ℕ → ℕ
final_end shape plane sr = if nat_lt (sr + 1) (superblocks_along (mi_rows shape)) then first_changed shape plane (sr + 1) else lower_end_of shape plane sr

-- Before a row of superblocks is filtered a buffer has, of the frame whose rows before it are filtered, the pending rows: the
-- last eight, which it may still change.
abbrev pub HoldsPending : EdgeSetting → List BlockInfo → FrameMap → ℕ → FrameMap → Type 0
HoldsPending f blocks raw sr m = (plane : Plane) (y x : ℕ) → first_changed f.shape plane sr ≤ y → y < first_own f.shape plane sr →
    m plane y x ≡ filtered_before f blocks raw sr plane y x

-- and below them the row's own samples, as they are before the filter
abbrev pub HoldsStrips : Shape → FrameMap → ℕ → FrameMap → Type 0
HoldsStrips shape raw sr m = (plane : Plane) (y x : ℕ) → first_own shape plane sr ≤ y → y < lower_end_of shape plane sr → m plane y x ≡ raw plane y x

-- Then it has rows of the filtered frame.
abbrev pub HoldsFinal : EdgeSetting → List BlockInfo → FrameMap → ℕ → FrameMap → Type 0
HoldsFinal f blocks raw sr m = (plane : Plane) (y x : ℕ) → first_changed f.shape plane sr ≤ y → y < final_end f.shape plane sr →
    m plane y x ≡ filtered_frame f blocks raw plane y x

-- the pending rows of the next row of superblocks, and those that are final from now on
pub record FollowsOn (f : EdgeSetting) (blocks : List BlockInfo) (raw : FrameMap) (sr : ℕ) (m : FrameMap) : Type 0 where
  pub pending : HoldsPending f blocks raw (sr + 1) m
  pub final : HoldsFinal f blocks raw sr m

-- whatever the frame was before the filter: if m has the pending rows and the row's own samples of it, n follows on
abbrev pub IsNextOf : EdgeSetting → List BlockInfo → ℕ → FrameMap → FrameMap → Type 0
IsNextOf f blocks sr m n = (raw : FrameMap) → HoldsPending f blocks raw sr m → HoldsStrips f.shape raw sr m → FollowsOn f blocks raw sr n

abbrev pub RowsFollow : EdgeSetting → List BlockInfo → ℕ → Type 0
RowsFollow f blocks sr = (m : FrameMap) → sr < superblocks_along (mi_rows f.shape) → IsNextOf f blocks sr m (with_row f blocks m sr)

-- The rows of a row of superblocks are those of the filtered frame once the one below it is filtered too, or the last one is.
abbrev pub BandsAreFinal : EdgeSetting → List BlockInfo → ℕ → Type 0
BandsAreFinal f blocks rows = (raw : FrameMap) (band : ℕ) (plane : Plane) (y x : ℕ) → rows ≤ superblocks_along (mi_rows f.shape) →
    (band + 2 ≤ rows) ⊎ (rows ≡ superblocks_along (mi_rows f.shape)) → y < lower_end_of f.shape plane band →
    filtered_before f blocks raw rows plane y x ≡ filtered_frame f blocks raw plane y x
