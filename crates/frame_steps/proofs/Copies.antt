-- Tile columns and counts, copied.
use Rattle.std.proofs.Common.{◌≡◌, ◌∙◌, ◌<◌, ◌≤◌, ◌+◌, ◌-◌, ◌*◌, ◌/◌, ◌^◌, ℕ, zero, suc, List, [], ◌∷◌, ◌++◌, length, take, get_or, ap, inl, inr, sym, subst, arith}
use Rattle.std.specs.Prelude.{All, Bool, false, ◌&&◌, if◌then◌else◌, replicate, IfOk, IfSome, Option, None, Result, Ok, Err}
use Rattle.std.proofs.lemmas.List.{take_more}
use Rattle.std.proofs.lemmas.Bool.{cases_lt}
use Rattle.std.proofs.Math.Nat.{le-div_iff_mul-le, mul_comm, mul-le-mul_left, mul-le-mul_right}
use Rattle.std.proofs.lemmas.Nat.{pow_pos}
use Rattle.vp9_types.specs.Shapes.{mi_cols, mi_rows}
use Rattle.vp9_types.specs.Sizes.{superblocks_along}
use Rattle.vp9_types.specs.declared.shape.Shape.{Shape}
use Rattle.frame_headers.specs.Spans.{tile_count}
use Rattle.frame_headers.specs.FrameSizes.{HasFrameSize}
use Rattle.frame_headers.specs.HeaderState.{SlotsHaveSizes, shape_of, start_persist}
use Rattle.frame_headers.specs.declared.header.Header.{Header}
use Rattle.block_geometry.specs.BlockSizes.{width_8}
use Rattle.block_plan.specs.declared.block.BlockInfo.{BlockInfo}
use Rattle.residue_syntax.specs.Code.{FitPlanes}
use Rattle.block_geometry.specs.declared.transform_blocks.FramePlaces.{FramePlaces}
use Rattle.column_plan.specs.PlanRows.{place_of_row}
use Rattle.column_plan.specs.declared.rows.RowPlace.{RowPlace}
use Rattle.frame_headers.specs.declared.segments.Segmentation.{Segmentation}
use Rattle.inter_modes.specs.LeftSegments.{segments_after, segments_of, updates}
use Rattle.recon_rows.proofs.RowSteps.{in_column}
use Rattle.vp9_types.specs.Maps.{Map}
use Rattle.frame_setting.specs.declared.setting.FrameSetting.{FrameSetting}
use Rattle.seq_decoder.specs.frame_state.KeptColumns.{AllFit, AllLie, AllSmall, AllStart, IsTileColumn, limit_of}
use Rattle.seq_decoder.specs.frame_state.TilePlaces.{tile_offset}
use Rattle.seq_decoder.specs.frame_state.declared.columns.TileColumn.{TileColumn}
use Rattle.seq_decoder.proofs.of_frame_state.TileOffsets.{column_ends}
use Rattle.recon_rows.specs.column_order.ColumnStrips.{column_from}

some_power : (n : ℕ) → 0 < 2 ^ n
some_power n = pow_pos n

---- Blocks ----

both_hold : {X : Type 0} (P Q R : X → Type 0) (xs : List X) → ((x : X) → P x → Q x → R x) → All P xs → All Q xs → All R xs
both_hold P Q R xs f ps qs = λ k d low. f (get_or xs k d) (ps k d low) (qs k d low)

-- a block can be put into the grid of its tile column
abbrev pub CanBePut : Header → ℕ → BlockInfo → Type 0
CanBePut header k b = (b.row < mi_rows (shape_of header)) × (column_from header k ≤ b.col) × (b.col < column_from header (k + 1))

put_one : (header : Header) (k : ℕ) (c : TileColumn) → IsTileColumn header (tile_count header) k c → (b : BlockInfo)
    → (b.row < mi_rows (shape_of header)) × (b.col < mi_cols (shape_of header)) × (b.segment < 8) → (c.grid.from ≤ b.col) × (b.col + width_8 b.size ≤ limit_of c) → CanBePut header k b
put_one header k c h b starts lies =
    let cols = mi_cols (shape_of header) in
    let log2 = header.params.tiles.columns_log2 in
    let ends = column_ends cols log2 k in
    let limit : limit_of c ≡ tile_offset cols log2 k + 8 * superblocks_along (tile_offset cols log2 (k + 1) - tile_offset cols log2 k) = λ i. h.from i + 8 * superblocks_along (h.to i - h.from i) in
    (starts.0, omega (arith, h.from, lies.0), omega (arith, ends, limit, starts.1, lies.1))

pub can_be_put : (header : Header) (k : ℕ) (c : TileColumn) → IsTileColumn header (tile_count header) k c → All (CanBePut header k) c.grid.blocks
can_be_put header k c h =
    both_hold (λ (b : BlockInfo). (b.row < mi_rows (shape_of header)) × (b.col < mi_cols (shape_of header)) × (b.segment < 8))
    (λ (b : BlockInfo). (c.grid.from ≤ b.col) × (b.col + width_8 b.size ≤ limit_of c)) (CanBePut header k) c.grid.blocks (put_one header k c h) h.starts h.lie

-- one block more
pub grown : (xs grid : List BlockInfo) (i : ℕ) (d : BlockInfo) → grid ≡ take i xs → i < length xs → grid ++ get_or xs i d ∷ [] ≡ take (i + 1) xs
grown xs grid i d is low = ap (λ (g : List BlockInfo). g ++ get_or xs i d ∷ []) is ∙ sym (take_more xs i d low)

---- The column ----

-- behind the last tile there is no superblock
all_before : (s r q : ℕ) → 0 < q → q ≤ r → s ≤ r * s / q
all_before s r q parts rows =
    let one : s * q ≤ r * s = subst (λ (n : ℕ). n ≤ r * s) (mul_comm q s) (mul-le-mul_right s rows) in
    (le-div_iff_mul-le parts).1 one

row_behind : (r p k q : ℕ) → k < p → p * q ≤ r * p + k → q ≤ r
row_behind r p k q low behind = elim (cases_lt r q) [
  | inl less ↦
      let more : p * (r + 1) ≤ p * q = mul-le-mul_left p (omega (arith, less)) in
      let spread : p * (r + 1) ≡ r * p + p = grind arith in
      absurd (omega (arith, low, behind, more, spread))
  | inr more ↦ more
]

none_left : (a s r p k q room : ℕ) → 0 < q → k < p → p * q ≤ r * p + k → 64 * (a * (s - r * s / q)) ≤ room
none_left a s r p k q room parts low behind =
    let all = all_before s r q parts (row_behind r p k q low behind) in
    let none : s - r * s / q ≡ 0 = omega (arith, all) in
    let nothing : 64 * (a * (s - r * s / q)) ≡ 0 = rw none (grind arith) in
    omega (arith, nothing)

-- a tile column with the blocks of one behind the frame's last tile is one, too
pub is_copied : (header : Header) (k : ℕ) (c d : TileColumn) → k < 2 ^ header.params.tiles.columns_log2 → IsTileColumn header (tile_count header) k c
    → d.grid.rows ≡ mi_rows (shape_of header) → d.grid.from ≡ column_from header k → d.grid.to ≡ column_from header (k + 1) → d.grid.blocks ≡ c.grid.blocks
    → FitPlanes (shape_of header) d.sides → IsTileColumn header (tile_count header) k d
is_copied header k c d low h rows from to blocks fit =
    let from_same : d.grid.from ≡ c.grid.from = from ∙ sym h.from in
    let to_same : d.grid.to ≡ c.grid.to = to ∙ sym h.to in
    let limit_same : limit_of d ≡ limit_of c = λ i. from_same i + 8 * superblocks_along (to_same i - from_same i) in
    record {
      rows = rows;
      from = from;
      to = to;
      fit = fit;
      fit_blocks = subst AllFit (sym blocks) h.fit_blocks;
      lie = subst (λ (bs : List BlockInfo). AllLie d.grid.from (limit_of d) bs) (sym blocks) (subst (λ (f : ℕ). AllLie f (limit_of d) c.grid.blocks) (sym from_same) (subst (λ (l : ℕ). AllLie c.grid.from l c.grid.blocks) (sym limit_same) h.lie));
      starts = subst (AllStart (mi_rows (shape_of header)) (mi_cols (shape_of header))) (sym blocks) h.starts;
      small = subst AllSmall (sym blocks) h.small;
      room = λ r behind. none_left (superblocks_along (d.grid.to - d.grid.from)) (superblocks_along (mi_rows (shape_of header))) r (2 ^ header.params.tiles.columns_log2) k (2 ^ header.params.tiles.rows_log2) d.grid.room
          (some_power header.params.tiles.rows_log2) low behind;
    }

---- Tiles, sizes ----

pub rows_are : (setting : FrameSetting) → setting.places.rows ≡ mi_rows (shape_of setting.header)
rows_are setting = ap (λ (p : FramePlaces). p.rows) setting.whole

-- a row's blocks end within them all
pub row_inside : (shape : Shape) (row : ℕ) (blocks : List BlockInfo) (place : RowPlace) → place ≡ place_of_row shape row blocks → place.block ≤ length blocks
row_inside shape row blocks place is = elim (cases_lt (length blocks) place.block) [
  | inl past ↦ absurd (omega (arith, in_column shape row (length blocks) blocks place is past))
  | inr low ↦ low
]

-- the same map
pub map_still : {A E V : Type 0} (value : A → V) (Q : V → Type 0) (r : Result A E) (v : V) → IfOk r (λ a. value a ≡ v) → Q v → IfOk r (λ a. Q (value a))
map_still value Q (Ok a) v is q = subst Q (sym is) q
map_still value Q (Err e) v is q = tt

-- a frame that doesn't update the map leaves it
pub no_update : (segmentation : Segmentation) (frame : FramePlaces) (blocks : List BlockInfo) (ids : Map) → segmentation.enabled && updates segmentation.map ≡ false → ids ≡ segments_after segmentation frame blocks ids
no_update segmentation frame blocks ids off = sym (ap (λ (b : Bool). if b then segments_of frame blocks ids else ids) off)

-- the first tile of a column
pub first_tile : (header : Header) (k : ℕ) → k < 2 ^ header.params.tiles.columns_log2 → k < 2 ^ header.params.tiles.columns_log2 * 2 ^ header.params.tiles.rows_log2
first_tile header k low =
    let parts = some_power header.params.tiles.rows_log2 in
    let more : 2 ^ header.params.tiles.columns_log2 * 1 ≤ 2 ^ header.params.tiles.columns_log2 * 2 ^ header.params.tiles.rows_log2 = mul-le-mul_left (2 ^ header.params.tiles.columns_log2) (omega (arith, parts)) in
    omega (arith, low, more)

pub start_sized : SlotsHaveSizes start_persist
unfolding SlotsHaveSizes
start_sized = λ k d low. none_at 8 k d low
  where
    none_at : (n k : ℕ) (d : Option Shape) → k < n → IfSome (get_or (replicate n None) k d) HasFrameSize
    none_at zero k d low = absurd (omega (arith, low))
    none_at (suc n) zero d low = tt
    none_at (suc n) (suc k) d low = none_at n k d (omega (arith, low))
