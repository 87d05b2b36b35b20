-- Where a tile column lies, as its tiles do.
use Rattle.std.proofs.Common.{◌≡◌, ◌∙◌, ◌<◌, ◌≤◌, ◌+◌, ◌-◌, ◌*◌, ◌^◌, ℕ, ap, sym, subst, arith}
use Rattle.std.proofs.Math.Nat.{mod-eq_of_lt}
use Rattle.block_geometry.specs.declared.transform_blocks.FramePlaces.{FramePlaces}
use Rattle.frame_headers.specs.declared.tiles.TileInfo.{TileInfo}
use Rattle.vp9_types.specs.Shapes.{mi_cols}
use Rattle.vp9_types.specs.Sizes.{superblocks_along}
use Rattle.frame_headers.specs.Spans.{tile_count}
use Rattle.frame_headers.specs.HeaderState.{shape_of}
use Rattle.frame_headers.specs.declared.header.Header.{Header}
use Rattle.frame_setting.specs.declared.setting.FrameSetting.{FrameSetting}
use Rattle.seq_decoder.specs.frame_state.KeptColumns.{IsTileColumn, limit_of}
use Rattle.seq_decoder.specs.frame_state.TilePlaces.{tile_offset, tile_places}
use Rattle.seq_decoder.specs.frame_state.declared.tile_places.TilePlaces.{TilePlaces}
use Rattle.seq_decoder.proofs.of_frame_state.TileOffsets.{offset_grows, offset_low}
use Rattle.recon_rows.specs.tile_syntax.declared.plans.ColumnPlan.{ColumnPlan}
use Rattle.recon_rows.specs.column_order.ColumnStrips.{column_from, column_to}
use Rattle.vp9_types.specs.declared.shape.Shape.{Shape}
use Rattle.planes.specs.declared.frame_planes.FramePlanes.{FramePlanes}
use Rattle.recon_rows.specs.OwnStrips.{HasStripAreas}

pub tile_begins : (frame : FramePlaces) (tiles : TileInfo) (k : ℕ) → k < 2 ^ tiles.columns_log2 → (tile_places frame tiles k).col_from ≡ tile_offset frame.cols tiles.columns_log2 k
unfolding tile_places
tile_begins frame tiles k low = ap (λ (n : ℕ). tile_offset frame.cols tiles.columns_log2 n) (mod-eq_of_lt low)

pub tile_ends : (frame : FramePlaces) (tiles : TileInfo) (k : ℕ) → k < 2 ^ tiles.columns_log2 → (tile_places frame tiles k).col_to ≡ tile_offset frame.cols tiles.columns_log2 (k + 1)
unfolding tile_places
tile_ends frame tiles k low = ap (λ (n : ℕ). tile_offset frame.cols tiles.columns_log2 (n + 1)) (mod-eq_of_lt low)

pub column_begins : (setting : FrameSetting) (k : ℕ) (t : TilePlaces) → t ≡ tile_places setting.places setting.header.params.tiles k → k < 2 ^ setting.header.params.tiles.columns_log2
    → t.col_from ≡ column_from setting.header k
column_begins setting k t is low =
    ap (λ (p : TilePlaces). p.col_from) is ∙ tile_begins setting.places setting.header.params.tiles k low
    ∙ ap (λ (p : FramePlaces). tile_offset p.cols setting.header.params.tiles.columns_log2 k) setting.whole

pub column_stops : (setting : FrameSetting) (k : ℕ) (t : TilePlaces) → t ≡ tile_places setting.places setting.header.params.tiles k → k < 2 ^ setting.header.params.tiles.columns_log2
    → t.col_to ≡ column_from setting.header (k + 1)
column_stops setting k t is low =
    ap (λ (p : TilePlaces). p.col_to) is ∙ tile_ends setting.places setting.header.params.tiles k low
    ∙ ap (λ (p : FramePlaces). tile_offset p.cols setting.header.params.tiles.columns_log2 (k + 1)) setting.whole

pub begins_inside : (header : Header) (k : ℕ) → column_from header k ≤ mi_cols (shape_of header)
begins_inside header k = offset_low (mi_cols (shape_of header)) header.params.tiles.columns_log2 k

pub stops_behind : (header : Header) (k : ℕ) → column_from header k ≤ column_from header (k + 1)
stops_behind header k = offset_grows (mi_cols (shape_of header)) header.params.tiles.columns_log2 k

pub few_columns : (setting : FrameSetting) → mi_cols (shape_of setting.header) ≤ 8192
few_columns setting = let wide : setting.header.size.width ≤ 65536 = setting.size.1 in omega (arith, wide)

-- where the plan of a tile column lies
pub plan_lies : (header : Header) (k : ℕ) (plan : ColumnPlan) → IsTileColumn header (tile_count header) k plan.column → (plan.column.grid.from ≡ column_from header k) × (limit_of plan.column ≡ column_to header k)
plan_lies header k plan is = (is.from, λ i. is.from i + 8 * superblocks_along (is.to i - is.from i))

-- the areas of a strip by where a tile column lies, and by its plan
pub areas_of : {X : Type 0} (header : Header) (k row : ℕ) (plan : ColumnPlan) (shape : Shape) (from to : ℕ) (f : FramePlanes X) → IsTileColumn header (tile_count header) k plan.column → shape ≡ shape_of header
    → from ≡ column_from header k → to ≡ column_to header k → HasStripAreas shape from to row f → HasStripAreas (shape_of header) plan.column.grid.from (limit_of plan.column) row f
areas_of header k row plan shape from to f is same begins ends areas =
    let lies = plan_lies header k plan is in
    subst (λ (s : Shape). HasStripAreas s plan.column.grid.from (limit_of plan.column) row f) same
    (subst (λ (n : ℕ). HasStripAreas shape n (limit_of plan.column) row f) (begins ∙ sym lies.0)
    (subst (λ (n : ℕ). HasStripAreas shape from n row f) (ends ∙ sym lies.1) areas))
