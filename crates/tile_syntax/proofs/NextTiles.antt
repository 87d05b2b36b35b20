-- The next tile of a column that is planned.
use Rattle.std.proofs.Common.{◌≡◌, ◌∙◌, ℕ, ◌+◌, ◌-◌, ◌*◌, ◌^◌, ◌<◌, ◌≤◌, Bool, List, refl, sym, ap}
use Rattle.std.specs.Prelude.{Option, Some, None, Result, Ok, Err, OnOk}
use Rattle.std.proofs.lemmas.List.{append-nil}
use Rattle.vp9_types.specs.Results.{◌>>=◌, map_ok}
use Rattle.vp9_types.specs.Sizes.{superblocks_along}
use Rattle.vp9_types.specs.Syntax.{Syntax}
use Rattle.vp9_types.specs.declared.rule.Rule.{Rule}
use Rattle.vp9_types.specs.declared.shape.Plane.TheVariants.{Y, U, V}
use Rattle.vp9_types.specs.declared.shape.Shape.{Shape}
use Rattle.bool_decoder.specs.Bools.{run_bools}
use Rattle.bool_decoder.specs.Window.{Window, started}
use Rattle.frame_headers.specs.HeaderState.{shape_of}
use Rattle.frame_setting.specs.declared.setting.FrameSetting.{FrameSetting}
use Rattle.counting_reader.specs.Code.{standing_of, counted_if}
use Rattle.counting_reader.specs.Counting.{Settled, mapped}
use Rattle.counting_reader.specs.declared.reader.CountingReader.{CountingReader}
use Rattle.block_geometry.specs.FrameShapes.{places_of}
use Rattle.residue_syntax.specs.Code.{FitPlanes}
use Rattle.mode_syntax.specs.Walk.{decode_tile}
use Rattle.tile_reader.specs.Code.{Breaks}
use Rattle.frame_state.specs.Code.{IsReady, SameColumns, read_whole, settled_of, sources_of}
use Rattle.frame_state.specs.KeptColumns.{IsTileColumn}
use Rattle.frame_state.specs.ColumnPlans.{ColumnRead, column_tile, with_its_tile}
use Rattle.frame_state.specs.FrameReading.{Column, begun, read_tile}
use Rattle.frame_state.specs.TilePlaces.{column_of, tile_places, tile_superblocks}
use Rattle.frame_state.specs.declared.columns.TileColumn.{TileColumn}
use Rattle.frame_state.specs.declared.sources.FrameSources as code
use Rattle.frame_state.specs.declared.tile_places.TilePlaces.{TilePlaces}
use Rattle.frame_state.proofs.ColumnSteps.{begins_there, cleared, column_left, ends_there, sides_told, with_sides}
use Rattle.frame_state.proofs.PlanReads.{column_whole, tile_of}
use Rattle.frame_state.proofs.TileBytes.{seen_by, values_mapped, whole_broken}
use Rattle.frame_state.specs.declared.halt.Halt.{Halt}
use Rattle.tile_syntax.specs.Code.{BreaksWhole, GivesNext, GivesWhole, HoldsColumn, PlanTile, plan_view, plan_walk, rule_of, tile_held}
use Rattle.tile_syntax.specs.declared.plans.ColumnPlan.{ColumnPlan}
use Rattle.tile_syntax.proofs.PlanTiles.{tile_seen}

---- A tile's bytes ----

pub breaks_whole : {A : Type 0} {n : ℕ} (o : Option Rule) (s : Syntax ℕ Rule (Settled A)) (bytes : List ℕ) (old : CountingReader n)
    → started bytes ≡ Ok (standing_of old).window → Breaks o s (standing_of old) → BreaksWhole o (read_whole s bytes)
breaks_whole None s bytes old starts breaks = tt
breaks_whole (Some rule) s bytes old starts breaks = whole_broken s bytes old rule starts breaks

whole_mapped : {S T : Type 0} (f : S → T) (s : Syntax ℕ Rule (Settled S)) (bytes : List ℕ) → read_whole (mapped f s) bytes ≡ map_ok (seen_by f) (read_whole s bytes)
unfolding read_whole
whole_mapped f s bytes = by_start (started bytes)
  where
    by_start : (w : Result Window Rule) → (w >>= λ v. settled_of (run_bools (mapped f s) v)) ≡ map_ok (seen_by f) (w >>= λ v. settled_of (run_bools s v))
    by_start (Ok v) = values_mapped f s v
    by_start (Err e) = refl

value_seen : {A B : Type 0} (f : A → B) (r : Result (Settled A) Rule) (t : Settled B) → map_ok (seen_by f) r ≡ Ok t
    → (x : Settled A) × (r ≡ Ok x) × (f x.value ≡ t.value) × (x.counted ≡ t.counted)
value_seen f (Ok x) t is = let same : seen_by f x ≡ t = cc in (x, refl, ap (λ s. s.value) same, ap (λ s. s.counted) same)
value_seen f (Err e) t is = let no : ⊥ = cc in absurd no

fault_seen : {A B : Type 0} (f : Settled A → B) (r : Result (Settled A) Rule) (rule : Rule) → map_ok f r ≡ Err rule → r ≡ Err rule
fault_seen f (Ok x) rule is = let no : ⊥ = cc in absurd no
fault_seen f (Err e) rule is = let same : e ≡ rule = cc in ap (λ z. Err z) same

-- what breaks one tile breaks another
breaks_as : {A B : Type 0} (o : Option Rule) (a : Result A Rule) (b : Result B Rule) → ((rule : Rule) → a ≡ Err rule → b ≡ Err rule) → BreaksWhole o a → BreaksWhole o b
breaks_as None a b same breaks = tt
breaks_as (Some rule) a b same breaks = same rule breaks

---- Where it begins ----

-- with nothing at the left
abbrev pub begun_again : ColumnPlan → ColumnPlan
begun_again p = record { column = with_sides p.column (cleared p.column.sides); residues = p.residues; rows = p.rows }

begins_so : (shape : Shape) (p : ColumnPlan) (read : Column) → FitPlanes shape p.column.sides → HoldsColumn shape p read
    → tile_held shape (begun_again p) ≡ plan_view (begun shape read)
begins_so shape p read fit h = λ i. record {
  blocks = (h.blocks ∙ sym (append-nil read.blocks)) i;
  sides = record {
    y = sides_told shape Y p.column.sides.y read.y h.y fit.y i;
    u = sides_told shape U p.column.sides.u read.u h.u fit.u i;
    v = sides_told shape V p.column.sides.v read.v h.v fit.v i;
  };
}

-- the walk that plans is the definition's
tile_walk : (by : code.FrameSources) (n : ℕ) (c : TileColumn) (t : TilePlaces) (read : Column) (s : PlanTile)
    → t ≡ tile_places by.setting.places by.setting.header.params.tiles n → IsTileColumn by.setting.header n (column_of by.setting.header.params.tiles n) c
    → s ≡ plan_view (begun (shape_of by.setting.header) read)
    → decode_tile (plan_walk (sources_of by) by.setting.places c.grid.from c.grid.to) (tile_superblocks t) s
    ≡ mapped plan_view (tile_of (sources_of by) n read)
unfolding read_tile
tile_walk by n c t read s is h state =
    let setting = by.setting in
    let tiles = setting.header.params.tiles in
    let there = tile_places (places_of (shape_of setting.header)) tiles n in
    let same : t ≡ there = is ∙ ap (λ p. tile_places p tiles n) setting.whole in
    let from : c.grid.from ≡ there.col_from = sym (begins_there setting n (column_of tiles n) c t refl is h) ∙ ap (λ (t : TilePlaces). t.col_from) same in
    let to : c.grid.to ≡ there.col_to = sym (ends_there setting n (column_of tiles n) c t refl is h) ∙ ap (λ (t : TilePlaces). t.col_to) same in
    (λ i. decode_tile (plan_walk (sources_of by) (setting.whole i) (from i) (to i)) (tile_superblocks (same i)) (state i))
    ∙ tile_seen (sources_of by) (places_of (shape_of setting.header)) there (superblocks_along (there.col_to - there.col_from)) there.row_from there.col_from
    (superblocks_along (there.row_to - there.row_from)) (begun (shape_of setting.header) read)

---- What it gives ----

pub gives_next : (by : code.FrameSources) (n : ℕ) (p new : ColumnPlan) (t : TilePlaces) (bytes before : List ℕ) (counting : Bool) (result : Result (List ℕ) Halt)
    → t ≡ tile_places by.setting.places by.setting.header.params.tiles n → IsTileColumn by.setting.header n (column_of by.setting.header.params.tiles n) p.column
    → GivesWhole counting before (read_whole (decode_tile (plan_walk (sources_of by) by.setting.places p.column.grid.from p.column.grid.to) (tile_superblocks t) (tile_held (shape_of by.setting.header) (begun_again p))) bytes) result (tile_held (shape_of by.setting.header) new)
    → (bytes_of : ℕ → List ℕ) (read : ColumnRead) → bytes_of n ≡ bytes → HoldsColumn (shape_of by.setting.header) p read.column
    → GivesNext counting before (column_tile (sources_of by) bytes_of n read) result (shape_of by.setting.header) new
gives_next by n p new t bytes before counting (Ok counts) is h gives bytes_of read there holds =
    let told = sources_of by in
    let shape = shape_of by.setting.header in
    let same = tile_walk by n p.column t read.column _ is h (begins_so shape p read.column h.fit holds) in
    let seen : map_ok (seen_by plan_view) (read_whole (tile_of told n read.column) bytes) ≡ Ok (record { value = tile_held shape new; counted = gives.0 }) =
    sym (whole_mapped plan_view (tile_of told n read.column) bytes) ∙ (ap (λ s. read_whole s bytes) (sym same) ∙ gives.1) in
    let q = value_seen plan_view (read_whole (tile_of told n read.column) bytes) _ seen in (
      with_its_tile n read q.0,
      column_whole told n bytes_of read ∙ (ap (λ (bs : List ℕ). map_ok (with_its_tile n read) (read_whole (tile_of told n read.column) bs)) there ∙ ap (map_ok (with_its_tile n read)) q.1),
      record {
        blocks = ap (λ (s : PlanTile). s.blocks) (sym q.2);
        y = ap (λ (s : PlanTile). s.sides.y.above) (sym q.2);
        u = ap (λ (s : PlanTile). s.sides.u.above) (sym q.2);
        v = ap (λ (s : PlanTile). s.sides.v.above) (sym q.2);
      },
      gives.2 ∙ ap (counted_if counting before) (sym q.3),
    )
gives_next by n p new t bytes before counting (Err e) is h gives bytes_of read there holds =
    let told = sources_of by in
    let shape = shape_of by.setting.header in
    let same = tile_walk by n p.column t read.column _ is h (begins_so shape p read.column h.fit holds) in
    breaks_as (rule_of e) _ (column_tile told bytes_of n read) (λ rule breaks.
    column_whole told n bytes_of read ∙ (ap (λ (bs : List ℕ). map_ok (with_its_tile n read) (read_whole (tile_of told n read.column) bs)) there
    ∙ ap (map_ok (with_its_tile n read)) (fault_seen (seen_by plan_view) (read_whole (tile_of told n read.column) bytes) rule
    (sym (whole_mapped plan_view (tile_of told n read.column) bytes) ∙ (ap (λ s. read_whole s bytes) (sym same) ∙ breaks))))) gives

-- what it leaves of the column
pub column_next : (setting : FrameSetting) (n : ℕ) (c new : TileColumn) (t : TilePlaces) (result : Result (List ℕ) Halt)
    → n < 2 ^ setting.header.params.tiles.columns_log2 * 2 ^ setting.header.params.tiles.rows_log2
    → t ≡ tile_places setting.places setting.header.params.tiles n → IsTileColumn setting.header n (column_of setting.header.params.tiles n) c
    → OnOk result (IsReady setting new) → OnOk result (SameColumns (with_sides c (cleared c.sides)) new)
    → OnOk result (c.grid.room ≤ new.grid.room + 64 * (superblocks_along (c.grid.to - c.grid.from) * superblocks_along (t.row_to - t.row_from)))
    → OnOk result (IsTileColumn setting.header (n + 1) (column_of setting.header.params.tiles n) new)
column_next setting n c new t (Ok counts) below is h ready same left =
    column_left setting n (column_of setting.header.params.tiles n) c new t below refl is h ready (record { from = same.from; to = same.to }) left
column_next setting n c new t (Err e) below is h ready same left = tt
