-- The blocks of a tile column that is read follow one another.
use Rattle.std.proofs.Common.{◌≡◌, ◌++◌, [], ℕ, zero, suc, ◌+◌, ◌*◌, ◌^◌, ◌<◌, ◌≤◌, List, inl, inr, refl, ap, subst, arith}
use Rattle.std.specs.Prelude.{Result, Ok, Err}
use Rattle.std.specs.List.{range_with_len}
use Rattle.std.proofs.Math.Nat.{mul-le-mul_right}
use Rattle.std.proofs.lemmas.Bool.{cases_eq, cases_lt, eq-eqb, ne_eqb}
use Rattle.vp9_types.specs.Results.{◌>>=◌}
use Rattle.vp9_types.specs.Shapes.{mi_rows}
use Rattle.vp9_types.specs.declared.rule.Rule.{Rule}
use Rattle.bool_decoder.specs.Bools.{run_bools}
use Rattle.bool_decoder.specs.Window.{Window, started}
use Rattle.prob_contexts.specs.declared.kind.CountedBool.{CountedBool}
use Rattle.frame_headers.specs.Spans.{tile_count}
use Rattle.frame_headers.specs.HeaderState.{shape_of}
use Rattle.frame_headers.specs.declared.header.Header.{Header}
use Rattle.frame_headers.specs.declared.tiles.TileInfo.{TileInfo}
use Rattle.block_geometry.specs.FrameShapes.{places_of}
use Rattle.counting_reader.specs.Counting.{Settled, Yields}
use Rattle.mode_syntax.specs.TileColumns.{read_all, settled_part, then_rest, tiles_of, with_counted}
use Rattle.mode_syntax.proofs.ModeTiles.{run_yields}
use Rattle.frame_state.specs.ColumnPlans.{ColumnRead, column_tile, no_tiles, plan_of, with_its_tile}
use Rattle.frame_state.specs.FrameReading.{TileRead, column_after, read_tile}
use Rattle.frame_state.specs.Sources.{FrameSources}
use Rattle.frame_state.specs.TilePlaces.{column_of, tile_row_of, tile_places}
use Rattle.frame_state.proofs.TileOffsets.{before_grows, raster}
use Rattle.column_order.specs.ColumnStrips.{column_from, column_to}
use Rattle.column_order.proofs.Follows.{Follow, LieBefore, before_more, nothing_follows}
use Rattle.column_order.proofs.TileFollows.{Stand, rows_before, rows_behind, tile_follows}
use Rattle.column_order.proofs.TxFits.{Reads}

---- Tiles in order ----

pub more_ok : {S E : Type 0} (bools : List CountedBool) (x : Result (Settled S) (ℕ × E)) (t : Settled S) → with_counted bools x ≡ Ok t
    → (b : Settled S) × (x ≡ Ok b) × (b.value ≡ t.value)
more_ok bools (Ok b) t is =
    let same : record { value = b.value; counted = bools ++ b.counted } ≡ t = cc in
    (b, refl, ap (λ s. s.value) same)
more_ok bools (Err e) t is = let no : ⊥ = cc in absurd no

module _ {S E : Type 0} (column : ℕ → ℕ) (k : ℕ) (step : ℕ → S → Result (Settled S) E) (P : ℕ → S → Type 0)
    (own : (n : ℕ) (s : S) (t : Settled S) → column n ≡ k → P n s → step n s ≡ Ok t → P (n + 1) t.value) (past : (n : ℕ) (s : S) → P n s → P (n + 1) s) where
  abbrev Kept : ℕ → ℕ → Type 0
  Kept m count = (s : S) (t : Settled S) → P m s → read_all step (tiles_of column k (range_with_len m count)) s ≡ Ok t → P (m + count) t.value

  then_kept : (m count : ℕ) (s : S) (t : Settled S) (r : Result (Settled S) E) → Kept (m + 1) count → column m ≡ k → P m s → step m s ≡ r
      → then_rest m r (read_all step (tiles_of column k (range_with_len (m + 1) count))) ≡ Ok t → P (m + 1 + count) t.value
  then_kept m count s t (Ok a) rest same has step_is is =
      let b = more_ok a.counted (read_all step (tiles_of column k (range_with_len (m + 1) count)) a.value) t is in
      subst (λ v. P (m + 1 + count) v) b.2 (rest a.value b.0 (own m s a same has step_is) b.1)
  then_kept m count s t (Err e) rest same has step_is is = let no : ⊥ = cc in absurd no

  pub all_kept : (m count : ℕ) → Kept m count
  unfolding read_all
  all_kept m zero s t has is =
      let same : record { value = s; counted = [] } ≡ t = cc in
      subst (λ (u : Settled S). P (m + 0) u.value) same (subst (λ n. P n s) (none m) has)
    where
      none : (m : ℕ) → m ≡ m + 0
      none m = omega arith
  all_kept m (suc count) s t has is = subst (λ n. P n t.value) (one_more m count) (elim (cases_eq (column m) k) [
    | inl same ↦ then_kept m count s t (step m s) (all_kept (m + 1) count) same has refl (rw (eq-eqb (column m) k same) at is)
    | inr other ↦ all_kept (m + 1) count s t (past m s has) (rw (ne_eqb (column m) k other) at is)
  ])
    where
      one_more : (m count : ℕ) → m + 1 + count ≡ m + suc count
      one_more m count = omega arith

---- A tile ----

ran_so : {X : Type 0} (s : Reads TileRead) (w : Window) (f : Settled TileRead → X) (P : TileRead → Type 0) (t : X) (r : Result (Settled TileRead × Window) Rule) → Yields s P → run_bools s w ≡ r
    → (r >>= λ read. Ok (f read.0)) ≡ Ok t → (p : Settled TileRead) × (f p ≡ t) × P p.value
ran_so s w f P t (Ok p) has ran is = let same : f p.0 ≡ t = cc in (p.0, same, run_yields P s w p.0 has (ap settled_part ran))
ran_so s w f P t (Err e) has ran is = let no : ⊥ = cc in absurd no

pub started_so : {X : Type 0} (s : Reads TileRead) (w : Result Window Rule) (f : Settled TileRead → X) (P : TileRead → Type 0) (t : X) → Yields s P
    → (w >>= λ window. run_bools s window >>= λ read. Ok (f read.0)) ≡ Ok t → (p : Settled TileRead) × (f p ≡ t) × P p.value
started_so s (Ok w) f P t has is = ran_so s w f P t (run_bools s w) has refl is
started_so s (Err e) f P t has is = let no : ⊥ = cc in absurd no

column_stands : (by : FrameSources) (bytes : ℕ → List ℕ) (n k : ℕ) (c : ColumnRead) (t : Settled ColumnRead) → column_of by.header.params.tiles n ≡ k
    → Stand (shape_of by.header) (column_from by.header k) (column_to by.header k) (rows_before by.header n) c.column.blocks → column_tile by bytes n c ≡ Ok t
    → Stand (shape_of by.header) (column_from by.header k) (column_to by.header k) (rows_behind by.header n) t.value.column.blocks
unfolding column_tile
column_stands by bytes n k c t same has is =
    let h = by.header in
    let p = started_so (read_tile by (tile_places (places_of (shape_of h)) h.params.tiles n) c.column) (started (bytes n)) (with_its_tile n c)
    (λ t. Stand (shape_of h) (column_from h k) (column_to h k) (rows_behind h n) (column_after t).blocks) t (tile_follows by n k c.column same has) is in
    subst (λ (u : Settled ColumnRead). Stand (shape_of h) (column_from h k) (column_to h k) (rows_behind h n) u.value.column.blocks) p.1 p.2

---- A column ----

-- a later tile of a column lies below
below : (tiles : TileInfo) (n j k : ℕ) → n < j → column_of tiles n ≡ k → column_of tiles j ≡ k → tile_row_of tiles n + 1 ≤ tile_row_of tiles j
below tiles n j k later here there = elim (cases_lt (tile_row_of tiles n) (tile_row_of tiles j)) [
  | inl low ↦ omega (arith, low)
  | inr high ↦
      let most : tile_row_of tiles j * 2 ^ tiles.columns_log2 ≤ tile_row_of tiles n * 2 ^ tiles.columns_log2 = mul-le-mul_right (2 ^ tiles.columns_log2) high in
      absurd (omega (arith, most, raster tiles n, raster tiles j, here, there, later))
]

-- the column before its tiles from a number on
record StandsFrom (header : Header) (k n : ℕ) (c : ColumnRead) : Type 0 where
  follow : Follow (shape_of header) (column_from header k) (column_to header k) c.column.blocks
  before : (j : ℕ) → n ≤ j → column_of header.params.tiles j ≡ k → LieBefore (rows_before header j) c.column.blocks

own_kept : (by : FrameSources) (bytes : ℕ → List ℕ) (k n : ℕ) (c : ColumnRead) (t : Settled ColumnRead) → column_of by.header.params.tiles n ≡ k → StandsFrom by.header k n c
    → column_tile by bytes n c ≡ Ok t → StandsFrom by.header k (n + 1) t.value
own_kept by bytes k n c t same has is =
    let h = by.header in
    let stand = column_stands by bytes n k c t same (record { follow = has.follow; before = has.before n (omega arith) same }) is in record {
      follow = stand.follow;
      before = λ j later there.
          before_more (rows_behind h n) (rows_before h j) t.value.column.blocks
          (before_grows (mi_rows (shape_of h)) h.params.tiles.rows_log2 (tile_row_of h.params.tiles n + 1) (tile_row_of h.params.tiles j) (below h.params.tiles n j k (omega (arith, later)) same there)) stand.before;
    }

past_kept : (header : Header) (k n : ℕ) (c : ColumnRead) → StandsFrom header k n c → StandsFrom header k (n + 1) c
past_kept header k n c has = record { follow = has.follow; before = λ j later there. has.before j (omega (arith, later)) there }

pub plan_follows : (by : FrameSources) (bytes : ℕ → List ℕ) (k : ℕ) (plan : Settled ColumnRead) → plan_of by bytes k ≡ Ok plan
    → Follow (shape_of by.header) (column_from by.header k) (column_to by.header k) plan.value.column.blocks
unfolding plan_of
plan_follows by bytes k plan is =
    let begins : StandsFrom by.header k 0 (no_tiles by.header) = record {
      follow = nothing_follows (shape_of by.header) (column_from by.header k) (column_to by.header k);
      before = λ j later there i d low. absurd (omega (arith, low));
    } in
    (all_kept (column_of by.header.params.tiles) k (column_tile by bytes) (StandsFrom by.header k) (own_kept by bytes k) (past_kept by.header k)
    0 (tile_count by.header) (no_tiles by.header) plan begins is).follow
