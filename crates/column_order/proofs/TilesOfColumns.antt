-- The blocks of a tile column are those of its tiles, one after another.
use Rattle.std.proofs.Common.{◌≡◌, ◌∙◌, ◌++◌, [], ℕ, zero, suc, ◌+◌, ◌-◌, ◌*◌, ◌<◌, List, inl, inr, refl, sym, ap, subst, arith, append_assoc, append-nil}
use Rattle.std.specs.Prelude.{Result, Ok, Err}
use Rattle.std.specs.List.{flat_map, range_with_len}
use Rattle.std.proofs.lemmas.Bool.{cases_eq, eq-eqb, ne_eqb}
use Rattle.vp9_types.specs.Sizes.{superblocks_along}
use Rattle.frame_headers.specs.Spans.{tile_count}
use Rattle.frame_headers.specs.HeaderState.{shape_of}
use Rattle.block_geometry.specs.FrameShapes.{places_of}
use Rattle.block_plan.specs.declared.block.BlockAt.{BlockAt}
use Rattle.bool_decoder.specs.Window.{started}
use Rattle.counting_reader.specs.Counting.{Settled, Yields, settle}
use Rattle.mode_syntax.specs.TileColumns.{read_all, then_rest, tiles_of}
use Rattle.mode_syntax.specs.Laws as laws
use Rattle.mode_syntax.proofs.Kept.{tile_kept}
use Rattle.frame_state.specs.ColumnPlans.{ColumnRead, column_tile, no_tiles, plan_of, with_its_tile}
use Rattle.frame_state.specs.FrameReading.{Column, TileRead, begun, read_block, read_tile, read_walk}
use Rattle.frame_state.specs.Sources.{FrameSources}
use Rattle.frame_state.specs.TilePlaces.{column_of, tile_places}
use Rattle.frame_state.specs.declared.tile_places.TilePlaces.{TilePlaces}
use Rattle.column_order.proofs.ColumnFollows.{more_ok, started_so}
use Rattle.column_order.proofs.TxFits.{any_bind}

---- A tile ----

-- the blocks of earlier tiles stay
block_leaves : (by : FrameSources) (at : BlockAt) (s : TileRead) → Yields (read_block by at s) (λ t. t.earlier ≡ s.earlier)
unfolding read_block settle
block_leaves by at s = any_bind _ _ _ (λ told. any_bind _ _ _ (λ info. any_bind _ _ _ (λ read. refl)))

tile_leaves : (by : FrameSources) (tile : TilePlaces) (c : Column) → Yields (read_tile by tile c) (λ t. t.earlier ≡ c.blocks)
unfolding read_tile
tile_leaves by tile c =
    let wide = superblocks_along (tile.col_to - tile.col_from) in
    let walk = read_walk by (places_of (shape_of by.header)) tile in
    let keeps : laws.EachKeeps walk (λ s. s.earlier ≡ c.blocks) tile.col_from (tile.col_from + 8 * wide) = record {
      kept = λ r col size s lies is. subst (λ bs. Yields (read_block by (record { row = r; col = col; size = size; tile_from = tile.col_from; tile_to = tile.col_to }) s) (λ t. t.earlier ≡ bs)) is
          (block_leaves by (record { row = r; col = col; size = size; tile_from = tile.col_from; tile_to = tile.col_to }) s);
    } in
    tile_kept walk (λ s. s.earlier ≡ c.blocks) tile.col_from (tile.col_from + 8 * wide) keeps
    wide tile.row_from tile.col_from (superblocks_along (tile.row_to - tile.row_from)) (begun (shape_of by.header) c) (omega arith) (omega arith) refl

---- A column ----

-- the n-th tile is added
pub record AddsTile (n : ℕ) (s t : ColumnRead) : Type 0 where
  pub blocks : t.column.blocks ≡ s.column.blocks ++ t.tiles n
  pub others : (j : ℕ) → (j ≡ n → ⊥) → t.tiles j ≡ s.tiles j

tile_adds : (by : FrameSources) (bytes : ℕ → List ℕ) (n : ℕ) (c : ColumnRead) (t : Settled ColumnRead) → column_tile by bytes n c ≡ Ok t → AddsTile n c t.value
unfolding column_tile
tile_adds by bytes n c t is =
    let p = started_so (read_tile by (tile_places (places_of (shape_of by.header)) by.header.params.tiles n) c.column) (started (bytes n)) (with_its_tile n c)
    (λ t. t.earlier ≡ c.column.blocks) t (tile_leaves by (tile_places (places_of (shape_of by.header)) by.header.params.tiles n) c.column) is in
    subst (λ (u : Settled ColumnRead). AddsTile n c u.value) p.1 (adds n c p.0 p.2)
  where
    adds : (n : ℕ) (c : ColumnRead) (p : Settled TileRead) → p.value.earlier ≡ c.column.blocks → AddsTile n c (with_its_tile n c p).value
    adds n c p is = record {
      blocks = rw (eq-eqb n n refl) (ap (λ bs. bs ++ p.value.blocks) is);
      others = λ j other. rw (ne_eqb j n other) refl;
    }

-- tiles of a column are added, from the m-th one on
record AddsTiles (column : ℕ → ℕ) (k m count : ℕ) (s t : ColumnRead) : Type 0 where
  blocks : t.column.blocks ≡ s.column.blocks ++ flat_map t.tiles (tiles_of column k (range_with_len m count))
  earlier : (j : ℕ) → j < m → t.tiles j ≡ s.tiles j

module _ {E : Type 0} (column : ℕ → ℕ) (k : ℕ) (step : ℕ → ColumnRead → Result (Settled ColumnRead) E)
    (adds : (n : ℕ) (s : ColumnRead) (t : Settled ColumnRead) → step n s ≡ Ok t → AddsTile n s t.value) where
  abbrev Adds : ℕ → ℕ → Type 0
  Adds m count = (s : ColumnRead) (t : Settled ColumnRead) → read_all step (tiles_of column k (range_with_len m count)) s ≡ Ok t → AddsTiles column k m count s t.value

  first_added : (m count : ℕ) (s a t : ColumnRead) → AddsTile m s a → AddsTiles column k (m + 1) count a t
      → t.column.blocks ≡ s.column.blocks ++ (t.tiles m ++ flat_map t.tiles (tiles_of column k (range_with_len (m + 1) count)))
  first_added m count s a t one rest =
      let here : a.tiles m ≡ t.tiles m = sym (rest.earlier m (omega arith)) in
      let behind = flat_map t.tiles (tiles_of column k (range_with_len (m + 1) count)) in
      rest.blocks ∙ (ap (λ bs. bs ++ behind) (one.blocks ∙ ap (λ bs. s.column.blocks ++ bs) here) ∙ append_assoc s.column.blocks (t.tiles m) behind)

  then_added : (m count : ℕ) (s : ColumnRead) (t : Settled ColumnRead) (r : Result (Settled ColumnRead) E) → Adds (m + 1) count → column m ≡ k → step m s ≡ r
      → then_rest m r (read_all step (tiles_of column k (range_with_len (m + 1) count))) ≡ Ok t → AddsTiles column k m (suc count) s t.value
  then_added m count s t (Ok a) rest same step_is is =
      let b = more_ok a.counted (read_all step (tiles_of column k (range_with_len (m + 1) count)) a.value) t is in
      let one = adds m s a step_is in
      let more : AddsTiles column k (m + 1) count a.value t.value = subst (λ v. AddsTiles column k (m + 1) count a.value v) b.2 (rest a.value b.0 b.1) in record {
        blocks = rw (eq-eqb (column m) k same) (first_added m count s a.value t.value one more);
        earlier = λ j low. more.earlier j (omega (arith, low)) ∙ one.others j (λ is. omega (arith, low, is));
      }
  then_added m count s t (Err e) rest same step_is is = let no : ⊥ = cc in absurd no

  all_added : (m count : ℕ) → Adds m count
  unfolding read_all
  all_added m zero s t is =
      let same : record { value = s; counted = [] } ≡ t = cc in
      subst (λ (u : Settled ColumnRead). AddsTiles column k m 0 s u.value) same (record { blocks = sym (append-nil s.column.blocks); earlier = λ j low. refl })
  all_added m (suc count) s t is = elim (cases_eq (column m) k) [
    | inl same ↦ then_added m count s t (step m s) (all_added (m + 1) count) same refl (rw (eq-eqb (column m) k same) at is)
    | inr other ↦
        let rest = all_added (m + 1) count s t (rw (ne_eqb (column m) k other) at is) in record {
          blocks = rw (ne_eqb (column m) k other) rest.blocks;
          earlier = λ j low. rest.earlier j (omega (arith, low));
        }
  ]

pub plan_tiles : (by : FrameSources) (bytes : ℕ → List ℕ) (k : ℕ) (plan : Settled ColumnRead) → plan_of by bytes k ≡ Ok plan
    → plan.value.column.blocks ≡ flat_map plan.value.tiles (tiles_of (column_of by.header.params.tiles) k (range_with_len 0 (tile_count by.header)))
unfolding plan_of
plan_tiles by bytes k plan is =
    (all_added (column_of by.header.params.tiles) k (column_tile by bytes) (tile_adds by bytes) 0 (tile_count by.header) (no_tiles by.header) plan is).blocks
