-- Transform blocks in raster order, by their number.
use Rattle.std.proofs.Common.{◌≡◌, ◌<◌, ◌≤◌, ◌+◌, ◌*◌, ◌/◌, ◌%◌, ℕ, zero, suc, refl, sym, ◌∙◌, ap, arith, List, [], ◌∷◌, length, get_or, map, All}
use Rattle.std.specs.Prelude.{nat_lt}
use Rattle.std.specs.Int.{div_ceil}
use Rattle.std.specs.List.{filter}
use Rattle.std.proofs.Math.Nat.{div-add-mod, div-lt_iff_lt-mul, mod-lt, mul-le-mul_left}
use Rattle.std.proofs.lemmas.Bool.{ltb-true}
use Rattle.std.proofs.lemmas.List.{length-map, length-append, get_or-map, get_or-append-add, get_or_append_left}
use Rattle.std.proofs.lemmas.List.Elements.{All-nil, All-append, All-map, filter_passes}
use Rattle.std.proofs.lemmas.List.FromFn.{length-map-range_with_len, get_or-map-range_with_len}
use Rattle.block_geometry.specs.TransformBlocks.{raster, multiples, starts, start_rows, start_columns, place_at, transform_blocks, grid_blocks}
use Rattle.block_geometry.specs.declared.transform_blocks.FramePlaces.{FramePlaces}
use Rattle.block_geometry.specs.declared.transform_blocks.PlaneBlock.{PlaneBlock}
use Rattle.block_geometry.specs.declared.transform_blocks.TransformGrid.{TransformGrid}
use Rattle.block_geometry.specs.declared.transform_blocks.TransformPlace.{TransformPlace}
use Rattle.vp9_types.specs.Shapes.{halved}

-- a row of places
at_row : (y : ℕ) (columns : List ℕ) (j : ℕ) (d : TransformPlace) → j < length columns → get_or (map (place_at y) columns) j d ≡ place_at y (get_or columns j 0)
at_row y columns j d low = get_or-map (place_at y) columns j 0 d low

at_raster : (rows columns : List ℕ) (i j : ℕ) (d : TransformPlace) → i < length rows → j < length columns
    → get_or (raster rows columns) (i * length columns + j) d ≡ place_at (get_or rows i 0) (get_or columns j 0)
at_raster [] columns i j d low inside = absurd (none i low)
  where
    none : (i : ℕ) → i < 0 → ⊥
    none i low = omega arith
at_raster (y ∷ rows) columns zero j d low inside =
    let at : 0 * length columns + j ≡ j = omega arith in
    let long : j < length (map (place_at y) columns) = rw length-map inside in
    rw at (get_or_append_left (map (place_at y) columns) (raster rows columns) d j long ∙ at_row y columns j d inside)
at_raster (y ∷ rows) columns (suc i) j d low inside =
    let long : length (map (place_at y) columns) ≡ length columns = length-map columns (place_at y) in
    let at : suc i * length columns + j ≡ length (map (place_at y) columns) + (i * length columns + j) = rw long (more (length columns)) in
    rw at (get_or-append-add (map (place_at y) columns) (raster rows columns) (i * length columns + j) d ∙ at_raster rows columns i j d (omega arith) inside)
  where
    more : (n : ℕ) → suc i * n + j ≡ n + (i * n + j)
    more n = omega (arith, ap (λ k. k) (times i n))
      where
        times : (i n : ℕ) → suc i * n ≡ n + i * n
        times i n = omega arith

some_columns : (rows columns k : ℕ) → k < rows * columns → 0 < columns
some_columns rows zero k low = absurd (none k (rw nothing at low))
  where
    nothing : rows * 0 ≡ 0
    nothing = omega arith

    none : (k : ℕ) → k < 0 → ⊥
    none k low = omega arith
some_columns rows (suc n) k low = omega arith

-- the k-th place of a grid
pub at_grid : (grid : TransformGrid) (k : ℕ) (d : TransformPlace) → k < grid.rows * grid.columns
    → get_or (grid_blocks grid) k d ≡ place_at (grid.step * (k / grid.columns)) (grid.step * (k % grid.columns))
at_grid grid k d low =
    let some = some_columns grid.rows grid.columns k low in
    let i = k / grid.columns in
    let j = k % grid.columns in
    let i_low : i < grid.rows = (div-lt_iff_lt-mul {k = grid.columns} {x = k} {y = grid.rows} some).1 low in
    let j_low : j < grid.columns = mod-lt k some in
    let long = length-map-range_with_len (λ n. grid.step * n) 0 grid.columns in
    let high = length-map-range_with_len (λ n. grid.step * n) 0 grid.rows in
    let at : i * length (multiples grid.step grid.columns) + j ≡ k = rw long (omega (arith, div-add-mod k grid.columns, swapped i grid.columns)) in
    rw at at (at_raster (multiples grid.step grid.rows) (multiples grid.step grid.columns) i j d (rw high i_low) (rw long j_low))
    ∙ (rw (get_or-map-range_with_len (λ n. grid.step * n) 0 grid.rows i i 0 i_low (omega arith), get_or-map-range_with_len (λ n. grid.step * n) 0 grid.columns j j 0 j_low (omega arith)) refl)
  where
    swapped : (a b : ℕ) → b * a ≡ a * b
    swapped a b = omega arith

-- below so many steps
stepped : (step n k : ℕ) → 1 ≤ step → k < n → step * n ≤ 16 → step * k < 16
stepped step n k some low all =
    let more : step * (k + 1) ≤ step * n = mul-le-mul_left step next in
    omega (arith, all, more, split)
  where
    next : k + 1 ≤ n
    next = omega arith

    split : step * (k + 1) ≡ step * k + step
    split = grind arith

pub row_of_place : (grid : TransformGrid) (k : ℕ) → k < grid.rows * grid.columns → 1 ≤ grid.step → grid.step * grid.rows ≤ 16 → grid.step * (k / grid.columns) < 16
row_of_place grid k low some all =
    stepped grid.step grid.rows (k / grid.columns) some ((div-lt_iff_lt-mul {k = grid.columns} {x = k} {y = grid.rows} (some_columns grid.rows grid.columns k low)).1 low) all

pub column_of_place : (grid : TransformGrid) (k : ℕ) → k < grid.rows * grid.columns → 1 ≤ grid.step → grid.step * grid.columns ≤ 16 → grid.step * (k % grid.columns) < 16
column_of_place grid k low some all = stepped grid.step grid.columns (k % grid.columns) some (mod-lt k (some_columns grid.rows grid.columns k low)) all

-- a start inside of a side
each_start : (step side base end : ℕ) → All (λ at. base + 4 * at < end) (starts step side base end)
unfolding starts
each_start step side base end = λ k d low.
    ltb-true (base + 4 * get_or (filter (λ at. nat_lt (base + 4 * at) end) (multiples step (div_ceil side step))) k d) end
    (filter_passes (λ at. nat_lt (base + 4 * at) end) (multiples step (div_ceil side step)) k d low)

-- what holds of all rows and of all columns holds of all places
pub all_places : (P Q : ℕ → Type 0) (rows columns : List ℕ) → All P rows → All Q columns → All (λ (at : TransformPlace). P at.row × Q at.column) (raster rows columns)
all_places P Q [] columns ps qs = All-nil (λ (at : TransformPlace). P at.row × Q at.column)
all_places P Q (y ∷ rows) columns ps qs =
    All-append (λ (at : TransformPlace). P at.row × Q at.column) (map (place_at y) columns) (raster rows columns)
    (All-map (λ (at : TransformPlace). P at.row × Q at.column) (place_at y) columns (λ k d low. (ps 0 y (first (length rows)), qs k d low)))
    (all_places P Q rows columns (λ k d low. ps (suc k) d (later k (length rows) low)) qs)
  where
    first : (n : ℕ) → 0 < suc n
    first n = omega arith

    later : (k n : ℕ) → k < n → suc k < suc n
    later k n low = omega arith

-- the transform blocks of a block start inside its frame
pub all_inside : (frame : FramePlaces) (b : PlaneBlock)
    → All (λ (at : TransformPlace). (halved b.ss_y (8 * b.row) + 4 * at.row < halved b.ss_y (8 * frame.rows)) × (halved b.ss_x (8 * b.col) + 4 * at.column < halved b.ss_x (8 * frame.cols)))
    (transform_blocks frame b)
all_inside frame b =
    all_places (λ y. halved b.ss_y (8 * b.row) + 4 * y < halved b.ss_y (8 * frame.rows)) (λ x. halved b.ss_x (8 * b.col) + 4 * x < halved b.ss_x (8 * frame.cols))
    (start_rows frame b) (start_columns frame b) (each_start _ _ _ _) (each_start _ _ _ _)

pub length_raster : (rows columns : List ℕ) → length (raster rows columns) ≡ length rows * length columns
length_raster [] columns = sym (none (length columns))
  where
    none : (n : ℕ) → 0 * n ≡ 0
    none n = omega arith
length_raster (y ∷ rows) columns =
    length-append (map (place_at y) columns) (raster rows columns)
    ∙ (rw (length-map columns (place_at y), length_raster rows columns) (more (length rows) (length columns)))
  where
    more : (a n : ℕ) → n + a * n ≡ suc a * n
    more a n = omega arith

pub length_grid : (grid : TransformGrid) → length (grid_blocks grid) ≡ grid.rows * grid.columns
length_grid grid =
    length_raster (multiples grid.step grid.rows) (multiples grid.step grid.columns)
    ∙ (rw (length-map-range_with_len (λ n. grid.step * n) 0 grid.rows, length-map-range_with_len (λ n. grid.step * n) 0 grid.columns) refl)
