-- The blocks that a tile's walk lists are those of its superblocks' partition trees.
use Rattle.std.proofs.Common.{◌≡◌, ℕ, zero, suc, ◌+◌, ◌*◌, ◌++◌, ◌∙◌, refl, sym, subst, ap, arith}
use Rattle.block_geometry.specs.declared.transform_blocks.FramePlaces.{FramePlaces}
use Rattle.counting_reader.specs.Counting.{settle}
use Rattle.mode_syntax.specs.TileSquares.{Cut, whole, leaves}
use Rattle.mode_syntax.specs.Walk.{TileWalk, decode_tile}
use Rattle.counting_reader.specs.Counting.{Yields}
use Rattle.mode_syntax.proofs.Walks.{lists_none, lists_both, lists_as, leaves_listed}
use Rattle.counting_reader.proofs.Yields.{yields_bind, yields_map}
use Rattle.mode_syntax.specs.Laws.{square_at, decode_square, decode_row, decode_rows, squares_from, Lists, ListsItsBlock, ListsLeaves, ListsTile}
use Rattle.mode_syntax.proofs.RowByRow.{tile_is}
use Rattle.mode_syntax.proofs.TileLeaves.{row_leaves, rows_leaves, by_place, rows_by_leaves}

-- one before the others
front : {A : Type 0} → A → (ℕ → A) → ℕ → A
front a f zero = a
front a f (suc k) = f k

next_place : (c j : ℕ) → c + 8 * suc j ≡ c + 8 + 8 * j
next_place c j = omega arith

first_place : (c : ℕ) → c + 8 * 0 ≡ c
first_place c = omega arith

one_on : (j : ℕ) → suc j + 1 ≡ suc (j + 1)
one_on j = omega arith

row_shifted : (frame : FramePlaces) (r c : ℕ) (a : Cut) (f : ℕ → Cut) (j n : ℕ) → row_leaves frame r c (front a f) (suc j) n ≡ row_leaves frame r (c + 8) f j n
unfolding front
row_shifted frame r c a f j zero = refl
row_shifted frame r c a f j (suc n) =
    ap (λ k. leaves frame 3 r k (f j) ++ row_leaves frame r c (front a f) (suc j + 1) n) (next_place c j)
    ∙ ap (λ k. leaves frame 3 r (c + 8 + 8 * j) (f j) ++ row_leaves frame r c (front a f) k n) (one_on j)
    ∙ ap (λ l. leaves frame 3 r (c + 8 + 8 * j) (f j) ++ l) (row_shifted frame r c a f (j + 1) n)

row_more : (frame : FramePlaces) (r c : ℕ) (a : Cut) (f : ℕ → Cut) (n : ℕ)
    → row_leaves frame r c (front a f) 0 (suc n) ≡ leaves frame 3 r c a ++ row_leaves frame r (c + 8) f 0 n
unfolding front
row_more frame r c a f n =
    ap (λ k. leaves frame 3 r k a ++ row_leaves frame r c (front a f) 1 n) (first_place c)
    ∙ ap (λ l. leaves frame 3 r c a ++ l) (row_shifted frame r c a f 0 n)

abbrev ListsRow : {S : Type 0} → TileWalk S → ℕ → ℕ → ℕ → S → S → Type 0
ListsRow walk r c n s t = (cuts : ℕ → Cut) × Lists walk s (row_leaves walk.frame r c cuts 0 n) t

row_listed : {S : Type 0} (walk : TileWalk S) → ListsItsBlock walk → (r c n : ℕ) (s : S) → Yields (decode_row walk r c n s) (ListsRow walk r c n s)
unfolding decode_row settle
row_listed walk each r c zero s = ((λ k. whole), lists_none walk s)
row_listed walk each r c (suc n) s =
    yields_bind (decode_square walk 3 r c s) (decode_row walk r (c + 8) n) (ListsLeaves walk 3 r c s) (ListsRow walk r c (suc n) s) (leaves_listed walk each 3 r c s)
    (λ t a. yields_map (decode_row walk r (c + 8) n t) (ListsRow walk r (c + 8) n t) (ListsRow walk r c (suc n) s) (row_listed walk each r (c + 8) n t)
    (λ u b. (
      front a.0 b.0,
      lists_as walk s u (leaves walk.frame 3 r c a.0 ++ row_leaves walk.frame r (c + 8) b.0 0 n) (row_leaves walk.frame r c (front a.0 b.0) 0 (suc n))
          (row_more walk.frame r c a.0 b.0 n) (lists_both walk s t u _ _ a.1 b.1),
    )))

tile_shifted : (frame : FramePlaces) (r c columns : ℕ) (a : ℕ → Cut) (f : ℕ → ℕ → Cut) (i n : ℕ)
    → rows_leaves frame r c (front a f) columns (suc i) n ≡ rows_leaves frame (r + 8) c f columns i n
unfolding front
tile_shifted frame r c columns a f i zero = refl
tile_shifted frame r c columns a f i (suc n) =
    ap (λ k. row_leaves frame k c (f i) 0 columns ++ rows_leaves frame r c (front a f) columns (suc i + 1) n) (next_place r i)
    ∙ ap (λ k. row_leaves frame (r + 8 + 8 * i) c (f i) 0 columns ++ rows_leaves frame r c (front a f) columns k n) (one_on i)
    ∙ ap (λ l. row_leaves frame (r + 8 + 8 * i) c (f i) 0 columns ++ l) (tile_shifted frame r c columns a f (i + 1) n)

tile_more : (frame : FramePlaces) (r c columns : ℕ) (a : ℕ → Cut) (f : ℕ → ℕ → Cut) (n : ℕ)
    → rows_leaves frame r c (front a f) columns 0 (suc n) ≡ row_leaves frame r c a 0 columns ++ rows_leaves frame (r + 8) c f columns 0 n
unfolding front
tile_more frame r c columns a f n =
    ap (λ k. row_leaves frame k c a 0 columns ++ rows_leaves frame r c (front a f) columns 1 n) (first_place r)
    ∙ ap (λ l. row_leaves frame r c a 0 columns ++ l) (tile_shifted frame r c columns a f 0 n)

abbrev ListsRows : {S : Type 0} → TileWalk S → ℕ → ℕ → ℕ → ℕ → S → S → Type 0
ListsRows walk columns r c n s t = (cuts : ℕ → ℕ → Cut) × Lists walk s (rows_leaves walk.frame r c cuts columns 0 n) t

rows_listed : {S : Type 0} (walk : TileWalk S) → ListsItsBlock walk → (columns r c n : ℕ) (s : S) → Yields (decode_rows walk columns r c n s) (ListsRows walk columns r c n s)
unfolding decode_rows settle
rows_listed walk each columns r c zero s = ((λ k j. whole), lists_none walk s)
rows_listed walk each columns r c (suc n) s =
    yields_bind (decode_row walk r c columns s) (decode_rows walk columns (r + 8) c n) (ListsRow walk r c columns s) (ListsRows walk columns r c (suc n) s) (row_listed walk each r c columns s)
    (λ t a. yields_map (decode_rows walk columns (r + 8) c n t) (ListsRows walk columns (r + 8) c n t) (ListsRows walk columns r c (suc n) s) (rows_listed walk each columns (r + 8) c n t)
    (λ u b. (
      front a.0 b.0,
      lists_as walk s u (row_leaves walk.frame r c a.0 0 columns ++ rows_leaves walk.frame (r + 8) c b.0 columns 0 n) (rows_leaves walk.frame r c (front a.0 b.0) columns 0 (suc n))
          (tile_more walk.frame r c columns a.0 b.0 n) (lists_both walk s t u _ _ a.1 b.1),
    )))

pub tile_listed : {S : Type 0} (walk : TileWalk S) → ListsItsBlock walk → (columns r c n : ℕ) (s : S)
    → Yields (decode_tile walk (squares_from walk columns r c n) s) (ListsTile walk (squares_from walk columns r c n) s)
tile_listed walk each columns r c n s =
    let first = square_at walk 3 r c in
    subst (λ x. Yields x (ListsTile walk (squares_from walk columns r c n) s)) (sym (tile_is walk columns r c n s))
    (yields_map (decode_rows walk columns r c n s) (ListsRows walk columns r c n s) (ListsTile walk (squares_from walk columns r c n) s) (rows_listed walk each columns r c n s)
    (λ t a. (by_place first a.0, lists_as walk s t (rows_leaves walk.frame r c a.0 columns 0 n) _ (rows_by_leaves walk.frame first a.0 n columns) a.1)))
