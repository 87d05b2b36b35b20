-- The blocks of a tile's superblocks, row by row.
use Rattle.std.proofs.Common.{◌≡◌, ◌∙◌, ℕ, ◌+◌, ◌-◌, ◌*◌, ◌/◌, ◌++◌, List, [], ◌∷◌, map, refl, ap, arith}
use Rattle.std.specs.List.{flat_map, range_with_len}
use Rattle.std.proofs.lemmas.List.Concat.{flat_map-append}
use Rattle.block_geometry.specs.declared.transform_blocks.FramePlaces.{FramePlaces}
use Rattle.mode_syntax.specs.Superblocks.{superblock_from, superblocks_of}
use Rattle.mode_syntax.specs.TileSquares.{Leaf, Cut, leaves, tile_leaves}
use Rattle.mode_syntax.specs.declared.square_at.SquareAt.{SquareAt}

-- a row of superblocks of 8 places, from the superblock j on, and all rows of them, from i on
abbrev pub row_leaves : FramePlaces → ℕ → ℕ → (ℕ → Cut) → ℕ → ℕ → List Leaf
row_leaves frame r c cuts j n = flat_map (λ k. leaves frame 3 r (c + 8 * k) (cuts k)) (range_with_len j n)

abbrev pub rows_leaves : FramePlaces → ℕ → ℕ → (ℕ → ℕ → Cut) → ℕ → ℕ → ℕ → List Leaf
rows_leaves frame r c cuts columns i n = flat_map (λ k. row_leaves frame (r + 8 * k) c (cuts k) 0 columns) (range_with_len i n)

flat_map_map : {A B C : Type 0} (f : B → List C) (g : A → B) (xs : List A) → flat_map f (map g xs) ≡ flat_map (λ x. f (g x)) xs
flat_map_map f g [] = refl
flat_map_map f g (x ∷ xs) = ap (λ l. f (g x) ++ l) (flat_map_map f g xs)

flat_map_twice : {A B C : Type 0} (f : B → List C) (g : A → List B) (h : A → List C) → ((x : A) → flat_map f (g x) ≡ h x) → (xs : List A) → flat_map f (flat_map g xs) ≡ flat_map h xs
flat_map_twice f g h same [] = refl
flat_map_twice f g h same (x ∷ xs) = flat_map-append f (g x) (flat_map g xs) ∙ λ i. same x i ++ flat_map_twice f g h same xs i

-- how the superblocks are cut by their numbers
abbrev pub numbered : SquareAt → (SquareAt → Cut) → ℕ → ℕ → Cut
numbered first cuts i j = cuts (superblock_from first i j)

pub leaves_by_rows : (frame : FramePlaces) (first : SquareAt) (cuts : SquareAt → Cut) (rows columns : ℕ)
    → tile_leaves frame cuts (superblocks_of first rows columns) ≡ rows_leaves frame first.row first.col (numbered first cuts) columns 0 rows
leaves_by_rows frame first cuts rows columns =
    flat_map_twice (λ (at : SquareAt). leaves frame at.level at.row at.col (cuts at)) (λ i. map (λ j. superblock_from first i j) (range_with_len 0 columns))
    (λ i. row_leaves frame (first.row + 8 * i) first.col (numbered first cuts i) 0 columns)
    (λ i. flat_map_map (λ (at : SquareAt). leaves frame at.level at.row at.col (cuts at)) (λ j. superblock_from first i j) (range_with_len 0 columns)) (range_with_len 0 rows)

-- and the other way
abbrev pub by_place : SquareAt → (ℕ → ℕ → Cut) → SquareAt → Cut
by_place first cuts at = cuts ((at.row - first.row) / 8) ((at.col - first.col) / 8)

number_of : (r i : ℕ) → (r + 8 * i - r) / 8 ≡ i
number_of r i = omega arith

pub rows_by_leaves : (frame : FramePlaces) (first : SquareAt) (cuts : ℕ → ℕ → Cut) (rows columns : ℕ)
    → tile_leaves frame (by_place first cuts) (superblocks_of first rows columns) ≡ rows_leaves frame first.row first.col cuts columns 0 rows
rows_by_leaves frame first cuts rows columns =
    leaves_by_rows frame first (by_place first cuts) rows columns
    ∙ λ k. rows_leaves frame first.row first.col (λ i j. cuts (number_of first.row i k) (number_of first.col j k)) columns 0 rows
