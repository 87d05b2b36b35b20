-- Which block covers a place of a frame, by its tile column.
use Rattle.std.proofs.Common.{◌≡◌, ◌∙◌, ◌⊎◌, ℕ, zero, suc, ◌+◌, ◌<◌, ◌≤◌, List, [], ◌∷◌, ◌++◌, length, get_or, inl, inr, refl, sym, ap, subst, arith, Bool, true, false}
use Rattle.std.specs.Prelude.{◌&&◌, Option, Some, None, All, min, nat_le, nat_lt, slice_index_or, if◌then◌else◌}
use Rattle.std.proofs.lemmas.List.{get_or-map, length-map}
use Rattle.std.proofs.lemmas.List.Elements.{All-append}
use Rattle.std.proofs.lemmas.Bool.{le-ltb, lt-leb}
use Rattle.vp9_types.specs.Maps.{is_within}
use Rattle.vp9_types.specs.Shapes.{mi_cols}
use Rattle.block_geometry.specs.BlockSizes.{height_8, width_8}
use Rattle.block_plan.specs.Blocks.{covers, covering, or_else}
use Rattle.block_plan.specs.BlockMvs.{vector_of}
use Rattle.block_plan.specs.declared.block.BlockInfo.{BlockInfo}
use Rattle.vp9_tables.specs.BlockTables.{greatest_of}
use Rattle.vp9_tables.specs.Numbers.{tx_number}
use Rattle.frame_headers.specs.HeaderState.{shape_of}
use Rattle.frame_headers.specs.declared.header.Header.{Header}
use Rattle.block_plan.specs.declared.block.InterPrediction.{InterPrediction}
use Rattle.block_plan.specs.declared.block.Prediction.TheVariants.{Inter}
use Rattle.mv_prediction.specs.Vectors.{IsSmallVector}
use Rattle.frame_state.specs.KeptColumns.{AllFit, AllLie, AllSmall, AreTileColumns, HasStarts, blocks_of, limit_of}
use Rattle.frame_state.specs.FrameReading.{all_blocks}
use Rattle.frame_state.specs.TilePlaces.{superblocks_before, tile_offset}
use Rattle.frame_state.specs.declared.columns.TileColumn.{TileColumn}
use Rattle.frame_state.proofs.TileOffsets.{before_grows, column_ends}

or_else_none : {A : Type 0} (o : Option A) → or_else o None ≡ o
or_else_none (Some x) = refl
or_else_none None = refl

or_else_assoc : {A : Type 0} (a b c : Option A) → or_else (or_else a b) c ≡ or_else a (or_else b c)
or_else_assoc (Some x) b c = refl
or_else_assoc None b c = refl

-- in two lists one after the other
pub covering_both : (xs ys : List BlockInfo) (r c : ℕ) → covering (xs ++ ys) r c ≡ or_else (covering ys r c) (covering xs r c)
unfolding covering
covering_both [] ys r c = sym (or_else_none (covering ys r c))
covering_both (x ∷ xs) ys r c =
    ap (λ o. or_else o (if covers x r c then Some x else None)) (covering_both xs ys r c)
    ∙ or_else_assoc (covering ys r c) (covering xs r c) (if covers x r c then Some x else None)

and_false : (a : Bool) → a && false ≡ false
and_false true = refl
and_false false = refl

not_within : (from n k : ℕ) → (k < from) ⊎ (from + n ≤ k) → is_within from n k ≡ false
not_within from n k (inl low) = ap (λ b. b && nat_lt k (from + n)) (lt-leb from k low)
not_within from n k (inr high) = ap (λ b. nat_le from k && b) (le-ltb k (from + n) high) ∙ and_false (nat_le from k)

-- a block of other columns
covers_not : (b : BlockInfo) (from limit r c : ℕ) → from ≤ b.col → b.col + width_8 b.size ≤ limit → (c < from) ⊎ (limit ≤ c) → covers b r c ≡ false
covers_not b from limit r c low high out = ap (λ t. is_within b.row (height_8 b.size) r && t) (not_within b.col (width_8 b.size) c (side out)) ∙ and_false _
  where
    side : (c < from) ⊎ (limit ≤ c) → (c < b.col) ⊎ (b.col + width_8 b.size ≤ c)
    side (inl l) = inl (omega (arith, l, low))
    side (inr h) = inr (omega (arith, h, high))

covering_none : (blocks : List BlockInfo) (from limit r c : ℕ) → AllLie from limit blocks → (c < from) ⊎ (limit ≤ c) → covering blocks r c ≡ None
unfolding covering
covering_none [] from limit r c lie out = refl
covering_none (x ∷ xs) from limit r c lie out =
    let here = lie zero x (omega arith) in
    rw (covering_none xs from limit r c (λ i d low. lie (suc i) d (omega (arith, low))) out, covers_not x from limit r c here.0 here.1 out) refl

nothing : (r c : ℕ) → covering [] r c ≡ None
unfolding covering
nothing r c = refl

none_in_all : (columns : List (List BlockInfo)) (r c : ℕ) → ((j : ℕ) → j < length columns → covering (get_or columns j []) r c ≡ None) → covering (all_blocks columns) r c ≡ None
none_in_all [] r c none = nothing r c
none_in_all (xs ∷ columns) r c none =
    covering_both xs (all_blocks columns) r c
    ∙ (λ i. or_else (none_in_all columns r c (λ j low. none (suc j) (omega (arith, low))) i) (none zero (omega arith) i))

-- the column that alone has a place
in_one : (columns : List (List BlockInfo)) (k r c : ℕ) → k < length columns → ((j : ℕ) → j < length columns → (j < k) ⊎ (k < j) → covering (get_or columns j []) r c ≡ None)
    → covering (all_blocks columns) r c ≡ covering (get_or columns k []) r c
in_one [] k r c there none = absurd (omega (arith, there))
in_one (xs ∷ columns) zero r c there none =
    covering_both xs (all_blocks columns) r c
    ∙ ap (λ o. or_else o (covering xs r c)) (none_in_all columns r c (λ j low. none (suc j) (omega (arith, low)) (inr (omega arith))))
in_one (xs ∷ columns) (suc k) r c there none =
    covering_both xs (all_blocks columns) r c
    ∙ ap (or_else (covering (all_blocks columns) r c)) (none zero (omega arith) (inl (omega arith)))
    ∙ or_else_none (covering (all_blocks columns) r c)
    ∙ in_one columns k r c (omega (arith, there)) (λ j low. λ apart. none (suc j) (omega (arith, low)) (more j apart))
  where
    more : (j : ℕ) → (j < k) ⊎ (k < j) → (suc j < suc k) ⊎ (suc k < suc j)
    more j (inl l) = inl (omega (arith, l))
    more j (inr h) = inr (omega (arith, h))

offset_mono : (places log2 i j : ℕ) → i ≤ j → tile_offset places log2 i ≤ tile_offset places log2 j
offset_mono places log2 i j low =
    let grows : superblocks_before places log2 i ≤ superblocks_before places log2 j = before_grows places log2 i j low in
    omega (arith, grows)

-- an end of columns that isn't that of the frame is the end of their superblocks
limit_is : (limit to places : ℕ) → to ≡ min limit places → to < places → limit ≡ to
limit_is limit to places is inside = omega (arith, is, inside)

-- another tile column has no block there
elsewhere : (header : Header) (n k j r c : ℕ) (columns : List TileColumn) (d : TileColumn) → AreTileColumns header n columns → j < length columns → (j < k) ⊎ (k < j)
    → tile_offset (mi_cols (shape_of header)) header.params.tiles.columns_log2 k ≤ c → c < tile_offset (mi_cols (shape_of header)) header.params.tiles.columns_log2 (k + 1)
    → covering (slice_index_or columns j d).grid.blocks r c ≡ None
elsewhere header n k j r c columns d are there (inl before) from to =
    let is = are.each j d there in
    let places = mi_cols (shape_of header) in
    let log2 = header.params.tiles.columns_log2 in
    let column = slice_index_or columns j d in
    let ends : tile_offset places log2 (j + 1) ≤ tile_offset places log2 k = offset_mono places log2 (j + 1) k (omega (arith, before)) in
    let low : tile_offset places log2 (k + 1) ≤ places = omega arith in
    let spans : column.grid.to ≡ min (limit_of column) places = rw (is.from, is.to) (column_ends places log2 j) in
    let limit : limit_of column ≡ column.grid.to = limit_is (limit_of column) column.grid.to places spans (omega (arith, is.to, ends, from, to, low)) in
    covering_none column.grid.blocks column.grid.from (limit_of column) r c is.lie (inr (omega (arith, limit, is.to, ends, from)))
elsewhere header n k j r c columns d are there (inr behind) from to =
    let is = are.each j d there in
    let places = mi_cols (shape_of header) in
    let log2 = header.params.tiles.columns_log2 in
    let column = slice_index_or columns j d in
    let begins : tile_offset places log2 (k + 1) ≤ tile_offset places log2 j = offset_mono places log2 (k + 1) j (omega (arith, behind)) in
    covering_none column.grid.blocks column.grid.from (limit_of column) r c is.lie (inl (omega (arith, is.from, begins, to)))

block_list_at : (columns : List TileColumn) (j : ℕ) (d : TileColumn) → j < length columns → get_or (blocks_of columns) j [] ≡ (slice_index_or columns j d).grid.blocks
block_list_at columns j d there = get_or-map (λ c. c.grid.blocks) columns j d [] there

many : (columns : List TileColumn) → length (blocks_of columns) ≡ length columns
many columns = length-map columns (λ (x : TileColumn). x.grid.blocks)

-- a place's block is that of its tile column
pub covered_in_column : (header : Header) (n k r c : ℕ) (columns : List TileColumn) (d : TileColumn) → AreTileColumns header n columns → k < length columns
    → tile_offset (mi_cols (shape_of header)) header.params.tiles.columns_log2 k ≤ c → c < tile_offset (mi_cols (shape_of header)) header.params.tiles.columns_log2 (k + 1)
    → covering (slice_index_or columns k d).grid.blocks r c ≡ covering (all_blocks (blocks_of columns)) r c
covered_in_column header n k r c columns d are there from to =
    ap (λ blocks. covering blocks r c) (sym (block_list_at columns k d there))
    ∙ sym (in_one (blocks_of columns) k r c (omega (arith, there, many columns))
    (λ j low apart.
    let within : j < length columns = omega (arith, low, many columns) in
    ap (λ blocks. covering blocks r c) (block_list_at columns j d within) ∙ elsewhere header n k j r c columns d are within apart from to))

fit_joined : (columns : List (List BlockInfo)) → ((j : ℕ) → j < length columns → AllFit (get_or columns j [])) → AllFit (all_blocks columns)
fit_joined [] fit = λ i d low. absurd (omega (arith, low))
fit_joined (xs ∷ columns) fit =
    All-append (λ b. tx_number b.tx ≤ greatest_of b.size) xs (all_blocks columns) (fit zero (omega arith)) (fit_joined columns (λ j low. fit (suc j) (omega (arith, low))))

-- no block of the frame has a transform that is larger than it
pub all_fit : (header : Header) (n : ℕ) (columns : List TileColumn) → AreTileColumns header n columns → AllFit (all_blocks (blocks_of columns))
all_fit header n columns are = fit_joined (blocks_of columns) (one columns are)
  where
    one : (columns : List TileColumn) → AreTileColumns header n columns → (j : ℕ) → j < length (blocks_of columns) → AllFit (get_or (blocks_of columns) j [])
    one [] are j low = absurd (omega (arith, low))
    one (c ∷ rest) are j low =
        let within : j < length (c ∷ rest) = omega (arith, low, many (c ∷ rest)) in
        subst AllFit (sym (block_list_at (c ∷ rest) j c within)) (are.each j c within).fit_blocks

pub starts_of : (header : Header) (n : ℕ) (columns : List TileColumn) → AreTileColumns header n columns → All (HasStarts header) columns
starts_of header n columns are = λ k d low. (are.each k d low).starts

joined : (P : BlockInfo → Type 0) (columns : List (List BlockInfo)) → ((j : ℕ) → j < length columns → All P (get_or columns j [])) → All P (all_blocks columns)
joined P [] each = λ i d low. absurd (omega (arith, low))
joined P (xs ∷ columns) each =
    All-append P xs (all_blocks columns) (each zero (omega arith)) (joined P columns (λ j low. each (suc j) (omega (arith, low))))

-- all vectors of the frame are small
pub all_small : (header : Header) (n : ℕ) (columns : List TileColumn) → AreTileColumns header n columns → AllSmall (all_blocks (blocks_of columns))
all_small header n columns are = joined IsSmallIn (blocks_of columns) (one columns are)
  where
    IsSmallIn : BlockInfo → Type 0
    IsSmallIn b = (modes : InterPrediction) (quarter list : ℕ) → b.prediction ≡ Inter modes → IsSmallVector (vector_of modes quarter list)

    one : (columns : List TileColumn) → AreTileColumns header n columns → (j : ℕ) → j < length (blocks_of columns) → All IsSmallIn (get_or (blocks_of columns) j [])
    one [] are j low = absurd (omega (arith, low))
    one (c ∷ rest) are j low =
        let within : j < length (c ∷ rest) = omega (arith, low, many (c ∷ rest)) in
        subst AllSmall (sym (block_list_at (c ∷ rest) j c within)) (are.each j c within).small
