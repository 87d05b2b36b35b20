-- Residue added to what stands in a plane.
use Rattle.std.proofs.Common.{◌≡◌, ◌<◌, ◌≤◌, ◌+◌, ◌*◌, ◌-◌, ◌^◌, ◌∷◌, [], ℕ, ℤ, ◌∙◌, refl, sym, ap, arith, List, length, get_or, take, drop, min, length-drop}
use Rattle.std.specs.Prelude.{Some, None, pos, slice_index_or, unsigned_abs}
use Rattle.std.specs.List.{All, fold}
use Rattle.std.proofs.lemmas.Bool.Decides.{nat_tests}
use Rattle.std.proofs.lemmas.List.{get_or-take, get_or-drop, length-take}
use Rattle.std.proofs.lemmas.List.FromFn.{get_or-map-range_with_len}
use Rattle.std.proofs.lemmas.List.Sums.{fold-append}
use Rattle.vp9_types.specs.Maps.{Map, IsAtMost, row_of, with_block}
use Rattle.vp9_types.specs.Sizes.{greatest, side}
use Rattle.vp9_types.specs.declared.block.TxSize.{TxSize}
use Rattle.vp9_types.specs.declared.shape.Depth.{Depth}
use Rattle.vp9_tables.specs.Scans.{area}
use Rattle.block_geometry.specs.declared.transform_blocks.PlaneBlock.{PlaneBlock}
use Rattle.block_geometry.specs.TransformBlocks.{place_at}
use Rattle.block_geometry.specs.declared.transform_blocks.TransformPlace.{TransformPlace}
use Rattle.block_plan.specs.Planned.{Residue}
use Rattle.intra_predict.specs.Residue.{IsResidue, with_residue}
use Rattle.intra_predict.specs.Steps.{plus_residue, with_square}
use Rattle.intra_predict.proofs.StepLemmas.{residue_small, square_small}
use Rattle.planes.specs.Planes.{HasRow, lower_end, right_end}
use Rattle.planes.specs.declared.area.Area.{Area}
use Rattle.planes.proofs.RowLemmas.{add-sub_left, next, one_row_more, with_block_same}
use Rattle.block_rebuild.specs.InterBlocks.{add_residue, samples_from, tx_row, tx_column}
use Rattle.block_rebuild.specs.Code.{add_more}
use Rattle.block_rebuild.specs.Residues.{first_residues}
use Rattle.block_rebuild.proofs.Puts.{first_more, square}

---- Rows ----

-- a block of rows of `size` samples with its residue
abbrev pub added : ℕ → ℕ → Map → List ℤ → Map
added most size block residue = λ i j. with_residue most (block i j) (slice_index_or residue (i * size + j) (pos 0))

-- rows that follow a block's are as they were
next_row : (m : Map) (y x i columns : ℕ) (b : Map) (c : ℕ) → with_block m y x i columns b (y + i) c ≡ m (y + i) c
unfolding with_block
next_row m y x i columns b c = grind (arith, nat_tests)

value_at : (values : List ℤ) (from columns j : ℕ) (d : ℤ) → j < columns → get_or (take (from + columns - from) (drop from values)) j d ≡ get_or values (from + j) d
value_at values from columns j d low = rw (add-sub_left, get_or-take, get_or-drop) refl

pub long_part : (values : List ℤ) (from columns : ℕ) → from + columns ≤ length values → length (take (from + columns - from) (drop from values)) ≡ columns
long_part values from columns fits = rw add-sub_left (omega (arith, length-take columns (drop from values), length-drop from values))

-- a row more, of the values behind those of the rows before it
pub row_added : (m now new : Map) (row column i columns size : ℕ) (most : ℕ) (values part : List ℤ)
    → part ≡ take (i * size + columns - i * size) (drop (i * size) values) → i * size + columns ≤ length values
    → now ≡ with_block m row column i columns (added most size (samples_from m row column) values)
    → new ≡ with_block now (row + i) column 1 (length part) (λ _ j. with_residue most (now (row + i) (column + j)) (slice_index_or part j (pos 0)))
    → new ≡ with_block m row column (i + 1) columns (added most size (samples_from m row column) values)
row_added m now new row column i columns size most values part cut fits so is =
    let b : Map = added most size (samples_from m row column) values in
    let long : length part ≡ columns = ap length cut ∙ long_part values (i * size) columns fits in
    let each : (k j : ℕ) → k < 1 → j < columns → with_residue most (now (row + i) (column + j)) (slice_index_or part j (pos 0)) ≡ b i j =
    λ k j low left.
    let sample : now (row + i) (column + j) ≡ m (row + i) (column + j) = ap (λ (z : Map). z (row + i) (column + j)) so ∙ next_row m row column i columns b (column + j) in
    let value : get_or part j (pos 0) ≡ get_or values (i * size + j) (pos 0) =
    ap (λ (z : List ℤ). get_or z j (pos 0)) cut ∙ value_at values (i * size) columns j (pos 0) left in
    λ t. with_residue most (sample t) (value t) in
    is
    ∙ ((λ t. with_block now (row + i) column 1 (long t) (λ _ j. with_residue most (now (row + i) (column + j)) (slice_index_or part j (pos 0))))
    ∙ (with_block_same now (row + i) column 1 columns _ (λ _ j. b i j) each
    ∙ (ap (λ (z : Map). with_block z (row + i) column 1 columns (λ _ j. b i j)) so
    ∙ one_row_more m row column i columns b)))

pub square_added : (m new : Map) (row column i columns size s width height : ℕ) (depth : Depth) (most : ℕ) (values : List ℤ)
    → new ≡ with_block m row column i columns (added most size (samples_from m row column) values)
    → size ≡ s → most ≡ greatest depth → i ≡ min s (height - row) → columns ≡ min s (width - column)
    → new ≡ with_square width height m row column s (plus_residue depth s (samples_from m row column) values)
square_added m new row column i columns size s width height depth most values is same top rows wide =
    is ∙ (λ t. with_block m row column (rows t) (wide t) (added (top t) (same t) (samples_from m row column) values))

pub row_inside : (a b : Area) (row column i side rows columns n : ℕ) → HasRow a row column 1 → b ≡ a → i < rows → rows ≡ min side (lower_end a - row)
    → columns ≡ min side (right_end a - column) → n ≡ columns → HasRow b (row + i) column n
row_inside a b row column i side rows columns n inside same low high wide long = rw (same, long) (record {
  above = omega (arith, inside.above);
  below = omega (arith, high, low, inside.below);
  left = inside.left;
  right = omega (arith, wide, inside.right);
})

-- rows of a transform block are among its values
pub row_fits : (values : List ℤ) (tx : TxSize) (size rows columns i : ℕ) → size ≡ side tx → length values ≡ area tx → i < rows → rows ≤ size → columns ≤ size
    → i * size + columns ≤ length values
row_fits values tx size rows columns i same long low few narrow =
    let next = row_next i rows size low few in
    let whole : size * size ≡ area tx = (λ t. same t * same t) ∙ square tx in
    omega (arith, next, whole, long, narrow)
  where
    row_next : (i rows size : ℕ) → i < rows → rows ≤ size → i * size + size ≤ size * size
    row_next i rows size low few = next size i size (omega arith)

-- values of a row are far from the ends of 32 bits too
pub part_residue : (values : List ℤ) (from columns : ℕ) → from + columns ≤ length values → All (λ x. unsigned_abs x < 2 ^ 24) values
    → IsResidue (length (take (from + columns - from) (drop from values))) (take (from + columns - from) (drop from values))
part_residue values from columns fits small = rw (long_part values from columns fits) (record {
  enough = omega (arith, long_part values from columns fits);
  small = λ k low. rw (value_at values from columns k (pos 0) low) (small (from + k) (pos 0) (omega (arith, fits, low)));
})

-- a row's samples with their residue
pub line_added : (m : Map) (row column n most : ℕ) (residue : List ℤ) (old new : List ℕ) → old ≡ row_of m row column n
    → ((k : ℕ) → k < n → get_or new k 0 ≡ with_residue most (get_or old k 0) (slice_index_or residue k (pos 0)))
    → with_block m row column 1 n (λ _ j. get_or new j 0) ≡ with_block m row column 1 n (λ _ j. with_residue most (m row (column + j)) (slice_index_or residue j (pos 0)))
line_added m row column n most residue old new is each = with_block_same m row column 1 n _ _ (λ i j low left.
    each j left
    ∙ (λ t. with_residue most ((ap (λ (z : List ℕ). get_or z j 0) is ∙ get_or-map-range_with_len (m row) column n j (column + j) 0 left refl) t) (slice_index_or residue j (pos 0))))

---- Transform blocks ----

pub added_small : (width height : ℕ) (depth : Depth) (b : PlaneBlock) (at : TransformPlace) (residue : Residue) (m : Map) → IsAtMost (greatest depth) m
    → IsAtMost (greatest depth) (add_residue width height depth b at residue m)
added_small width height depth b at None m small = small
added_small width height depth b at (Some values) m small =
    square_small (greatest depth) width height m _ _ (side b.tx) (plus_residue depth (side b.tx) (samples_from m (tx_row b at.row) (tx_column b at.column)) values) small
    (residue_small depth (side b.tx) (samples_from m (tx_row b at.row) (tx_column b at.column)) values)

pub add_one_more : (a a' : Area) (depth : Depth) (b : PlaneBlock) (ats : List TransformPlace) (residue : ℕ → Residue) (k : ℕ) (at : TransformPlace) (r : Residue) (start m new : Map)
    → get_or ats k (place_at 0 0) ≡ at → r ≡ residue k → m ≡ fold (add_more a depth b) start (first_residues residue ats k)
    → a' ≡ a → new ≡ add_more a' depth b m (at, r)
    → new ≡ fold (add_more a depth b) start (first_residues residue ats (k + 1))
add_one_more a a' depth b ats residue k at r start m new here taken so same is =
    is
    ∙ ((λ i. add_more (same i) depth b (so i) (sym here i, taken i))
    ∙ (sym (fold-append (add_more a depth b) start (first_residues residue ats k) ((get_or ats k (place_at 0 0), residue k) ∷ []))
    ∙ ap (fold (add_more a depth b) start) (sym (first_more residue ats k))))
