-- Blocks in the planes of a frame: those of one tile column alone, and row after row of superblocks.
use Rattle.std.proofs.Common.{◌≡◌, ◌<◌, ◌≤◌, ◌+◌, ◌*◌, ◌⊎◌, inl, inr, Bool, true, false, ℕ, zero, suc, List, [], ◌∷◌, refl, sym, ◌∙◌, ap, arith, subst}
use Rattle.std.specs.Prelude.{slice_index_or}
use Rattle.std.specs.List.{All, fold, filter}
use Rattle.std.proofs.Math.Path.{fun_ext}
use Rattle.std.proofs.lemmas.Bool.{eq-eqb, eqb-true}
use Rattle.std.proofs.lemmas.List.Elements.{All-filter, filter_passes}
use Rattle.vp9_types.specs.Maps.{Map, FrameMap}
use Rattle.vp9_types.specs.Shapes.{halved, mi_rows, mi_cols}
use Rattle.vp9_types.specs.declared.shape.Plane.{Plane}
use Rattle.vp9_types.specs.declared.shape.Plane.TheVariants.{Y, U, V}
use Rattle.vp9_types.specs.declared.shape.Shape.{Shape}
use Rattle.block_geometry.specs.BlockSizes.{width_8, height_8}
use Rattle.block_plan.specs.Planned.{PlannedBlock, residues_in}
use Rattle.block_plan.specs.declared.block.Prediction.{Prediction}
use Rattle.block_plan.specs.declared.block.Prediction.TheVariants.{Intra, Inter}
use Rattle.inter_places.specs.Places.{is_subsampled, coded_length}
use Rattle.inter_places.specs.declared.part.Direction.TheVariants.{Down, Across}
use Rattle.planes.specs.Pictures.{blank}
use Rattle.block_rebuild.specs.RebuiltBlocks.{put_by, put_planned, put_intra}
use Rattle.block_rebuild.specs.InterBlocks.{Rebuilding, put_inter}
use Rattle.block_rebuild.specs.Strips.{Region, IsIn, IsAround, in_plane, strip_places, superblock_row, is_in_column, is_in_row, column_blocks, row_blocks, with_blocks, last_row_above, strip_below, strip, above_strip}
use Rattle.block_rebuild.specs.Laws.{StaysIn, FrameStaysIn, IsRead, own_places, places_around, IsInColumn, IsBesideColumn, KeepToColumns, AreInOrder, IsStrip, NeedsLastRow, MakesStrip, StripHolds}
use Rattle.block_rebuild.proofs.Regions.{IsWithin, fold_stays, stays_wider, commute, around}
use Rattle.block_rebuild.proofs.Strands.{IsSorted, Spares, alone, differs, strands, rows_are, nothing, only_row}
use Rattle.block_rebuild.proofs.Stays.{intra_stays, inter_stays, own_within, rises}

---- A block in one plane ----

abbrev pub put_in_plane : Rebuilding → Plane → PlannedBlock → Prediction → Map → Map
put_in_plane by p b (Intra modes) m = put_intra by.shape b.tile_from b.info modes p (residues_in b p) m
put_in_plane by p b (Inter modes) m = put_inter by b.info modes p (residues_in b p) m

abbrev pub put : Rebuilding → Plane → Map → PlannedBlock → Map
put by p m b = put_in_plane by p b b.info.prediction m

in_each : (by : Rebuilding) (b : PlannedBlock) (prediction : Prediction) (m : FrameMap) (p : Plane) → put_by by b prediction m p ≡ put_in_plane by p b prediction (m p)
unfolding put_by
in_each by b (Intra modes) m Y = refl
in_each by b (Intra modes) m U = refl
in_each by b (Intra modes) m V = refl
in_each by b (Inter modes) m Y = refl
in_each by b (Inter modes) m U = refl
in_each by b (Inter modes) m V = refl

stays_by : (by : Rebuilding) (p : Plane) (b : PlannedBlock) (prediction : Prediction) → IsRead by.shape b
    → StaysIn (in_plane by.shape p (own_places b.info)) (in_plane by.shape p (places_around b)) (put_in_plane by p b prediction)
stays_by by p b (Intra modes) read = intra_stays by.shape b modes p read
stays_by by p b (Inter modes) read = inter_stays by b modes p read

stays : (by : Rebuilding) (p : Plane) (b : PlannedBlock) → IsRead by.shape b → StaysIn (in_plane by.shape p (own_places b.info)) (in_plane by.shape p (places_around b)) (λ m. put by p m b)
stays by p b read = stays_by by p b b.info.prediction read

-- seen from a region that has all that is around the block
stays_in : (by : Rebuilding) (p : Plane) (b : PlannedBlock) (g : Region) → IsRead by.shape b → IsWithin (in_plane by.shape p (places_around b)) g → StaysIn g g (λ m. put by p m b)
stays_in by p b g read within =
    let own = own_within by.shape b p read.placed.tile in
    stays_wider _ _ g g (λ m. put by p m b) (record {
      top = omega (arith, own.top, within.top);
      bottom = omega (arith, own.bottom, within.bottom);
      left = omega (arith, own.left, within.left);
      right = omega (arith, own.right, within.right);
    }) within own (stays by p b read)

-- a block changes its own place alone, and needs what is around it in its tile
pub block_stays_in : (by : Rebuilding) (b : PlannedBlock) → IsRead by.shape b → FrameStaysIn by.shape (own_places b.info) (places_around b) (put_planned by b)
block_stays_in by b read = record {
  leaves = λ m p y x out. ap (λ (z : Map). z y x) (in_each by b b.info.prediction m p) ∙ (stays by p b read).leaves (m p) y x out;
  needs = λ m n same p y x near.
      ap (λ (z : Map). z y x) (in_each by b b.info.prediction m p)
      ∙ ((stays by p b read).needs (m p) (n p) (same p) y x near ∙ sym (ap (λ (z : Map). z y x) (in_each by b b.info.prediction n p)));
}

-- blocks of different tile columns commute
pub blocks_commute : (by : Rebuilding) (a b : PlannedBlock) (m : FrameMap) → IsRead by.shape a → IsRead by.shape b → a.info.col + width_8 a.info.size ≤ b.tile_from
    → put_planned by a (put_planned by b m) ≡ put_planned by b (put_planned by a m)
blocks_commute by a b m one two apart = fun_ext λ p.
    in_each by a a.info.prediction (put_planned by b m) p
    ∙ (ap (put_in_plane by p a a.info.prediction) (in_each by b b.info.prediction m p)
    ∙ (commute (in_plane by.shape p (places_around a)) (in_plane by.shape p (places_around b)) (λ z. put by p z a) (λ z. put by p z b) (m p)
    (rises (is_subsampled by.shape p Across) _ _ apart)
    (stays_in by p a _ one (itself _)) (stays_in by p b _ two (itself _))
    ∙ (sym (ap (put_in_plane by p b b.info.prediction) (in_each by a a.info.prediction m p))
    ∙ sym (in_each by b b.info.prediction (put_planned by a m) p))))
  where
    itself : (g : Region) → IsWithin g g
    itself g = record { top = omega arith; bottom = omega arith; left = omega arith; right = omega arith }

---- Blocks in one plane ----

in_planes : (by : Rebuilding) (p : Plane) (blocks : List PlannedBlock) (m : FrameMap) → with_blocks by m blocks p ≡ fold (put by p) (m p) blocks
unfolding with_blocks
in_planes by p [] m = refl
in_planes by p (b ∷ blocks) m = in_planes by p blocks (put_planned by b m) ∙ ap (λ (z : Map). fold (put by p) z blocks) (in_each by b b.info.prediction m p)

---- One tile column ----

abbrev left_of : Shape → Plane → ℕ → ℕ
left_of shape p from = halved (is_subsampled shape p Across) (8 * from)

-- its rows of superblocks
abbrev edge : Shape → Plane → ℕ → ℕ
edge shape p r = halved (is_subsampled shape p Down) (8 * (8 * r))

-- all of its rows, as far as blocks reach and some more
abbrev column_in : Shape → Plane → ℕ → ℕ → ℕ → Region
column_in shape p from to more = record {
  top = 0;
  bottom = halved (is_subsampled shape p Down) (8 * (mi_rows shape + 8)) + more;
  left = left_of shape p from;
  right = left_of shape p to;
}

is_in_column_of : (by : Rebuilding) (p : Plane) (from to more : ℕ) (b : PlannedBlock) → IsRead by.shape b → IsInColumn from to b
    → IsWithin (in_plane by.shape p (places_around b)) (column_in by.shape p from to more)
is_in_column_of by p from to more b read is = record {
  top = omega arith;
  bottom = let h = rises (is_subsampled by.shape p Down) (b.info.row + height_8 b.info.size) (mi_rows by.shape + 8) (omega (arith, read.placed.row, read.row)) in omega (arith, h);
  left = rises (is_subsampled by.shape p Across) from b.tile_from (omega (arith, is.begin));
  right = rises (is_subsampled by.shape p Across) (b.info.col + width_8 b.info.size) to is.end;
}

spares : (by : Rebuilding) (p : Plane) (from to more : ℕ) (b : PlannedBlock) → IsRead by.shape b → IsBesideColumn from to b → Spares (column_in by.shape p from to more) (λ m. put by p m b)
spares by p from to more b read is m y x near = (stays by p b read).leaves m y x (λ i. beside i is.beside)
  where
    beside : IsIn (in_plane by.shape p (own_places b.info)) y x → (b.info.col + width_8 b.info.size ≤ from) ⊎ (to ≤ b.info.col) → ⊥
    beside i (inl before) = let h = rises (is_subsampled by.shape p Across) (b.info.col + width_8 b.info.size) from before in omega (arith, h, i.before, near.behind)
    beside i (inr behind) = let h = rises (is_subsampled by.shape p Across) to b.info.col behind in omega (arith, h, i.behind, near.before)

is_sorted : (by : Rebuilding) (p : Plane) (from to more : ℕ) (b : PlannedBlock) → IsRead by.shape b → IsInColumn from to b ⊎ IsBesideColumn from to b
    → IsSorted (column_in by.shape p from to more) (is_in_column from) (put by p) b
is_sorted by p from to more b read (inl is) = inl (eq-eqb b.tile_from from is.begin, stays_in by p b _ read (is_in_column_of by p from to more b read is))
is_sorted by p from to more b read (inr is) = inr (differs b.tile_from from is.other, spares by p from to more b read is)

its_column : (from to : ℕ) (b : PlannedBlock) → IsInColumn from to b ⊎ IsBesideColumn from to b → is_in_column from b ≡ true → IsInColumn from to b
its_column from to b (inl is) yes' = is
its_column from to b (inr is) yes' = absurd (is.other (eqb-true b.tile_from from yes'))

-- the blocks of a column
pub column_is : (from to : ℕ) (blocks : List PlannedBlock) → KeepToColumns from to blocks → All (IsInColumn from to) (column_blocks from blocks)
unfolding column_blocks
column_is from to blocks keep = λ k d low.
    its_column from to _ (All-filter (is_in_column from) (λ b. IsInColumn from to b ⊎ IsBesideColumn from to b) blocks keep k d low) (filter_passes (is_in_column from) blocks k d low)

---- Its rows of superblocks ----

in_strip : (by : Rebuilding) (p : Plane) (from to : ℕ) (b : PlannedBlock) → IsRead by.shape b → IsInColumn from to b
    → IsWithin (in_plane by.shape p (places_around b)) (in_plane by.shape p (strip_places from to (superblock_row b)))
in_strip by p from to b read is = record {
  top = rises (is_subsampled by.shape p Down) (8 * superblock_row b) b.info.row (omega arith);
  bottom = rises (is_subsampled by.shape p Down) (b.info.row + height_8 b.info.size) (8 * (superblock_row b + 1)) (omega (arith, read.row));
  left = rises (is_subsampled by.shape p Across) from b.tile_from (omega (arith, is.begin));
  right = rises (is_subsampled by.shape p Across) (b.info.col + width_8 b.info.size) to is.end;
}

stays_in_strip : (by : Rebuilding) (p : Plane) (from to : ℕ) (b : PlannedBlock) → IsRead by.shape b → IsInColumn from to b
    → StaysIn (in_plane by.shape p (strip_places from to (superblock_row b))) (in_plane by.shape p (strip_places from to (superblock_row b))) (λ m. put by p m b)
stays_in_strip by p from to b read is = stays_in by p b _ read (in_strip by p from to b read is)

strands_are : (by : Rebuilding) (p : Plane) (column : List PlannedBlock) (r : ℕ) → strip by column r p ≡ strands superblock_row (edge by.shape p) (put by p) column r
unfolding strip strands row_blocks
strands_are by p column zero = in_planes by p (row_blocks 0 column) blank
strands_are by p column (suc r) =
    in_planes by p (row_blocks (r + 1) column) (last_row_above by.shape (8 * (r + 1)) (strip by column r))
    ∙ ap (λ (z : Map). fold (put by p) (only_row (edge by.shape p (r + 1)) z) (row_blocks (r + 1) column)) (strands_are by p column r)

edge_grows : (ss : Bool) (r : ℕ) → halved ss (8 * (8 * r)) < halved ss (8 * (8 * (r + 1)))
edge_grows true r = omega arith
edge_grows false r = omega arith

edge_first : (ss : Bool) → halved ss (8 * (8 * 0)) ≡ 0
edge_first true = refl
edge_first false = refl

of_column : (from : ℕ) (blocks : List PlannedBlock) (P : PlannedBlock → Type 0) → All P blocks → All P (column_blocks from blocks)
unfolding column_blocks
of_column from blocks P each = All-filter (is_in_column from) P blocks each

only_column : (by : Rebuilding) (p : Plane) (from to : ℕ) (blocks : List PlannedBlock) (y x : ℕ) → IsAround (column_in by.shape p from to (y + 1)) y x
    → All (IsSorted (column_in by.shape p from to (y + 1)) (is_in_column from) (put by p)) blocks
    → fold (put by p) nothing blocks y x ≡ fold (put by p) nothing (column_blocks from blocks) y x
unfolding column_blocks
only_column by p from to blocks y x near sorted = alone (column_in by.shape p from to (y + 1)) (is_in_column from) (put by p) blocks sorted nothing nothing (λ a b h. refl) y x near

-- A strip needs of what stands above it only the last row in its own columns.
strip_stays : (by : Rebuilding) (p : Plane) (from to r : ℕ) (column : List PlannedBlock) → All (IsRead by.shape) column → All (IsInColumn from to) column
    → StaysIn (in_plane by.shape p (strip_places from to r)) (in_plane by.shape p (strip_places from to r)) (λ m. fold (put by p) m (row_blocks r column))
unfolding row_blocks
strip_stays by p from to r column read its = fold_stays _ _ (put by p) (filter (is_in_row r) column) (λ k d low.
    let b = slice_index_or (filter (is_in_row r) column) k d in
    let row : superblock_row b ≡ r = eqb-true (superblock_row b) r (filter_passes (is_in_row r) column k d low) in
    subst (λ (n : ℕ). StaysIn (in_plane by.shape p (strip_places from to n)) (in_plane by.shape p (strip_places from to n)) (λ m. put by p m b)) row
    (stays_in_strip by p from to b (All-filter (is_in_row r) (IsRead by.shape) column read k d low) (All-filter (is_in_row r) (IsInColumn from to) column its k d low)))

pub needs_last_row : (by : Rebuilding) (from to r : ℕ) (column : List PlannedBlock) → All (IsRead by.shape) column → All (IsInColumn from to) column → NeedsLastRow by from to r column
needs_last_row by from to r column read its m n same p y x near =
    ap (λ (z : Map). z y x) (in_planes by p (row_blocks r column) m)
    ∙ ((strip_stays by p from to r column read its).needs (m p) (n p) (same p) y x near
    ∙ sym (ap (λ (z : Map). z y x) (in_planes by p (row_blocks r column) n)))

pub is_strip : (by : Rebuilding) (from to r : ℕ) (blocks : List PlannedBlock) → All (IsRead by.shape) blocks → KeepToColumns from to blocks → AreInOrder (column_blocks from blocks) → IsStrip by from to r blocks
is_strip by from to r blocks read keep order p y x i =
    let sorted : All (IsSorted (column_in by.shape p from to (y + 1)) (is_in_column from) (put by p)) blocks = λ k d low. is_sorted by p from to (y + 1) _ (read k d low) (keep k d low) in
    let column = column_blocks from blocks in
    let its = column_is from to blocks keep in
    let its_read : All (IsRead by.shape) column = of_column from blocks (IsRead by.shape) read in
    ap (λ (z : Map). z y x) (in_planes by p blocks blank)
    ∙ (only_column by p from to blocks y x (record { below = omega arith; above = omega arith; behind = i.behind; before = i.before }) sorted
    ∙ (rows_are superblock_row (edge by.shape p) (left_of by.shape p from) (left_of by.shape p to) (put by p) column
    (edge_first (is_subsampled by.shape p Down)) (edge_grows (is_subsampled by.shape p Down)) (λ a b le. rises (is_subsampled by.shape p Down) (8 * a) (8 * b) (omega (arith, le)))
    order (λ k d low. stays_in_strip by p from to _ (its_read k d low) (its k d low)) r y x i
    ∙ sym (ap (λ (z : Map). z y x) (strands_are by p column r))))

strip_is : (by : Rebuilding) (column : List PlannedBlock) (r : ℕ) → strip by column r ≡ strip_below by column r (above_strip by column r)
unfolding strip
strip_is by column zero = refl
strip_is by column (suc r) = let next : r + 1 ≡ suc r = omega arith in ap (λ (n : ℕ). strip_below by column n (above_strip by column (suc r))) next

pub makes_strip : (by : Rebuilding) (from to r : ℕ) (column : List PlannedBlock) → All (IsRead by.shape) column → All (IsInColumn from to) column → MakesStrip by from to r column
makes_strip by from to r column read its m same p y x i =
    needs_last_row by from to r column read its m (above_strip by column r) same p y x (around _ y x i)
    ∙ sym (ap (λ (z : FrameMap). z p y x) (strip_is by column r))

inside_row : (ss : Bool) (a b : ℕ) → a < b → halved ss (8 * a) < halved ss (8 * b)
inside_row true a b low = omega (arith, low)
inside_row false a b low = omega (arith, low)

lengths : (shape : Shape) (p : Plane) → (halved (is_subsampled shape p Down) (8 * mi_rows shape) ≡ coded_length shape p Down) × (halved (is_subsampled shape p Across) (8 * mi_cols shape) ≡ coded_length shape p Across)
lengths shape Y = (refl, refl)
lengths shape U = (refl, refl)
lengths shape V = (refl, refl)

pub strip_holds : (shape : Shape) (from to : ℕ) (b : PlannedBlock) → IsRead shape b → IsInColumn from to b → StripHolds shape from to b
strip_holds shape from to b read is p =
    let ss_y = is_subsampled shape p Down in
    let ss_x = is_subsampled shape p Across in
    let top = rises ss_y (8 * superblock_row b) b.info.row (omega arith) in
    let high = inside_row ss_y b.info.row (mi_rows shape) read.placed.row in
    let low = rises ss_y (b.info.row + height_8 b.info.size) (8 * (superblock_row b + 1)) (omega (arith, read.row)) in
    let begin = rises ss_x from b.info.col (omega (arith, is.begin, read.placed.tile)) in
    let wide = inside_row ss_x b.info.col (mi_cols shape) read.placed.column in
    let end = rises ss_x (b.info.col + width_8 b.info.size) to is.end in
    let first = rises ss_x from b.tile_from (omega (arith, is.begin)) in
    let long = lengths shape p in
    let bottom = inside_row ss_y b.info.row (8 * (superblock_row b + 1)) (omega arith) in
    let right = inside_row ss_x b.info.col (b.info.col + width_8 b.info.size) (omega arith) in
    record {
      top = omega (arith, top);
      above = λ some. omega (arith, top, some);
      left = first;
      bottom = omega (arith, low);
      right = omega (arith, end);
      low = omega (arith, top, high, long.0, bottom);
      narrow = omega (arith, begin, wide, long.1, right, end);
    }
