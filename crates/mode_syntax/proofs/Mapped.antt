-- Walks over different states that read the same.
use Rattle.std.proofs.Common.{◌≡◌, ◌∙◌, ℕ, zero, suc, ◌+◌, ◌*◌, ◌^◌, ◌<◌, ◌≤◌, true, List, inl, inr, refl, sym, ap, arith, lit≤}
use Rattle.std.proofs.lemmas.Bool.{cases_Bool, and_parts, ltb-true}
use Rattle.std.proofs.Math.Nat.{pow-suc}
use Rattle.vp9_types.specs.declared.block.BlockSize.{BlockSize}
use Rattle.vp9_types.specs.declared.block.Partition.{Partition}
use Rattle.vp9_types.specs.declared.block.Partition.TheVariants.{Whole, Horizontal, Vertical, Split}
use Rattle.block_geometry.specs.BlockSizes.{width_8}
use Rattle.block_geometry.specs.SplitSquares.{part_size}
use Rattle.block_plan.specs.declared.block.BlockAt.{BlockAt}
use Rattle.block_plan.specs.declared.block.BlockInfo.{BlockInfo}
use Rattle.counting_reader.specs.Counting.{settle, in_order, mapped}
use Rattle.counting_reader.proofs.Mapped.{Reads, mapped_seq, mapped_by}
use Rattle.mode_syntax.specs.Partitions.{partition_at}
use Rattle.mode_syntax.specs.Walk.{TileWalk, block_at, starts_inside, block_inside, smallest_parts, parts, decode_at_level, decode_tile}
use Rattle.mode_syntax.specs.Laws.{square_at, decode_square, square_parts, decode_row, decode_rows, squares_from, walk_over, LiesIn, KeepsStep}
use Rattle.mode_syntax.proofs.RowByRow.{tile_is}
use Rattle.mode_syntax.proofs.SquareParts.{rows_are, columns_are, quarters_are}

pub starts_so : {S : Type 0} (walk : TileWalk S) (r c : ℕ) → starts_inside walk r c ≡ true → c < walk.frame.cols
starts_so walk r c h = ltb-true c walk.frame.cols (and_parts _ _ h).1

pub twice : (n : ℕ) → 2 ^ n + 2 ^ n ≡ 2 ^ suc n
twice n = omega (arith, pow-suc 2 n)

-- the widths of the parts of a square
pub narrow : (n : ℕ) (p : Partition) → suc n ≤ 3 → width_8 (part_size p (suc n)) ≤ 2 ^ suc n
narrow zero Whole few = lit≤ tt
narrow zero Horizontal few = lit≤ tt
narrow zero Vertical few = lit≤ tt
narrow zero Split few = lit≤ tt
narrow (suc zero) Whole few = lit≤ tt
narrow (suc zero) Horizontal few = lit≤ tt
narrow (suc zero) Vertical few = lit≤ tt
narrow (suc zero) Split few = lit≤ tt
narrow (suc (suc zero)) Whole few = lit≤ tt
narrow (suc (suc zero)) Horizontal few = lit≤ tt
narrow (suc (suc zero)) Vertical few = lit≤ tt
narrow (suc (suc zero)) Split few = lit≤ tt
narrow (suc (suc (suc n))) p few = absurd (omega arith)

pub half : (n : ℕ) → suc n ≤ 3 → width_8 (part_size Vertical (suc n)) ≤ 2 ^ n
half zero few = lit≤ tt
half (suc zero) few = lit≤ tt
half (suc (suc zero)) few = lit≤ tt
half (suc (suc (suc n))) few = absurd (omega arith)

pub smallest : (p : Partition) → width_8 (part_size p 0) ≤ 1
smallest Whole = lit≤ tt
smallest Horizontal = lit≤ tt
smallest Vertical = lit≤ tt
smallest Split = lit≤ tt

module _ {S T : Type 0} (walk : TileWalk S) (block : BlockAt → T → Reads T) (blocks : T → List BlockInfo) (view : S → T) (low high : ℕ)
    (keeps : KeepsStep walk block blocks view low high) where
  block_inside_step : (r c : ℕ) (size : BlockSize) (s : S) → low ≤ c → c + width_8 size ≤ high
      → block_inside (walk_over walk block blocks) r c size (view s) ≡ mapped view (block_inside walk r c size s)
  unfolding block_inside settle mapped
  block_inside_step r c size s from to = elim (cases_Bool (starts_inside walk r c)) [
    | inl one ↦ rw one (keeps.block_steps r c size s (record { from = from; to = to; starts = starts_so walk r c one }))
    | inr none ↦ rw none refl
  ]

  smallest_step : (r c : ℕ) (s : S) → low ≤ c → c + 1 ≤ high → c < walk.frame.cols
      → in_order (partition_at walk.intra walk.probs (blocks (view s)) walk.frame (square_at walk 0 r c)) (smallest_parts (walk_over walk block blocks) (square_at walk 0 r c) (view s))
      ≡ mapped view (in_order (partition_at walk.intra walk.probs (walk.blocks s) walk.frame (square_at walk 0 r c)) (smallest_parts walk (square_at walk 0 r c) s))
  unfolding smallest_parts
  smallest_step r c s from to starts =
      mapped_by view (partition_at walk.intra walk.probs (walk.blocks s) walk.frame (square_at walk 0 r c)) _
      (smallest_parts walk (square_at walk 0 r c) s) (smallest_parts (walk_over walk block blocks) (square_at walk 0 r c) (view s))
      (keeps.partitions 0 r c s (record { from = from; to = to; starts = starts }))
      (λ p. keeps.block_steps r c (part_size p 0) s (record { from = from; to = omega (arith, smallest p); starts = starts }))

  first : (n r c : ℕ) (p : Partition) → suc n ≤ 3 → LiesIn walk low high c (2 ^ suc n) → LiesIn walk low high c (width_8 (part_size p (suc n)))
  first n r c p few lies = record { from = lies.from; to = omega (arith, narrow n p few); starts = lies.starts }

  parts_step : (n r c : ℕ) → suc n ≤ 3 → LiesIn walk low high c (2 ^ suc n)
      → ((r c : ℕ) (s : S) → low ≤ c → c + 2 ^ n ≤ high → decode_square (walk_over walk block blocks) n r c (view s) ≡ mapped view (decode_square walk n r c s))
      → (s : S) (p : Partition) → square_parts (walk_over walk block blocks) n r c (view s) p ≡ mapped view (square_parts walk n r c s p)
  unfolding parts
  parts_step n r c few lies quarter s Whole = keeps.block_steps r c (part_size Whole (suc n)) s (first n r c Whole few lies)
  parts_step n r c few lies quarter s Horizontal =
      let size = part_size Horizontal (suc n) in
      rows_are (walk_over walk block blocks) n r c (view s)
      ∙ (mapped_seq view (walk.block (block_at walk r c size) s) (block (block_at walk r c size) (view s)) (block_inside walk (r + 2 ^ n) c size) (block_inside (walk_over walk block blocks) (r + 2 ^ n) c size)
      (keeps.block_steps r c size s (first n r c Horizontal few lies))
      (λ t. block_inside_step (r + 2 ^ n) c size t lies.from (omega (arith, narrow n Horizontal few)))
      ∙ ap (mapped view) (sym (rows_are walk n r c s)))
  parts_step n r c few lies quarter s Vertical =
      let size = part_size Vertical (suc n) in
      columns_are (walk_over walk block blocks) n r c (view s)
      ∙ (mapped_seq view (walk.block (block_at walk r c size) s) (block (block_at walk r c size) (view s)) (block_inside walk r (c + 2 ^ n) size) (block_inside (walk_over walk block blocks) r (c + 2 ^ n) size)
      (keeps.block_steps r c size s (first n r c Vertical few lies))
      (λ t. block_inside_step r (c + 2 ^ n) size t (omega arith) (omega (arith, half n few, twice n)))
      ∙ ap (mapped view) (sym (columns_are walk n r c s)))
  parts_step n r c few lies quarter s Split =
      let d = decode_square walk n in
      let e = decode_square (walk_over walk block blocks) n in
      quarters_are (walk_over walk block blocks) n r c (view s)
      ∙ (mapped_seq view (d r c s) (e r c (view s)) _ _ (quarter r c s lies.from (omega (arith, twice n)))
      (λ t. mapped_seq view (d r (c + 2 ^ n) t) (e r (c + 2 ^ n) (view t)) _ _ (quarter r (c + 2 ^ n) t (omega arith) (omega (arith, twice n)))
      (λ u. mapped_seq view (d (r + 2 ^ n) c u) (e (r + 2 ^ n) c (view u)) _ _ (quarter (r + 2 ^ n) c u lies.from (omega (arith, twice n)))
      (λ v. quarter (r + 2 ^ n) (c + 2 ^ n) v (omega arith) (omega (arith, twice n)))))
      ∙ ap (mapped view) (sym (quarters_are walk n r c s)))

  pub partition_step : (n r c : ℕ) (s : S) → n ≤ 3 → low ≤ c → c + 2 ^ n ≤ high
      → decode_square (walk_over walk block blocks) n r c (view s) ≡ mapped view (decode_square walk n r c s)
  unfolding decode_at_level settle mapped
  partition_step zero r c s few from to = elim (cases_Bool (starts_inside walk r c)) [
    | inl one ↦ rw one (smallest_step r c s from to (starts_so walk r c one))
    | inr none ↦ rw none refl
  ]
  partition_step (suc n) r c s few from to = elim (cases_Bool (starts_inside walk r c)) [
    | inl one ↦
        let lies : LiesIn walk low high c (2 ^ suc n) = record { from = from; to = to; starts = starts_so walk r c one } in
        rw one (mapped_by view (partition_at walk.intra walk.probs (walk.blocks s) walk.frame (square_at walk (suc n) r c)) _
        (square_parts walk n r c s) (square_parts (walk_over walk block blocks) n r c (view s))
        (keeps.partitions (suc n) r c s lies)
        (parts_step n r c few lies (λ r c s a b. partition_step n r c s (omega arith) a b) s))
    | inr none ↦ rw none refl
  ]

  row_step : (r c n : ℕ) (s : S) → low ≤ c → c + 8 * n ≤ high → decode_row (walk_over walk block blocks) r c n (view s) ≡ mapped view (decode_row walk r c n s)
  unfolding decode_row settle mapped
  row_step r c zero s from to = refl
  row_step r c (suc n) s from to =
      mapped_seq view (decode_square walk 3 r c s) (decode_square (walk_over walk block blocks) 3 r c (view s)) (decode_row walk r (c + 8) n) (decode_row (walk_over walk block blocks) r (c + 8) n)
      (partition_step 3 r c s (lit≤ tt) from (omega arith))
      (λ t. row_step r (c + 8) n t (omega arith) (omega arith))

  rows_step : (columns r c n : ℕ) (s : S) → low ≤ c → c + 8 * columns ≤ high → decode_rows (walk_over walk block blocks) columns r c n (view s) ≡ mapped view (decode_rows walk columns r c n s)
  unfolding decode_rows settle mapped
  rows_step columns r c zero s from to = refl
  rows_step columns r c (suc n) s from to =
      mapped_seq view (decode_row walk r c columns s) (decode_row (walk_over walk block blocks) r c columns (view s)) (decode_rows walk columns (r + 8) c n) (decode_rows (walk_over walk block blocks) columns (r + 8) c n)
      (row_step r c columns s from to)
      (λ t. rows_step columns (r + 8) c n t from to)

  pub tile_step : (columns r c n : ℕ) (s : S) → low ≤ c → c + 8 * columns ≤ high
      → decode_tile (walk_over walk block blocks) (squares_from walk columns r c n) (view s) ≡ mapped view (decode_tile walk (squares_from walk columns r c n) s)
  tile_step columns r c n s from to =
      tile_is (walk_over walk block blocks) columns r c n (view s) ∙ (rows_step columns r c n s from to ∙ ap (mapped view) (sym (tile_is walk columns r c n s)))

-- wherever a block lies, and with the same blocks
pub everywhere : {S T : Type 0} (walk : TileWalk S) (block : BlockAt → T → Reads T) (blocks : T → List BlockInfo) (view : S → T) (low high : ℕ)
    → ((at : BlockAt) (s : S) → block at (view s) ≡ mapped view (walk.block at s)) → ((s : S) → blocks (view s) ≡ walk.blocks s) → KeepsStep walk block blocks view low high
everywhere walk block blocks view low high each same = record {
  partitions = λ level r c s lies. ap (λ bs. partition_at walk.intra walk.probs bs walk.frame (square_at walk level r c)) (same s);
  block_steps = λ r c size s lies. each (block_at walk r c size) s;
}

pub tile_everywhere : {S T : Type 0} (walk : TileWalk S) (block : BlockAt → T → Reads T) (blocks : T → List BlockInfo) (view : S → T)
    → ((at : BlockAt) (s : S) → block at (view s) ≡ mapped view (walk.block at s)) → ((s : S) → blocks (view s) ≡ walk.blocks s)
    → (columns r c n : ℕ) (s : S) → decode_tile (walk_over walk block blocks) (squares_from walk columns r c n) (view s) ≡ mapped view (decode_tile walk (squares_from walk columns r c n) s)
tile_everywhere walk block blocks view each same columns r c n s =
    tile_step walk block blocks view 0 (c + 8 * columns) (everywhere walk block blocks view 0 (c + 8 * columns) each same) columns r c n s (omega arith) (omega arith)
