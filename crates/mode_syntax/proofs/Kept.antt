-- What each block of a walk keeps, a tile keeps.
use Rattle.std.proofs.Common.{ℕ, zero, suc, ◌+◌, ◌*◌, ◌^◌, ◌≤◌, inl, inr, sym, subst, arith, lit≤}
use Rattle.std.proofs.lemmas.Bool.{cases_Bool}
use Rattle.vp9_types.specs.declared.block.BlockSize.{BlockSize}
use Rattle.vp9_types.specs.declared.block.Partition.{Partition}
use Rattle.vp9_types.specs.declared.block.Partition.TheVariants.{Whole, Horizontal, Vertical, Split}
use Rattle.block_geometry.specs.BlockSizes.{width_8}
use Rattle.block_geometry.specs.SplitSquares.{part_size}
use Rattle.counting_reader.specs.Counting.{settle}
use Rattle.mode_syntax.specs.Partitions.{partition_at}
use Rattle.mode_syntax.specs.Walk.{TileWalk, block_at, starts_inside, block_inside, smallest_parts, parts, decode_at_level, decode_tile}
use Rattle.counting_reader.specs.Counting.{Yields}
use Rattle.counting_reader.proofs.Yields.{yields_bind, yields_all}
use Rattle.mode_syntax.proofs.Mapped.{starts_so, twice, narrow, half, smallest}
use Rattle.mode_syntax.specs.Laws.{square_at, decode_square, square_parts, decode_row, decode_rows, squares_from, LiesIn, EachKeeps}
use Rattle.mode_syntax.proofs.RowByRow.{tile_is}
use Rattle.mode_syntax.proofs.SquareParts.{rows_are, columns_are, quarters_are}

module _ {S : Type 0} (walk : TileWalk S) (P : S → Type 0) (low high : ℕ) (keeps : EachKeeps walk P low high) where
  inside_kept : (r c : ℕ) (size : BlockSize) (s : S) → low ≤ c → c + width_8 size ≤ high → P s → Yields (block_inside walk r c size s) P
  unfolding block_inside settle
  inside_kept r c size s from to p = elim (cases_Bool (starts_inside walk r c)) [
    | inl one ↦ rw one (keeps.kept r c size s (record { from = from; to = to; starts = starts_so walk r c one }) p)
    | inr none ↦ rw none p
  ]

  first_kept : (n r c : ℕ) (p : Partition) → suc n ≤ 3 → LiesIn walk low high c (2 ^ suc n) → (s : S) → P s → Yields (walk.block (block_at walk r c (part_size p (suc n))) s) P
  first_kept n r c p few lies s has = keeps.kept r c (part_size p (suc n)) s (record { from = lies.from; to = omega (arith, narrow n p few); starts = lies.starts }) has

  parts_kept : (n r c : ℕ) → suc n ≤ 3 → LiesIn walk low high c (2 ^ suc n)
      → ((r c : ℕ) (s : S) → low ≤ c → c + 2 ^ n ≤ high → P s → Yields (decode_square walk n r c s) P)
      → (s : S) → P s → (p : Partition) → Yields (square_parts walk n r c s p) P
  unfolding parts
  parts_kept n r c few lies quarter s has Whole = first_kept n r c Whole few lies s has
  parts_kept n r c few lies quarter s has Horizontal =
      subst (λ x. Yields x P) (sym (rows_are walk n r c s))
      (yields_bind (walk.block (block_at walk r c (part_size Horizontal (suc n))) s) _ P P (first_kept n r c Horizontal few lies s has)
      (λ t p. inside_kept (r + 2 ^ n) c (part_size Horizontal (suc n)) t lies.from (omega (arith, narrow n Horizontal few)) p))
  parts_kept n r c few lies quarter s has Vertical =
      subst (λ x. Yields x P) (sym (columns_are walk n r c s))
      (yields_bind (walk.block (block_at walk r c (part_size Vertical (suc n))) s) _ P P (first_kept n r c Vertical few lies s has)
      (λ t p. inside_kept r (c + 2 ^ n) (part_size Vertical (suc n)) t (omega arith) (omega (arith, half n few, twice n)) p))
  parts_kept n r c few lies quarter s has Split =
      subst (λ x. Yields x P) (sym (quarters_are walk n r c s))
      (yields_bind (decode_square walk n r c s) _ P P (quarter r c s lies.from (omega (arith, twice n)) has)
      (λ t p. yields_bind (decode_square walk n r (c + 2 ^ n) t) _ P P (quarter r (c + 2 ^ n) t (omega arith) (omega (arith, twice n)) p)
      (λ u q. yields_bind (decode_square walk n (r + 2 ^ n) c u) _ P P (quarter (r + 2 ^ n) c u lies.from (omega (arith, twice n)) q)
      (λ v o. quarter (r + 2 ^ n) (c + 2 ^ n) v (omega arith) (omega (arith, twice n)) o))))

  pub square_kept : (n r c : ℕ) (s : S) → n ≤ 3 → low ≤ c → c + 2 ^ n ≤ high → P s → Yields (decode_square walk n r c s) P
  unfolding decode_at_level settle smallest_parts
  square_kept zero r c s few from to has = elim (cases_Bool (starts_inside walk r c)) [
    | inl one ↦ rw one (yields_bind (partition_at walk.intra walk.probs (walk.blocks s) walk.frame (square_at walk 0 r c)) (smallest_parts walk (square_at walk 0 r c) s) (λ p. Unit {0}) P (yields_all _)
        (λ p u. keeps.kept r c (part_size p 0) s (record { from = from; to = omega (arith, smallest p); starts = starts_so walk r c one }) has))
    | inr none ↦ rw none has
  ]
  square_kept (suc n) r c s few from to has = elim (cases_Bool (starts_inside walk r c)) [
    | inl one ↦
        let lies : LiesIn walk low high c (2 ^ suc n) = record { from = from; to = to; starts = starts_so walk r c one } in
        rw one (yields_bind (partition_at walk.intra walk.probs (walk.blocks s) walk.frame (square_at walk (suc n) r c)) (square_parts walk n r c s) (λ p. Unit {0}) P (yields_all _)
        (λ p u. parts_kept n r c few lies (λ r c s a b h. square_kept n r c s (omega arith) a b h) s has p))
    | inr none ↦ rw none has
  ]

  row_kept : (r c n : ℕ) (s : S) → low ≤ c → c + 8 * n ≤ high → P s → Yields (decode_row walk r c n s) P
  unfolding decode_row settle
  row_kept r c zero s from to has = has
  row_kept r c (suc n) s from to has =
      yields_bind (decode_square walk 3 r c s) (decode_row walk r (c + 8) n) P P (square_kept 3 r c s (lit≤ tt) from (omega arith) has)
      (λ t p. row_kept r (c + 8) n t (omega arith) (omega arith) p)

  rows_kept : (columns r c n : ℕ) (s : S) → low ≤ c → c + 8 * columns ≤ high → P s → Yields (decode_rows walk columns r c n s) P
  unfolding decode_rows settle
  rows_kept columns r c zero s from to has = has
  rows_kept columns r c (suc n) s from to has =
      yields_bind (decode_row walk r c columns s) (decode_rows walk columns (r + 8) c n) P P (row_kept r c columns s from to has)
      (λ t p. rows_kept columns (r + 8) c n t from to p)

  pub tile_kept : (columns r c n : ℕ) (s : S) → low ≤ c → c + 8 * columns ≤ high → P s → Yields (decode_tile walk (squares_from walk columns r c n) s) P
  tile_kept columns r c n s from to has = subst (λ x. Yields x P) (sym (tile_is walk columns r c n s)) (rows_kept columns r c n s from to has)
