-- What each block of a walk keeps, row of superblocks by row of superblocks, a tile keeps.
use Rattle.std.proofs.Common.{◌≡◌, ℕ, zero, suc, ◌+◌, ◌*◌, ◌^◌, ◌≤◌, ◌<◌, true, inl, inr, arith, lit≤, subst, sym}
use Rattle.std.proofs.lemmas.Bool.{cases_Bool, and_parts, ltb-true}
use Rattle.vp9_types.specs.declared.block.BlockSize.{BlockSize}
use Rattle.vp9_types.specs.declared.block.Partition.{Partition}
use Rattle.vp9_types.specs.declared.block.Partition.TheVariants.{Whole, Horizontal, Vertical, Split}
use Rattle.block_geometry.specs.BlockSizes.{width_8, height_8}
use Rattle.block_geometry.specs.SplitSquares.{part_size}
use Rattle.counting_reader.specs.Counting.{Yields, settle}
use Rattle.counting_reader.proofs.Yields.{yields_bind, yields_all}
use Rattle.mode_syntax.specs.Partitions.{partition_at}
use Rattle.mode_syntax.specs.Laws.{square_at, decode_square, square_parts, decode_row, decode_rows, squares_from}
use Rattle.mode_syntax.specs.Walk.{TileWalk, block_at, starts_inside, block_inside, smallest_parts, parts, decode_at_level, decode_tile}
use Rattle.mode_syntax.proofs.RowByRow.{tile_is}
use Rattle.mode_syntax.proofs.SquareParts.{rows_are, columns_are, quarters_are}
use Rattle.mode_syntax.proofs.Mapped.{starts_so, twice, narrow, half, smallest}
use Rattle.block_rebuild.specs.Strips.{Region}
use Rattle.column_order.proofs.Heights.{low, half_low, smallest_low}

-- so many places from a row and a column on lie in a region, and begin in the frame
pub record LiesIn {S : Type 0} (walk : TileWalk S) (w : Region) (r c high wide : ℕ) : Type 0 where
  pub left : w.left ≤ c
  pub right : c + wide ≤ w.right
  pub top : w.top ≤ r
  pub bottom : r + high ≤ w.bottom
  pub row : r < walk.frame.rows
  pub column : c < walk.frame.cols

-- what each block of a walk in a region keeps
pub record EachKeeps {S : Type 0} (walk : TileWalk S) (P : S → Type 0) (w : Region) : Type 0 where
  pub kept : (r c : ℕ) (size : BlockSize) (s : S) → LiesIn walk w r c (height_8 size) (width_8 size) → P s → Yields (walk.block (block_at walk r c size) s) P

row_starts : {S : Type 0} (walk : TileWalk S) (r c : ℕ) → starts_inside walk r c ≡ true → r < walk.frame.rows
row_starts walk r c h = ltb-true r walk.frame.rows (and_parts _ _ h).0

module _ {S : Type 0} (walk : TileWalk S) (P : S → Type 0) (w : Region) (keeps : EachKeeps walk P w) where
  inside_kept : (r c : ℕ) (size : BlockSize) (s : S) → w.left ≤ c → c + width_8 size ≤ w.right → w.top ≤ r → r + height_8 size ≤ w.bottom → P s → Yields (block_inside walk r c size s) P
  unfolding block_inside settle
  inside_kept r c size s left right top bottom p = elim (cases_Bool (starts_inside walk r c)) [
    | inl one ↦ rw one (keeps.kept r c size s (record {
      left = left;
      right = right;
      top = top;
      bottom = bottom;
      row = row_starts walk r c one;
      column = starts_so walk r c one;
    }) p)
    | inr none ↦ rw none p
  ]

  first_kept : (n r c : ℕ) (p : Partition) → suc n ≤ 3 → LiesIn walk w r c (2 ^ suc n) (2 ^ suc n) → (s : S) → P s → Yields (walk.block (block_at walk r c (part_size p (suc n))) s) P
  first_kept n r c p few lies s has = keeps.kept r c (part_size p (suc n)) s (record {
    left = lies.left;
    right = omega (arith, narrow n p few, lies.right);
    top = lies.top;
    bottom = omega (arith, low n p few, lies.bottom);
    row = lies.row;
    column = lies.column;
  }) has

  abbrev Squares : ℕ → Type 0
  Squares n = (r c : ℕ) (s : S) → w.left ≤ c → c + 2 ^ n ≤ w.right → w.top ≤ r → r + 2 ^ n ≤ w.bottom → P s → Yields (decode_square walk n r c s) P

  parts_kept : (n r c : ℕ) → suc n ≤ 3 → LiesIn walk w r c (2 ^ suc n) (2 ^ suc n) → Squares n
      → (s : S) → P s → (p : Partition) → Yields (square_parts walk n r c s p) P
  unfolding parts
  parts_kept n r c few lies quarter s has Whole = first_kept n r c Whole few lies s has
  parts_kept n r c few lies quarter s has Horizontal =
      subst (λ x. Yields x P) (sym (rows_are walk n r c s))
      (yields_bind (walk.block (block_at walk r c (part_size Horizontal (suc n))) s) _ P P (first_kept n r c Horizontal few lies s has)
      (λ t p. inside_kept (r + 2 ^ n) c (part_size Horizontal (suc n)) t lies.left (omega (arith, narrow n Horizontal few, lies.right))
      (omega (arith, lies.top)) (omega (arith, half_low n few, twice n, lies.bottom)) p))
  parts_kept n r c few lies quarter s has Vertical =
      subst (λ x. Yields x P) (sym (columns_are walk n r c s))
      (yields_bind (walk.block (block_at walk r c (part_size Vertical (suc n))) s) _ P P (first_kept n r c Vertical few lies s has)
      (λ t p. inside_kept r (c + 2 ^ n) (part_size Vertical (suc n)) t (omega (arith, lies.left)) (omega (arith, half n few, twice n, lies.right))
      lies.top (omega (arith, low n Vertical few, lies.bottom)) p))
  parts_kept n r c few lies quarter s has Split =
      let left : w.left ≤ c + 2 ^ n = omega (arith, lies.left) in
      let right : c + 2 ^ n + 2 ^ n ≤ w.right = omega (arith, twice n, lies.right) in
      let right_first : c + 2 ^ n ≤ w.right = omega (arith, twice n, lies.right) in
      let top : w.top ≤ r + 2 ^ n = omega (arith, lies.top) in
      let bottom : r + 2 ^ n + 2 ^ n ≤ w.bottom = omega (arith, twice n, lies.bottom) in
      let bottom_first : r + 2 ^ n ≤ w.bottom = omega (arith, twice n, lies.bottom) in
      subst (λ x. Yields x P) (sym (quarters_are walk n r c s))
      (yields_bind (decode_square walk n r c s) _ P P (quarter r c s lies.left right_first lies.top bottom_first has)
      (λ t p. yields_bind (decode_square walk n r (c + 2 ^ n) t) _ P P (quarter r (c + 2 ^ n) t left right lies.top bottom_first p)
      (λ u q. yields_bind (decode_square walk n (r + 2 ^ n) c u) _ P P (quarter (r + 2 ^ n) c u lies.left right_first top bottom q)
      (λ v o. quarter (r + 2 ^ n) (c + 2 ^ n) v left right top bottom o))))

  square_kept : (n r c : ℕ) (s : S) → n ≤ 3 → w.left ≤ c → c + 2 ^ n ≤ w.right → w.top ≤ r → r + 2 ^ n ≤ w.bottom → P s → Yields (decode_square walk n r c s) P
  unfolding decode_at_level settle smallest_parts
  square_kept zero r c s few left right top bottom has = elim (cases_Bool (starts_inside walk r c)) [
    | inl one ↦ rw one (yields_bind (partition_at walk.intra walk.probs (walk.blocks s) walk.frame (square_at walk 0 r c)) (smallest_parts walk (square_at walk 0 r c) s) (λ p. Unit {0}) P (yields_all _)
        (λ p u. keeps.kept r c (part_size p 0) s (record {
          left = left;
          right = omega (arith, smallest p, right);
          top = top;
          bottom = omega (arith, smallest_low p, bottom);
          row = row_starts walk r c one;
          column = starts_so walk r c one;
        }) has))
    | inr none ↦ rw none has
  ]
  square_kept (suc n) r c s few left right top bottom has = elim (cases_Bool (starts_inside walk r c)) [
    | inl one ↦
        let lies : LiesIn walk w r c (2 ^ suc n) (2 ^ suc n) = record {
          left = left;
          right = right;
          top = top;
          bottom = bottom;
          row = row_starts walk r c one;
          column = starts_so walk r c one;
        } in
        let less : n ≤ 3 = omega (arith, few) in
        rw one (yields_bind (partition_at walk.intra walk.probs (walk.blocks s) walk.frame (square_at walk (suc n) r c)) (square_parts walk n r c s) (λ p. Unit {0}) P (yields_all _)
        (λ p u. parts_kept n r c few lies (λ r c s a b d e h. square_kept n r c s less a b d e h) s has p))
    | inr none ↦ rw none has
  ]

  pub row_kept : (r c n : ℕ) (s : S) → w.left ≤ c → c + 8 * n ≤ w.right → w.top ≤ r → r + 8 ≤ w.bottom → P s → Yields (decode_row walk r c n s) P
  unfolding decode_row settle
  row_kept r c zero s left right top bottom has = has
  row_kept r c (suc n) s left right top bottom has =
      yields_bind (decode_square walk 3 r c s) (decode_row walk r (c + 8) n) P P (square_kept 3 r c s (lit≤ tt) left (omega (arith, right)) top bottom has)
      (λ t p. row_kept r (c + 8) n t (omega (arith, left)) (omega (arith, right)) top bottom p)

-- P q is what holds behind q rows of superblocks of the frame
module _ {S : Type 0} (walk : TileWalk S) (P : ℕ → S → Type 0) (left right : ℕ) (wider : (q : ℕ) (s : S) → P q s → P (q + 1) s)
    (keeps : (q r : ℕ) → (r < walk.frame.rows → r ≡ 8 * q) → EachKeeps walk (P (q + 1)) (record { left = left; right = right; top = r; bottom = r + 8 })) where
  rows_kept : (columns r c n q : ℕ) (s : S) → left ≤ c → c + 8 * columns ≤ right → (r < walk.frame.rows → r ≡ 8 * q) → P q s → Yields (decode_rows walk columns r c n s) (P (q + n))
  unfolding decode_rows settle
  rows_kept columns r c zero q s from to aligned has = subst (λ m. P m s) (none q) has
    where
      none : (q : ℕ) → q ≡ q + 0
      none q = omega arith
  rows_kept columns r c (suc n) q s from to aligned has =
      yields_bind (decode_row walk r c columns s) (decode_rows walk columns (r + 8) c n) (P (q + 1)) (P (q + suc n))
      (row_kept walk (P (q + 1)) (record { left = left; right = right; top = r; bottom = r + 8 }) (keeps q r aligned) r c columns s from to (omega arith) (omega arith) (wider q s has))
      (λ t p. subst (λ m. Yields (decode_rows walk columns (r + 8) c n t) (P m)) (one_more q n)
      (rows_kept columns (r + 8) c n (q + 1) t from to (λ low. let here = aligned (omega (arith, low)) in omega (arith, here)) p))
    where
      one_more : (q n : ℕ) → q + 1 + n ≡ q + suc n
      one_more q n = omega arith

  pub tile_kept : (columns r c n q : ℕ) (s : S) → left ≤ c → c + 8 * columns ≤ right → (r < walk.frame.rows → r ≡ 8 * q) → P q s → Yields (decode_tile walk (squares_from walk columns r c n) s) (P (q + n))
  tile_kept columns r c n q s from to aligned has = subst (λ x. Yields x (P (q + n))) (sym (tile_is walk columns r c n s)) (rows_kept columns r c n q s from to aligned has)
