-- The blocks of different tile columns lie apart.
use Rattle.std.proofs.Common.{◌≡◌, ℕ, ◌+◌, ◌-◌, ◌*◌, ◌/◌, ◌<◌, ◌≤◌, ◌⊎◌, true, false, inl, inr, subst, arith, min}
use Rattle.std.proofs.Math.Nat.{le-max_left}
use Rattle.std.proofs.lemmas.Bool.{cases_eq, cases_lt, eq-eqb, ne_eqb}
use Rattle.vp9_types.specs.Shapes.{mi_cols}
use Rattle.vp9_types.specs.Sizes.{superblocks_along}
use Rattle.vp9_tables.specs.BlockTables.{width_of}
use Rattle.frame_headers.specs.HeaderState.{shape_of}
use Rattle.frame_headers.specs.declared.header.Header.{Header}
use Rattle.block_plan.specs.Planned.{PlannedBlock}
use Rattle.block_rebuild.specs.Laws.{IsBesideColumn, IsInColumn, IsRead}
use Rattle.block_rebuild.specs.Strips.{is_in_column}
use Rattle.frame_state.specs.TilePlaces.{superblocks_before}
use Rattle.frame_state.proofs.TileOffsets.{before_grows}
use Rattle.column_order.specs.ColumnStrips.{column_from, column_to}

-- by how many superblocks lie before them
ends_before : (cols a b c d : ℕ) → a ≤ b → b ≤ c → min (8 * c) cols < min (8 * c) cols + 8 * superblocks_along (min (8 * d) cols - min (8 * c) cols)
    → min (8 * a) cols + 8 * superblocks_along (min (8 * b) cols - min (8 * a) cols) ≤ min (8 * c) cols
ends_before cols a b c d first next some =
    let inner : 8 * c < cols = omega (arith, some) in
    omega (arith, first, next, inner)

-- a column ends before a later one begins that has superblocks
pub column_ends_before : (header : Header) (j k : ℕ) → j < k → column_from header k < column_to header k → column_to header j ≤ column_from header k
column_ends_before header j k low some =
    let cols = mi_cols (shape_of header) in
    let log2 = header.params.tiles.columns_log2 in
    ends_before cols (superblocks_before cols log2 j) (superblocks_before cols log2 (j + 1)) (superblocks_before cols log2 k) (superblocks_before cols log2 (k + 1))
    (before_grows cols log2 j (j + 1) (omega arith)) (before_grows cols log2 (j + 1) k (omega (arith, low))) some

-- a block of the j-th column
pub record IsOfColumn (header : Header) (j : ℕ) (b : PlannedBlock) : Type 0 where
  pub read : IsRead (shape_of header) b
  pub inside : IsInColumn (column_from header j) (column_to header j) b

has_superblocks : (header : Header) (j : ℕ) (b : PlannedBlock) → IsOfColumn header j b → column_from header j < column_to header j
has_superblocks header j b is =
    let begin = is.inside.begin in
    let tile = is.read.placed.tile in
    omega (arith, begin, tile, is.inside.end, le-max_left 1 (width_of b.info.size / 8))

-- it lies beside another column that has superblocks
lies_beside : (header : Header) (j k : ℕ) (b : PlannedBlock) → (j ≡ k → ⊥) → column_from header k < column_to header k → IsOfColumn header j b
    → IsBesideColumn (column_from header k) (column_to header k) b
lies_beside header j k b other some is =
    let own = has_superblocks header j b is in
    let begin = is.inside.begin in
    let end = is.inside.end in
    let tile = is.read.placed.tile in
    elim (cases_lt j k) [
      | inl low ↦
          let before = column_ends_before header j k low some in record {
            other = λ same. omega (arith, begin, own, before, same);
            beside = inl (omega (arith, end, before));
          }
      | inr high ↦
          let before = column_ends_before header k j (above j k high other) own in record {
            other = λ same. omega (arith, begin, some, before, same);
            beside = inr (omega (arith, tile, begin, before));
          }
    ]
  where
    above : (j k : ℕ) → k ≤ j → (j ≡ k → ⊥) → k < j
    above j k high other = elim (cases_lt k j) [ inl low ↦ low | inr most ↦ absurd (other (omega (arith, high, most))) ]

pub keeps_to : (header : Header) (k : ℕ) → column_from header k < column_to header k → (j : ℕ) (b : PlannedBlock) → IsOfColumn header j b
    → IsInColumn (column_from header k) (column_to header k) b ⊎ IsBesideColumn (column_from header k) (column_to header k) b
keeps_to header k some j b is = elim (cases_eq j k) [
  | inl same ↦ inl (subst (λ i. IsInColumn (column_from header i) (column_to header i) b) same is.inside)
  | inr other ↦ inr (lies_beside header j k b other some is)
]

pub own_column : (header : Header) (k : ℕ) (b : PlannedBlock) → IsOfColumn header k b → is_in_column (column_from header k) b ≡ true
own_column header k b is = eq-eqb b.tile_from (column_from header k) is.inside.begin

pub other_column : (header : Header) (k : ℕ) → column_from header k < column_to header k → (j : ℕ) (b : PlannedBlock) → (j ≡ k → ⊥) → IsOfColumn header j b
    → is_in_column (column_from header k) b ≡ false
other_column header k some j b other is = ne_eqb b.tile_from (column_from header k) (lies_beside header j k b other some is).other
