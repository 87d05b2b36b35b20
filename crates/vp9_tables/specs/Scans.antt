-- The scans (section 10 of the standard) and the neighbours of a place (9.3).
use Rattle.std.specs.Prelude.{ℕ, ◌-◌, ◌*◌, ◌/◌, ◌%◌, List, [], ◌∷◌, take, drop, nat_eq, if◌then◌else◌, Contains}
use Rattle.vp9_types.specs.Sizes.{side}
use Rattle.vp9_types.specs.declared.block.TxSize.{TxSize}
use Rattle.vp9_types.specs.declared.block.TxSize.TheVariants.{T4x4, T8x8, T16x16, T32x32}
use Rattle.vp9_types.specs.declared.block.TxType.{TxType}
use Rattle.vp9_types.specs.declared.block.TxType.TheVariants.{AdstDct, DctAdst}
use Rattle.vp9_tables.specs.declared.data.scans.TheConstants.{SCAN_DEFAULT_4, SCAN_DEFAULT_8, SCAN_DEFAULT_16, SCAN_DEFAULT_32, SCAN_ROW_4, SCAN_ROW_8, SCAN_ROW_16, SCAN_COLUMN_4, SCAN_COLUMN_8, SCAN_COLUMN_16}
use Rattle.vp9_tables.specs.declared.data.neighbours.TheConstants.{NEIGHBOURS_DEFAULT_4, NEIGHBOURS_DEFAULT_8, NEIGHBOURS_DEFAULT_16, NEIGHBOURS_DEFAULT_32, NEIGHBOURS_ROW_4, NEIGHBOURS_ROW_8, NEIGHBOURS_ROW_16, NEIGHBOURS_COLUMN_4, NEIGHBOURS_COLUMN_8, NEIGHBOURS_COLUMN_16}

abbrev pub area : TxSize → ℕ
area size = side size * side size

-- by rows where the columns have the ADST, by columns where the rows have it
abbrev pub scan_of : TxSize → TxType → List ℕ
scan_of T4x4 AdstDct = SCAN_ROW_4
scan_of T4x4 DctAdst = SCAN_COLUMN_4
scan_of T4x4 _ = SCAN_DEFAULT_4
scan_of T8x8 AdstDct = SCAN_ROW_8
scan_of T8x8 DctAdst = SCAN_COLUMN_8
scan_of T8x8 _ = SCAN_DEFAULT_8
scan_of T16x16 AdstDct = SCAN_ROW_16
scan_of T16x16 DctAdst = SCAN_COLUMN_16
scan_of T16x16 _ = SCAN_DEFAULT_16
scan_of T32x32 _ = SCAN_DEFAULT_32

abbrev pub neighbours_of : TxSize → TxType → List ℕ
neighbours_of T4x4 AdstDct = NEIGHBOURS_ROW_4
neighbours_of T4x4 DctAdst = NEIGHBOURS_COLUMN_4
neighbours_of T4x4 _ = NEIGHBOURS_DEFAULT_4
neighbours_of T8x8 AdstDct = NEIGHBOURS_ROW_8
neighbours_of T8x8 DctAdst = NEIGHBOURS_COLUMN_8
neighbours_of T8x8 _ = NEIGHBOURS_DEFAULT_8
neighbours_of T16x16 AdstDct = NEIGHBOURS_ROW_16
neighbours_of T16x16 DctAdst = NEIGHBOURS_COLUMN_16
neighbours_of T16x16 _ = NEIGHBOURS_DEFAULT_16
neighbours_of T32x32 _ = NEIGHBOURS_DEFAULT_32

-- the position above and the one on the left; both are the above one in a scan by columns, the left one in a scan by rows
abbrev pub inner_pair : TxSize → TxType → ℕ → ℕ → List ℕ
inner_pair T32x32 _ above left = above ∷ left ∷ []
inner_pair _ AdstDct above left = left ∷ left ∷ []
inner_pair _ DctAdst above left = above ∷ above ∷ []
inner_pair _ _ above left = above ∷ left ∷ []

-- in the first row both are the left one, in the first column both the above one; the first place, which has neither,
-- stands for its own
abbrev pub pair_of : TxSize → TxType → ℕ → List ℕ
pair_of size kind p =
    if nat_eq (p / side size) 0 then (p - 1) ∷ (p - 1) ∷ []
    else (if nat_eq (p % side size) 0 then (p - side size) ∷ (p - side size) ∷ [] else inner_pair size kind (p - side size) (p - 1))

-- the next two positions stand before the next place, and so on; front is what stands before
abbrev pub AreEarlier : List ℕ → List ℕ → List ℕ → Type 0
AreEarlier front [] pairs = Unit {0}
AreEarlier front (p ∷ ps) [] = ⊥
AreEarlier front (p ∷ ps) (a ∷ []) = ⊥
AreEarlier front (p ∷ ps) (a ∷ b ∷ pairs) = Contains front a × Contains front b × AreEarlier (p ∷ front) ps pairs

-- both neighbours of each place behind the first stand before it
abbrev pub HasEarlierNeighbours : List ℕ → List ℕ → Type 0
HasEarlierNeighbours order pairs = AreEarlier (take 1 order) (drop 1 order) (drop 2 pairs)
