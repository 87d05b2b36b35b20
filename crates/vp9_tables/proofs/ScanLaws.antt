-- The laws of the scans, computed over each.
use Rattle.std.proofs.Common.{◌≡◌, ◌<◌, ◌*◌, refl, true, length, nat_lt, take, drop, All, [], ◌∷◌}
use Rattle.std.specs.List.{list_all, flat_map}
use Rattle.vp9_types.specs.declared.block.TxSize.{TxSize}
use Rattle.vp9_types.specs.declared.block.TxSize.TheVariants.{T4x4, T8x8, T16x16, T32x32}
use Rattle.vp9_types.specs.declared.block.TxType.{TxType}
use Rattle.vp9_types.specs.declared.block.TxType.TheVariants.{DctDct, AdstDct, DctAdst, AdstAdst}
use Rattle.vp9_tables.specs.Scans.{area, scan_of, neighbours_of, pair_of, HasEarlierNeighbours}
use Rattle.vp9_tables.specs.Orders.{IsPermutation}
use Rattle.vp9_tables.proofs.Orders.{each_below, permutation, is_new, is_earlier, has_earlier}

pub scan_count : (size : TxSize) (kind : TxType) → length (scan_of size kind) ≡ area size
scan_count T4x4 DctDct = refl
scan_count T4x4 AdstDct = refl
scan_count T4x4 DctAdst = refl
scan_count T4x4 AdstAdst = refl
scan_count T8x8 DctDct = refl
scan_count T8x8 AdstDct = refl
scan_count T8x8 DctAdst = refl
scan_count T8x8 AdstAdst = refl
scan_count T16x16 DctDct = refl
scan_count T16x16 AdstDct = refl
scan_count T16x16 DctAdst = refl
scan_count T16x16 AdstAdst = refl
scan_count T32x32 DctDct = refl
scan_count T32x32 AdstDct = refl
scan_count T32x32 DctAdst = refl
scan_count T32x32 AdstAdst = refl

pub scan_below : (size : TxSize) (kind : TxType) → list_all (λ p. nat_lt p (area size)) (scan_of size kind) ≡ true
scan_below T4x4 DctDct = refl
scan_below T4x4 AdstDct = refl
scan_below T4x4 DctAdst = refl
scan_below T4x4 AdstAdst = refl
scan_below T8x8 DctDct = refl
scan_below T8x8 AdstDct = refl
scan_below T8x8 DctAdst = refl
scan_below T8x8 AdstAdst = refl
scan_below T16x16 DctDct = refl
scan_below T16x16 AdstDct = refl
scan_below T16x16 DctAdst = refl
scan_below T16x16 AdstAdst = refl
scan_below T32x32 DctDct = refl
scan_below T32x32 AdstDct = refl
scan_below T32x32 DctAdst = refl
scan_below T32x32 AdstAdst = refl

pub scan_new : (size : TxSize) (kind : TxType) → is_new 0 (scan_of size kind) ≡ true
scan_new T4x4 DctDct = refl
scan_new T4x4 AdstDct = refl
scan_new T4x4 DctAdst = refl
scan_new T4x4 AdstAdst = refl
scan_new T8x8 DctDct = refl
scan_new T8x8 AdstDct = refl
scan_new T8x8 DctAdst = refl
scan_new T8x8 AdstAdst = refl
scan_new T16x16 DctDct = refl
scan_new T16x16 AdstDct = refl
scan_new T16x16 DctAdst = refl
scan_new T16x16 AdstAdst = refl
scan_new T32x32 DctDct = refl
scan_new T32x32 AdstDct = refl
scan_new T32x32 DctAdst = refl
scan_new T32x32 AdstAdst = refl

pub pair_count : (size : TxSize) (kind : TxType) → length (neighbours_of size kind) ≡ 2 * area size
pair_count T4x4 DctDct = refl
pair_count T4x4 AdstDct = refl
pair_count T4x4 DctAdst = refl
pair_count T4x4 AdstAdst = refl
pair_count T8x8 DctDct = refl
pair_count T8x8 AdstDct = refl
pair_count T8x8 DctAdst = refl
pair_count T8x8 AdstAdst = refl
pair_count T16x16 DctDct = refl
pair_count T16x16 AdstDct = refl
pair_count T16x16 DctAdst = refl
pair_count T16x16 AdstAdst = refl
pair_count T32x32 DctDct = refl
pair_count T32x32 AdstDct = refl
pair_count T32x32 DctAdst = refl
pair_count T32x32 AdstAdst = refl

pub pair_below : (size : TxSize) (kind : TxType) → list_all (λ p. nat_lt p (area size)) (neighbours_of size kind) ≡ true
pair_below T4x4 DctDct = refl
pair_below T4x4 AdstDct = refl
pair_below T4x4 DctAdst = refl
pair_below T4x4 AdstAdst = refl
pair_below T8x8 DctDct = refl
pair_below T8x8 AdstDct = refl
pair_below T8x8 DctAdst = refl
pair_below T8x8 AdstAdst = refl
pair_below T16x16 DctDct = refl
pair_below T16x16 AdstDct = refl
pair_below T16x16 DctAdst = refl
pair_below T16x16 AdstAdst = refl
pair_below T32x32 DctDct = refl
pair_below T32x32 AdstDct = refl
pair_below T32x32 DctAdst = refl
pair_below T32x32 AdstAdst = refl

pub pair_rule : (size : TxSize) (kind : TxType) → neighbours_of size kind ≡ flat_map (pair_of size kind) (scan_of size kind)
pair_rule T4x4 DctDct = refl
pair_rule T4x4 AdstDct = refl
pair_rule T4x4 DctAdst = refl
pair_rule T4x4 AdstAdst = refl
pair_rule T8x8 DctDct = refl
pair_rule T8x8 AdstDct = refl
pair_rule T8x8 DctAdst = refl
pair_rule T8x8 AdstAdst = refl
pair_rule T16x16 DctDct = refl
pair_rule T16x16 AdstDct = refl
pair_rule T16x16 DctAdst = refl
pair_rule T16x16 AdstAdst = refl
pair_rule T32x32 DctDct = refl
pair_rule T32x32 AdstDct = refl
pair_rule T32x32 DctAdst = refl
pair_rule T32x32 AdstAdst = refl

front : (size : TxSize) (kind : TxType) → take 1 (scan_of size kind) ≡ 0 ∷ []
front T4x4 DctDct = refl
front T4x4 AdstDct = refl
front T4x4 DctAdst = refl
front T4x4 AdstAdst = refl
front T8x8 DctDct = refl
front T8x8 AdstDct = refl
front T8x8 DctAdst = refl
front T8x8 AdstAdst = refl
front T16x16 DctDct = refl
front T16x16 AdstDct = refl
front T16x16 DctAdst = refl
front T16x16 AdstAdst = refl
front T32x32 DctDct = refl
front T32x32 AdstDct = refl
front T32x32 DctAdst = refl
front T32x32 AdstAdst = refl

rest_new : (size : TxSize) (kind : TxType) → is_new 1 (drop 1 (scan_of size kind)) ≡ true
rest_new T4x4 DctDct = refl
rest_new T4x4 AdstDct = refl
rest_new T4x4 DctAdst = refl
rest_new T4x4 AdstAdst = refl
rest_new T8x8 DctDct = refl
rest_new T8x8 AdstDct = refl
rest_new T8x8 DctAdst = refl
rest_new T8x8 AdstAdst = refl
rest_new T16x16 DctDct = refl
rest_new T16x16 AdstDct = refl
rest_new T16x16 DctAdst = refl
rest_new T16x16 AdstAdst = refl
rest_new T32x32 DctDct = refl
rest_new T32x32 AdstDct = refl
rest_new T32x32 DctAdst = refl
rest_new T32x32 AdstAdst = refl

rest_earlier : (size : TxSize) (kind : TxType) → is_earlier 1 (drop 1 (scan_of size kind)) (drop 2 (neighbours_of size kind)) ≡ true
rest_earlier T4x4 DctDct = refl
rest_earlier T4x4 AdstDct = refl
rest_earlier T4x4 DctAdst = refl
rest_earlier T4x4 AdstAdst = refl
rest_earlier T8x8 DctDct = refl
rest_earlier T8x8 AdstDct = refl
rest_earlier T8x8 DctAdst = refl
rest_earlier T8x8 AdstAdst = refl
rest_earlier T16x16 DctDct = refl
rest_earlier T16x16 AdstDct = refl
rest_earlier T16x16 DctAdst = refl
rest_earlier T16x16 AdstAdst = refl
rest_earlier T32x32 DctDct = refl
rest_earlier T32x32 AdstDct = refl
rest_earlier T32x32 DctAdst = refl
rest_earlier T32x32 AdstAdst = refl

pub earlier : (size : TxSize) (kind : TxType) → HasEarlierNeighbours (scan_of size kind) (neighbours_of size kind)
earlier size kind =
    has_earlier (scan_of size kind) (neighbours_of size kind) (front size kind) (rest_new size kind) (rest_earlier size kind)

pub scan_within : (size : TxSize) (kind : TxType) → All (λ p. p < area size) (scan_of size kind)
scan_within size kind = each_below (area size) _ (scan_below size kind)

pub pairs_within : (size : TxSize) (kind : TxType) → All (λ p. p < area size) (neighbours_of size kind)
pairs_within size kind = each_below (area size) _ (pair_below size kind)

pub order : (size : TxSize) (kind : TxType) → IsPermutation (area size) (scan_of size kind)
order size kind = permutation (area size) _ (scan_count size kind) (scan_below size kind) (scan_new size kind)
