-- The laws of the sizes of blocks: tests of all cases, computed at once.
use Rattle.std.proofs.Common.{◌≡◌, ◌+◌, ◌*◌, ◌<◌, ◌∙◌, sym, ap, refl, arith, Bool, true, false, ◌&&◌, List, [], ◌∷◌, get_or, slice_get, nat_eq, Option, None, Some}
use Rattle.std.specs.List.{list_all}
use Rattle.std.proofs.lemmas.Bool.{and_parts, eqb-true}
use Rattle.std.proofs.lemmas.List.Sums.{AllPass-from_list_all}
use Rattle.vp9_types.specs.declared.block.BlockSize.{BlockSize}
use Rattle.vp9_types.specs.declared.block.BlockSize.TheVariants.{B4x4, B4x8, B8x4, B8x8, B8x16, B16x8, B16x16, B16x32, B32x16, B32x32, B32x64, B64x32, B64x64}
use Rattle.vp9_types.specs.declared.block.Partition.{Partition}
use Rattle.vp9_types.specs.declared.block.Partition.TheVariants.{Whole, Horizontal, Vertical, Split}
use Rattle.vp9_types.specs.declared.block.TxSize.{TxSize}
use Rattle.vp9_types.specs.declared.block.TxSize.TheVariants.{T4x4, T8x8, T16x16, T32x32}
use Rattle.vp9_tables.specs.Numbers.{block_number, partition_number, tx_number}
use Rattle.vp9_tables.specs.BlockTables.{is_part, is_in_chroma, is_uv, greatest_of, subsampling_place, uv_place}
use Rattle.vp9_tables.specs.declared.data.blocks.TheConstants.{SUBSIZE, SS_SIZE, UV_TX_SIZE, MAX_TX_SIZE}

abbrev holds : {X : Type 0} → (X → Bool) → Option X → Bool
holds test None = false
holds test (Some x) = test x

held : {X : Type 0} → (test : X → Bool) (o : Option X) (x : X) → holds test o ≡ true → o ≡ Some x → test x ≡ true
held test o x t e = sym (ap (holds test) e) ∙ t

both : (test : Bool → Bool) → (test false && test true) ≡ true → (b : Bool) → test b ≡ true
both test t false = (and_parts _ _ t).0
both test t true = (and_parts _ _ t).1

abbrev blocks : List BlockSize
blocks = B4x4 ∷ B4x8 ∷ B8x4 ∷ B8x8 ∷ B8x16 ∷ B16x8 ∷ B16x16 ∷ B16x32 ∷ B32x16 ∷ B32x32 ∷ B32x64 ∷ B64x32 ∷ B64x64 ∷ []

block_at : (x : BlockSize) → (get_or blocks (block_number x) B4x4 ≡ x) × (block_number x < 13)
block_at B4x4 = (refl, omega arith)
block_at B4x8 = (refl, omega arith)
block_at B8x4 = (refl, omega arith)
block_at B8x8 = (refl, omega arith)
block_at B8x16 = (refl, omega arith)
block_at B16x8 = (refl, omega arith)
block_at B16x16 = (refl, omega arith)
block_at B16x32 = (refl, omega arith)
block_at B32x16 = (refl, omega arith)
block_at B32x32 = (refl, omega arith)
block_at B32x64 = (refl, omega arith)
block_at B64x32 = (refl, omega arith)
block_at B64x64 = (refl, omega arith)

each_block : (test : BlockSize → Bool) → list_all test blocks ≡ true → (x : BlockSize) → test x ≡ true
each_block test t x =
    let at = block_at x in
    ap test (sym at.0) ∙ AllPass-from_list_all test blocks t (block_number x) B4x4 at.1

abbrev partitions : List Partition
partitions = Whole ∷ Horizontal ∷ Vertical ∷ Split ∷ []

partition_at : (x : Partition) → (get_or partitions (partition_number x) Whole ≡ x) × (partition_number x < 4)
partition_at Whole = (refl, omega arith)
partition_at Horizontal = (refl, omega arith)
partition_at Vertical = (refl, omega arith)
partition_at Split = (refl, omega arith)

each_partition : (test : Partition → Bool) → list_all test partitions ≡ true → (x : Partition) → test x ≡ true
each_partition test t x =
    let at = partition_at x in
    ap test (sym at.0) ∙ AllPass-from_list_all test partitions t (partition_number x) Whole at.1

abbrev sizes : List TxSize
sizes = T4x4 ∷ T8x8 ∷ T16x16 ∷ T32x32 ∷ []

size_at : (x : TxSize) → (get_or sizes (tx_number x) T4x4 ≡ x) × (tx_number x < 4)
size_at T4x4 = (refl, omega arith)
size_at T8x8 = (refl, omega arith)
size_at T16x16 = (refl, omega arith)
size_at T32x32 = (refl, omega arith)

each_size : (test : TxSize → Bool) → list_all test sizes ≡ true → (x : TxSize) → test x ≡ true
each_size test t x =
    let at = size_at x in
    ap test (sym at.0) ∙ AllPass-from_list_all test sizes t (tx_number x) T4x4 at.1

pub parts : (partition : Partition) (size : BlockSize) (part : Option BlockSize) → slice_get SUBSIZE (13 * partition_number partition + block_number size) ≡ Some part → is_part partition size part ≡ true
parts partition size part e =
    let test : Partition → BlockSize → Bool = λ p s. holds (is_part p s) (slice_get SUBSIZE (13 * partition_number p + block_number s)) in
    held (is_part partition size) _ part (each_block (test partition) (each_partition (λ p. list_all (test p) blocks) refl partition) size) e

pub chroma : (size : BlockSize) (ss_x ss_y : Bool) (part : Option BlockSize) → slice_get SS_SIZE (subsampling_place size ss_x ss_y) ≡ Some part → is_in_chroma size ss_x ss_y part ≡ true
chroma size ss_x ss_y part e =
    let test : BlockSize → Bool → Bool → Bool = λ s x y. holds (is_in_chroma s x y) (slice_get SS_SIZE (subsampling_place s x y)) in
    let in_x : Bool → Bool → Bool = λ x y. list_all (λ s. test s x y) blocks in
    held (is_in_chroma size ss_x ss_y) _ part
    (each_block (λ s. test s ss_x ss_y) (both (in_x ss_x) (both (λ x. in_x x false && in_x x true) refl ss_x) ss_y) size) e

pub uv : (size : BlockSize) (tx : TxSize) (ss_x ss_y : Bool) (u : TxSize) → slice_get UV_TX_SIZE (uv_place size tx ss_x ss_y) ≡ Some u → is_uv size tx ss_x ss_y u ≡ true
uv size tx ss_x ss_y u e =
    let test : BlockSize → TxSize → Bool → Bool → Bool = λ s t x y. holds (is_uv s t x y) (slice_get UV_TX_SIZE (uv_place s t x y)) in
    let of_size : TxSize → Bool → Bool → Bool = λ t x y. list_all (λ s. test s t x y) blocks in
    let in_x : Bool → Bool → Bool = λ x y. list_all (λ t. of_size t x y) sizes in
    held (is_uv size tx ss_x ss_y) _ u
    (each_block (λ s. test s tx ss_x ss_y)
    (each_size (λ t. of_size t ss_x ss_y) (both (in_x ss_x) (both (λ x. in_x x false && in_x x true) refl ss_x) ss_y) tx) size) e

pub greatest : (size : BlockSize) (tx : TxSize) → slice_get MAX_TX_SIZE (block_number size) ≡ Some tx → tx_number tx ≡ greatest_of size
greatest size tx e =
    let test : BlockSize → TxSize → Bool = λ s t. nat_eq (tx_number t) (greatest_of s) in
    eqb-true _ _ (held (test size) _ tx (each_block (λ s. holds (test s) (slice_get MAX_TX_SIZE (block_number s))) refl size) e)
