-- A block that is added to a tile column.
use Rattle.std.proofs.Common.{◌≡◌, ◌++◌, ◌∷◌, [], ℕ, ◌+◌, ◌-◌, ◌≤◌, ◌<◌, refl, arith, Bool, List, get_or, subst}
use Rattle.std.proofs.lemmas.List.Elements.{All-push}
use Rattle.std.specs.Prelude.{All, IfSome, None, Option, Some}
use Rattle.vp9_tables.specs.BlockTables.{greatest_of}
use Rattle.vp9_tables.specs.Numbers.{tx_number}
use Rattle.vp9_types.specs.declared.block.BlockSize.{BlockSize}
use Rattle.block_geometry.specs.BlockSizes.{width_8}
use Rattle.block_plan.specs.BlockMvs.{vector_of}
use Rattle.block_plan.specs.declared.block.BlockAt.{BlockAt}
use Rattle.block_plan.specs.declared.block.BlockInfo.{BlockInfo}
use Rattle.block_plan.specs.declared.block.Prediction.{Prediction}
use Rattle.block_plan.specs.declared.block.Prediction.TheVariants.{Intra, Inter}
use Rattle.residue_syntax.specs.Residues.{listed}
use Rattle.block_plan.specs.declared.block.InterPrediction.{InterPrediction}
use Rattle.mv_prediction.specs.Code.{HasSmallVectors, PredictsSmall}
use Rattle.mv_prediction.specs.Vectors.{IsSmallVector}
use Rattle.frame_headers.specs.declared.header.FrameKind.TheVariants as frame
use Rattle.frame_headers.specs.declared.header.Header.{Header}
use Rattle.frame_headers.specs.HeaderState.{shape_of}
use Rattle.vp9_types.specs.Shapes.{mi_cols, mi_rows}
use Rattle.mv_prediction.specs.Code as vectors
use Rattle.frame_state.specs.declared.frame_blocks.FrameBlocks.{FrameBlocks}
use Rattle.frame_state.specs.Past.{AreVectors, blocks_in}
use Rattle.frame_state.specs.KeptColumns.{AllFit, AllLie, AllSmall, AllStart}

---- Listed blocks ----

-- one more fits
pub fits_more : (blocks : List BlockInfo) (b info : BlockInfo) (size : BlockSize) (any : Bool) → info ≡ listed b any → b.size ≡ size → tx_number b.tx ≤ greatest_of size
    → AllFit blocks → AllFit (blocks ++ info ∷ [])
fits_more blocks b info size any is sized fits all =
    let here : tx_number b.tx ≤ greatest_of b.size = rw sized fits in
    All-push (λ (b : BlockInfo). tx_number b.tx ≤ greatest_of b.size) blocks info all (rw is here)

-- one more lies between the places
pub lies_more : (from limit : ℕ) (blocks : List BlockInfo) (b info : BlockInfo) (at : BlockAt) (any : Bool) → info ≡ listed b any → b.col ≡ at.col → b.size ≡ at.size
    → from ≤ at.col → at.col + width_8 at.size ≤ limit → AllLie from limit blocks → AllLie from limit (blocks ++ info ∷ [])
lies_more from limit blocks b info at any is col sized first last all =
    All-push (λ (b : BlockInfo). (from ≤ b.col) × (b.col + width_8 b.size ≤ limit)) blocks info all (rw is (rw col first, rw (col, sized) last))

-- one more starts inside the frame
pub starts_more : (rows cols : ℕ) (blocks : List BlockInfo) (b info : BlockInfo) (any : Bool) → info ≡ listed b any → b.row < rows → b.col < cols → b.segment ≤ 7
    → AllStart rows cols blocks → AllStart rows cols (blocks ++ info ∷ [])
starts_more rows cols blocks b info any is row col segment all =
    let few : b.segment < 8 = omega (arith, segment) in
    All-push (λ b. (b.row < rows) × (b.col < cols) × (b.segment < 8)) blocks info all (rw is (row, col, few))

-- small vectors, by cases and as a fact
small_by : (b : BlockInfo) (p : Prediction) → b.prediction ≡ p → ((modes : InterPrediction) (quarter list : ℕ) → b.prediction ≡ Inter modes → IsSmallVector (vector_of modes quarter list)) → PredictsSmall p
small_by b (Intra modes) is h = tt
small_by b (Inter modes) is h = λ quarter list. h modes quarter list is

small_from : (p : Prediction) → PredictsSmall p → (modes : InterPrediction) (quarter list : ℕ) → p ≡ Inter modes → IsSmallVector (vector_of modes quarter list)
small_from p h modes quarter list is = (subst PredictsSmall is h) quarter list

pub all_have_small : (blocks : List BlockInfo) → AllSmall blocks → All HasSmallVectors blocks
all_have_small blocks all = λ i d low. small_by (get_or blocks i d) (get_or blocks i d).prediction refl (all i d low)

-- one more has small vectors
pub small_more : (blocks : List BlockInfo) (b info : BlockInfo) (any : Bool) → info ≡ listed b any → HasSmallVectors b → AllSmall blocks → AllSmall (blocks ++ info ∷ [])
small_more blocks b info any is small all =
    All-push (λ (b : BlockInfo). (modes : InterPrediction) (quarter list : ℕ) → b.prediction ≡ Inter modes → IsSmallVector (vector_of modes quarter list)) blocks info all
    (rw is (small_from b.prediction small))

---- The frame before ----

-- the frame before has a block at each place of this one, if its vectors are used, and they are small
pub vectors_held : (header : Header) (v : Option FrameBlocks) (r c : ℕ) → IfSome v (AreVectors header) → r < mi_rows (shape_of header) → c < mi_cols (shape_of header)
    → IfSome v (λ b. (r < mi_rows (shape_of b.header.now)) × (c < mi_cols (shape_of b.header.now)))
vectors_held header None r c are row col = tt
vectors_held header (Some b) r c are row col = (rw are.rows row, rw are.cols col)

pub vectors_small : (header : Header) (v : Option FrameBlocks) → IfSome v (AreVectors header) → All HasSmallVectors (vectors.blocks_of blocks_in v)
vectors_small header None are = λ i d low. absurd (omega (arith, low))
vectors_small header (Some b) are = all_have_small (blocks_in b) are.small
