-- Vectors of four quarters that are small.
use Rattle.std.proofs.Common.{◌≡◌, ℕ, zero, suc, ◌<◌, ◌∷◌, [], List, arith, All}
use Rattle.std.specs.Prelude.{slice_index_or}
use Rattle.std.proofs.lemmas.List.Elements.{All-head, All-tail}
use Rattle.block_plan.specs.Blocks.{IsIntra}
use Rattle.block_plan.specs.BlockMvs.{no_vector}
use Rattle.block_plan.specs.declared.block.Mv.{Mv}
use Rattle.block_plan.specs.declared.block.Prediction.{Prediction}
use Rattle.block_plan.specs.declared.block.Prediction.TheVariants.{Intra, Inter}
use Rattle.mv_prediction.specs.Code.{AreSmall, PredictsSmall}
use Rattle.mv_prediction.specs.Vectors.{IsSmallVector}

no_small : IsSmallVector no_vector
no_small = (omega arith, omega arith)

pub row_small : (vs : List Mv) (k : ℕ) → AreSmall vs → IsSmallVector (slice_index_or vs k no_vector)
row_small [] zero small = no_small
row_small [] (suc k) small = no_small
row_small (v ∷ vs) zero small = All-head IsSmallVector v vs small
row_small (v ∷ vs) (suc k) small = row_small vs k (All-tail IsSmallVector v vs small)

none_small : (k : ℕ) → IsSmallVector (slice_index_or [] k no_vector)
none_small zero = no_small
none_small (suc k) = no_small

pub four_rows : (a b c d : List Mv) → AreSmall a → AreSmall b → AreSmall c → AreSmall d
    → (quarter list : ℕ) → IsSmallVector (slice_index_or (slice_index_or (a ∷ b ∷ c ∷ d ∷ []) quarter []) list no_vector)
four_rows a b c d sa sb sc sd zero list = row_small a list sa
four_rows a b c d sa sb sc sd (suc zero) list = row_small b list sb
four_rows a b c d sa sb sc sd (suc (suc zero)) list = row_small c list sc
four_rows a b c d sa sb sc sd (suc (suc (suc zero))) list = row_small d list sd
four_rows a b c d sa sb sc sd (suc (suc (suc (suc quarter)))) list = none_small list

pub intra_small : (p : Prediction) → IsIntra p → PredictsSmall p
intra_small (Intra modes) intra = tt
intra_small (Inter modes) intra = absurd intra
