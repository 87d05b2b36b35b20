-- Blocks whose vectors are small.
use Rattle.std.proofs.Common.{ℕ, ◌∷◌, [], Bool, true, false, List, arith, All, Option, Some, None, if◌then◌else◌}
use Rattle.std.specs.Prelude.{IfSome}
use Rattle.std.proofs.lemmas.List.Elements.{All-head, All-tail}
use Rattle.block_plan.specs.Blocks.{covering, covers, or_else}
use Rattle.std.proofs.Common.{zero, suc}
use Rattle.std.specs.Prelude.{slice_index_or}
use Rattle.block_plan.specs.BlockMvs.{no_vector}
use Rattle.block_plan.specs.declared.block.BlockInfo.{BlockInfo}
use Rattle.block_plan.specs.declared.block.Mv.{Mv}
use Rattle.mv_prediction.specs.Vectors.{IsSmallVector}

either : (P : BlockInfo → Type 0) (b : BlockInfo) (found : Option BlockInfo) (here : Bool) → IfSome found P → P b
    → IfSome (or_else found (if here then Some b else None)) P
either P b (Some x) here first this = first
either P b None true first this = this
either P b None false first this = tt

pub covering_has : (P : BlockInfo → Type 0) (blocks : List BlockInfo) (r c : ℕ) → All P blocks → IfSome (covering blocks r c) P
unfolding covering
covering_has P [] r c all = tt
covering_has P (b ∷ blocks) r c all =
    either P b (covering blocks r c) (covers b r c) (covering_has P blocks r c (All-tail P b blocks all)) (All-head P b blocks all)

no_small : IsSmallVector no_vector
no_small = (omega arith, omega arith)

none_small : (list : ℕ) → IsSmallVector (slice_index_or [] list no_vector)
none_small zero = no_small
none_small (suc list) = no_small

abbrev pub both : Mv → Mv → List Mv
both u w = u ∷ w ∷ []

pair_small : (u w : Mv) → IsSmallVector u → IsSmallVector w → (list : ℕ) → IsSmallVector (slice_index_or (both u w) list no_vector)
pair_small u w small_u small_w zero = small_u
pair_small u w small_u small_w (suc zero) = small_w
pair_small u w small_u small_w (suc (suc list)) = none_small list

-- the vectors of the four quarters
pub small_rows : (a b c d e f g h : Mv) → IsSmallVector a → IsSmallVector b → IsSmallVector c → IsSmallVector d → IsSmallVector e → IsSmallVector f
    → IsSmallVector g → IsSmallVector h
    → (quarter list : ℕ) → IsSmallVector (slice_index_or (slice_index_or (both a b ∷ both c d ∷ both e f ∷ both g h ∷ []) quarter []) list no_vector)
small_rows a b c d e f g h sa sb sc sd se sf sg sh zero list = pair_small a b sa sb list
small_rows a b c d e f g h sa sb sc sd se sf sg sh (suc zero) list = pair_small c d sc sd list
small_rows a b c d e f g h sa sb sc sd se sf sg sh (suc (suc zero)) list = pair_small e f se sf list
small_rows a b c d e f g h sa sb sc sd se sf sg sh (suc (suc (suc zero))) list = pair_small g h sg sh list
small_rows a b c d e f g h sa sb sc sd se sf sg sh (suc (suc (suc (suc quarter)))) list = none_small list
