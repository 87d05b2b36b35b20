-- What the blocks above and at the left are to a block of an inter frame (9.3 of the standard: the contexts of is_inter,
-- comp_mode, comp_ref, single_ref_p1, single_ref_p2, interp_filter, seg_id_predicted).
use Rattle.std.specs.Prelude.{ℕ, ◌+◌, ◌*◌, Bool, true, false, List, Option, Some, None, slice_index, nat_eq, if◌then◌else◌}
use Rattle.vp9_types.specs.declared.block.InterpFilter.{InterpFilter}
use Rattle.vp9_types.specs.declared.block.ReferenceFrame.{ReferenceFrame}
use Rattle.vp9_types.specs.declared.block.ReferenceFrame.TheVariants.{Last, Golden, Altref}
use Rattle.vp9_tables.specs.Motion.{context_place}
use Rattle.vp9_tables.specs.Numbers.{filter_number, flag_number}
use Rattle.vp9_tables.specs.declared.data.motion.TheConstants.{REF_CONTEXTS}
use Rattle.vp9_tables.specs.declared.kinds.NeighbourKind.{NeighbourKind}
use Rattle.vp9_tables.specs.declared.kinds.NeighbourKind.TheVariants as neighbour
use Rattle.vp9_tables.specs.declared.kinds.ReferenceBool.{ReferenceBool}
use Rattle.block_plan.specs.declared.block.BlockInfo.{BlockInfo}
use Rattle.block_plan.specs.declared.block.Prediction.{Prediction}
use Rattle.block_plan.specs.declared.block.Prediction.TheVariants.{Intra, Inter}
use Rattle.mv_prediction.specs.Candidates.{is_reference}

---- Whether a block is inter ----

abbrev pub is_intra : Prediction → Bool
is_intra (Intra p) = true
is_intra (Inter p) = false

-- both there: 3 if both are intra, 1 if one is; one there: 2 if it is intra; else 0
abbrev pub both_intra : Bool → Bool → ℕ
both_intra true true = 3
both_intra true false = 1
both_intra false true = 1
both_intra false false = 0

abbrev pub is_inter_context : Option BlockInfo → Option BlockInfo → ℕ
is_inter_context (Some above) (Some left) = both_intra (is_intra above.prediction) (is_intra left.prediction)
is_inter_context (Some above) None = 2 * flag_number (is_intra above.prediction)
is_inter_context None (Some left) = 2 * flag_number (is_intra left.prediction)
is_inter_context None None = 0

---- References ----

abbrev pub single_kind : ReferenceFrame → NeighbourKind
single_kind Last = neighbour.SingleLast
single_kind Golden = neighbour.SingleGolden
single_kind Altref = neighbour.SingleAltref

abbrev pub compound_kind : ReferenceFrame → NeighbourKind
compound_kind Last = neighbour.CompoundLast
compound_kind Golden = neighbour.CompoundGolden
compound_kind Altref = neighbour.CompoundAltref

-- of the two references of a compound block the one that isn't the frame's fixed one
abbrev pub variable_of : ReferenceFrame → ReferenceFrame → ReferenceFrame → ReferenceFrame
variable_of fixed first second = if is_reference first fixed then second else first

abbrev pub kind_of_references : ReferenceFrame → ReferenceFrame → Option ReferenceFrame → NeighbourKind
kind_of_references fixed first None = single_kind first
kind_of_references fixed first (Some second) = compound_kind (variable_of fixed first second)

abbrev pub kind_in : ReferenceFrame → Prediction → NeighbourKind
kind_in fixed (Intra p) = neighbour.Intra
kind_in fixed (Inter p) = kind_of_references fixed p.references.first p.references.second

abbrev pub kind_of : ReferenceFrame → Option BlockInfo → NeighbourKind
kind_of fixed None = neighbour.Missing
kind_of fixed (Some block) = kind_in fixed block.prediction

-- The context of one of four bools: of comp_mode (IsCompound), comp_ref (CompoundVariable), single_ref_p1 (SingleFirst) or
-- single_ref_p2 (SingleSecond). The standard tests AvailU, AvailL, whether the two blocks are intra, single or compound, and which
-- references they have; that comes to a number for each CompFixedRef (`fixed`) and each two kinds of blocks, above and at the left: one
-- that is missing, an intra one, one of a single reference, one of a compound whose variable reference is this. The table has these
-- numbers, in this order
unfoldable pub reference_context : ReferenceBool → ReferenceFrame → Option BlockInfo → Option BlockInfo → ℕ
reference_context which fixed above left = slice_index REF_CONTEXTS (context_place which fixed (kind_of fixed above) (kind_of fixed left))

---- Filters ----

-- 3 where no inter block is
abbrev pub filter_in : Prediction → ℕ
filter_in (Intra p) = 3
filter_in (Inter p) = filter_number p.filter

abbrev pub filter_beside : Option BlockInfo → ℕ
filter_beside None = 3
filter_beside (Some block) = filter_in block.prediction

-- the filter of both, or of the one that has one; else 3
abbrev pub filter_of_both : ℕ → ℕ → ℕ
filter_of_both above left =
    if nat_eq left above then left else (if nat_eq left 3 then above else (if nat_eq above 3 then left else 3))

unfoldable pub filter_context : Option BlockInfo → Option BlockInfo → ℕ
filter_context above left = filter_of_both (filter_beside above) (filter_beside left)

---- Predicted segments ----

abbrev pub predicted_beside : Option BlockInfo → ℕ
predicted_beside None = 0
predicted_beside (Some block) = flag_number block.segment_predicted

abbrev pub predicted_context : Option BlockInfo → Option BlockInfo → ℕ
predicted_context above left = predicted_beside left + predicted_beside above
