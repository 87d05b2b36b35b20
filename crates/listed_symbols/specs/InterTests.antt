-- Tests of what inter blocks say (6.4.16 to 6.4.20 of the standard: inter_block_mode_info to read_mv_component).
use Rattle.std.specs.Prelude.{ℕ, ◌%◌, ℤ, unsigned_abs, Bool, true, false, ◌&&◌, ◌||◌, not, List, Option, Some, None, Result, Ok, Err, nat_eq, nat_le}
use Rattle.std.specs.Option.{is_some}
use Rattle.vp9_types.specs.declared.block.BlockSize.{BlockSize}
use Rattle.vp9_types.specs.declared.block.InterMode.{InterMode}
use Rattle.vp9_types.specs.declared.block.InterMode.TheVariants.{Zero, New}
use Rattle.vp9_types.specs.declared.block.InterpFilter.{InterpFilter}
use Rattle.vp9_types.specs.declared.block.InterpFilter.TheVariants.{Bilinear}
use Rattle.vp9_types.specs.declared.block.ReferenceFrame.{ReferenceFrame}
use Rattle.vp9_types.specs.declared.block.ReferenceMode.{ReferenceMode}
use Rattle.vp9_types.specs.declared.block.ReferenceMode.TheVariants.{Single, Compound, Selected}
use Rattle.vp9_types.specs.declared.rule.Rule.{Rule}
use Rattle.vp9_tables.specs.Numbers.{filter_number, inter_number, reference_number}
use Rattle.frame_headers.specs.declared.header.FrameFilter.{FrameFilter}
use Rattle.frame_headers.specs.declared.header.FrameFilter.TheVariants.{Fixed, Switchable}
use Rattle.frame_headers.specs.declared.segments.FeatureReference.{FeatureReference}
use Rattle.block_geometry.specs.BlockSizes.{is_below_8x8}
use Rattle.block_plan.specs.BlockMvs.{vector_at}
use Rattle.block_plan.specs.declared.block.Mv.{Mv}
use Rattle.block_plan.specs.declared.block.ReferenceFrames.{ReferenceFrames}
use Rattle.mode_syntax.specs.Elements.{skips_segment}
use Rattle.mv_prediction.specs.Vectors.{is_short_vector}
use Rattle.mv_prediction.specs.declared.search.SignBiases.{SignBiases}
use Rattle.inter_contexts.specs.BlockReferences.{fixed_of, variable_by, with_fixed, single, of_feature, allowed_or_rule}
use Rattle.inter_modes.specs.ModeInfo.{InterFrame}
use Rattle.inter_modes.specs.BlockStarts.{segment_reference}
use Rattle.inter_modes.specs.BlockVectors.{Sources, best_mv}
use Rattle.inter_modes.specs.declared.starts.BlockStart.{BlockStart}
use Rattle.inter_writer.specs.declared.frame_blocks.PredictionSymbols.{PredictionSymbols}
use Rattle.inter_writer.specs.declared.frame_blocks.PredictionSymbols.TheVariants.{Intra, Inter}
use Rattle.listed_symbols.specs.IntraTests.{can_luma}
use Rattle.listed_symbols.specs.StartTests.{can_start_inter}
use Rattle.vector_writer.specs.VectorFits.{quarter_saying}
use Rattle.vector_writer.specs.SaidVectors.{mode_of_part, symbols_at}
use Rattle.vector_writer.specs.declared.symbols.InterSymbols.{InterSymbols}
use Rattle.vector_writer.specs.declared.symbols.QuarterSymbols.{QuarterSymbols}

---- References ----

abbrev pub same_second : Option ReferenceFrame → Option ReferenceFrame → Bool
same_second (Some r) (Some s) = nat_eq (reference_number r) (reference_number s)
same_second (Some r) None = false
same_second None (Some s) = false
same_second None None = true

abbrev pub same_references : ReferenceFrames → ReferenceFrames → Bool
same_references refs other = nat_eq (reference_number refs.first) (reference_number other.first) && same_second refs.second other.second

abbrev pub can_be_compound : ReferenceMode → Bool → Bool
can_be_compound Single compound = not compound
can_be_compound Compound compound = compound
can_be_compound Selected compound = true

abbrev pub compound_by : SignBiases → Bool → ReferenceFrames
compound_by biases one = with_fixed biases (fixed_of biases) (variable_by (fixed_of biases) one)

-- the frame's fixed reference, and one of the two others
unfoldable pub are_compound : SignBiases → ReferenceFrames → Bool
are_compound biases refs = same_references refs (compound_by biases false) || same_references refs (compound_by biases true)

unfoldable pub can_code_references : ReferenceMode → SignBiases → ReferenceFrames → Bool
can_code_references mode biases refs = can_be_compound mode (is_some refs.second) && (not (is_some refs.second) || are_compound biases refs)

-- what its segment takes, or what it says
unfoldable pub can_refer : Option FeatureReference → ReferenceMode → SignBiases → ReferenceFrames → Bool
can_refer (Some reference) mode biases refs = same_references refs (single (of_feature reference))
can_refer None mode biases refs = can_code_references mode biases refs

---- Modes and vectors ----

-- 0 or said by a class, at most 16384, and even where the bit of high precision isn't read
unfoldable pub is_difference : Bool → ℤ → Bool
is_difference precise component = nat_le (unsigned_abs component) 16384 && (precise || nat_eq (unsigned_abs component % 2) 0)

unfoldable pub can_differ : Bool → Mv → Bool
can_differ precise difference = is_difference precise difference.row && is_difference precise difference.column

-- a new vector's difference from the best one
unfoldable pub can_be_new : Bool → InterMode → Mv → Mv → Bool
can_be_new allowed New best difference = can_differ (allowed && is_short_vector best) difference
can_be_new allowed _ best difference = true

-- of each reference, by the best vectors
unfoldable pub can_say_vectors : Bool → List Mv → ReferenceFrames → QuarterSymbols → Bool
can_say_vectors allowed best refs said =
    can_be_new allowed said.mode (vector_at best 0) (vector_at said.differences 0)
    && (not (is_some refs.second) || can_be_new allowed said.mode (vector_at best 1) (vector_at said.differences 1))

-- the frame's filter, or one of the three that a block can name
abbrev pub can_filter : FrameFilter → InterpFilter → Bool
can_filter (Fixed f) filter = nat_eq (filter_number f) (filter_number filter)
can_filter Switchable Bilinear = false
can_filter Switchable _ = true

-- the mode of a block of 8x8 or more in a segment that skips is zero
abbrev pub is_zero_if : Bool → InterMode → Bool
is_zero_if skips Zero = true
is_zero_if skips _ = not skips

-- a quarter has the mode of the one by whose symbols it is said, and its vectors can be said
unfoldable pub can_say_quarter : Bool → List Mv → BlockSize → InterSymbols → ℕ → Bool
can_say_quarter allowed best size q k =
    nat_eq (inter_number (mode_of_part q.modes k)) (inter_number (mode_of_part q.modes (quarter_saying size k)))
    && can_say_vectors allowed best q.references (symbols_at q (quarter_saying size k))

unfoldable pub can_say_quarters : Bool → List Mv → BlockSize → InterSymbols → Bool
can_say_quarters allowed best size q =
    can_say_quarter allowed best size q 0 && can_say_quarter allowed best size q 1
    && can_say_quarter allowed best size q 2 && can_say_quarter allowed best size q 3

-- what stands behind the references
unfoldable pub can_say_inter : Bool → List Mv → Bool → FrameFilter → BlockSize → InterSymbols → Bool
can_say_inter allowed best skips filter size q =
    can_filter filter q.filter && is_zero_if (not (is_below_8x8 size) && skips) (mode_of_part q.modes 0) && can_say_quarters allowed best size q

abbrev pub can_say_if : Result ReferenceFrames Rule → Bool → Bool
can_say_if (Ok refs) can = can
can_say_if (Err rule) can = true

-- an inter block of a segment: of references out of range nothing more is said
unfoldable pub can_say_block : InterFrame → Sources → ℕ → InterSymbols → Bool
can_say_block f s segment q =
    let segmentation = f.header.params.segmentation in
    can_refer (segment_reference segmentation segment) f.modes.reference_mode s.search.biases q.references
    && can_say_if (allowed_or_rule f.header.size f.fields.references q.references)
    (can_say_inter s.allowed (best_mv s q.references) (skips_segment segmentation segment) f.fields.filter s.search.at.size q)

---- Blocks ----

abbrev pub can_predict : InterFrame → Sources → BlockStart → PredictionSymbols → Bool
can_predict f s start (Intra p) = not start.is_inter && can_luma s.search.at.size p.luma
can_predict f s start (Inter q) = start.is_inter && can_say_block f s start.segment.id q

-- a block of an inter frame (6.4.11), over which the map before the frame has a least id
unfoldable pub can_put_inter : InterFrame → Sources → ℕ → BlockStart → PredictionSymbols → Bool
can_put_inter f s least start p =
    can_start_inter f.header.params.segmentation f.modes.tx_mode s.search.at.size least start && can_predict f s start p
