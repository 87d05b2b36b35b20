-- What the references of an inter block are put as (6.4.17 of the standard).
use Rattle.std.specs.Prelude.{ℕ, ◌+◌, ◌*◌, Bool, true, false, List, [], ◌++◌, Option, Some, None, slice_index, if◌then◌else◌}
use Rattle.std.specs.Option.{is_some}
use Rattle.vp9_types.specs.declared.block.ReferenceFrame.{ReferenceFrame}
use Rattle.vp9_types.specs.declared.block.ReferenceFrame.TheVariants.{Last, Golden, Altref}
use Rattle.vp9_types.specs.declared.block.ReferenceMode.{ReferenceMode}
use Rattle.vp9_types.specs.declared.block.ReferenceMode.TheVariants.{Single, Compound, Selected}
use Rattle.vp9_tables.specs.declared.kinds.ReferenceBool.TheVariants.{IsCompound, CompoundVariable, SingleFirst, SingleSecond}
use Rattle.bool_lists.specs.BoolLists.{BoolList, one_bool}
use Rattle.frame_headers.specs.declared.segments.FeatureReference.{FeatureReference}
use Rattle.prob_contexts.specs.ProbLists.{InterLists}
use Rattle.block_plan.specs.declared.block.BlockInfo.{BlockInfo}
use Rattle.block_plan.specs.declared.block.ReferenceFrames.{ReferenceFrames}
use Rattle.mv_prediction.specs.Candidates.{bias_of}
use Rattle.mv_prediction.specs.declared.search.SignBiases.{SignBiases}
use Rattle.inter_contexts.specs.Contexts.{reference_context}
use Rattle.inter_contexts.specs.BlockReferences.{fixed_of}

-- said where blocks choose
unfoldable pub spelled_compound_flag : ReferenceMode → List ℕ → ℕ → Bool → BoolList
spelled_compound_flag Single probs context compound = []
spelled_compound_flag Compound probs context compound = []
spelled_compound_flag Selected probs context compound = one_bool (slice_index probs context) compound

abbrev pub or_last : Option ReferenceFrame → ReferenceFrame
or_last None = Last
or_last (Some reference) = reference

-- the variable reference of two, and whether it is the second of those that it can be
abbrev pub variable_reference : SignBiases → ReferenceFrames → ReferenceFrame
variable_reference biases refs = if bias_of biases (fixed_of biases) then refs.first else or_last refs.second

abbrev pub is_variable_second : ReferenceFrame → ReferenceFrame → Bool
is_variable_second Last Altref = true
is_variable_second Golden Altref = true
is_variable_second Altref Golden = true
is_variable_second fixed other = false

unfoldable pub spelled_compound : List ℕ → SignBiases → ℕ → ReferenceFrames → BoolList
spelled_compound probs biases context refs = one_bool (slice_index probs context) (is_variable_second (fixed_of biases) (variable_reference biases refs))

unfoldable pub spelled_single : List ℕ → ℕ → ℕ → ReferenceFrame → BoolList
spelled_single probs first second Last = one_bool (slice_index probs (2 * first)) false
spelled_single probs first second Golden = one_bool (slice_index probs (2 * first)) true ++ one_bool (slice_index probs (2 * second + 1)) false
spelled_single probs first second Altref = one_bool (slice_index probs (2 * first)) true ++ one_bool (slice_index probs (2 * second + 1)) true

unfoldable pub spelled_coded_references : ReferenceMode → InterLists → SignBiases → Option BlockInfo → Option BlockInfo → ReferenceFrames → BoolList
spelled_coded_references mode lists biases above left refs =
    spelled_compound_flag mode lists.compound_flag (reference_context IsCompound (fixed_of biases) above left) (is_some refs.second)
    ++ (if is_some refs.second then spelled_compound lists.compound_references biases (reference_context CompoundVariable (fixed_of biases) above left) refs
    else spelled_single lists.single_references (reference_context SingleFirst (fixed_of biases) above left) (reference_context SingleSecond (fixed_of biases) above left) refs.first)

-- none where the segment takes one
unfoldable pub spelled_references : Option FeatureReference → ReferenceMode → InterLists → SignBiases → Option BlockInfo → Option BlockInfo → ReferenceFrames → BoolList
spelled_references (Some reference) mode lists biases above left refs = []
spelled_references None mode lists biases above left refs = spelled_coded_references mode lists biases above left refs
