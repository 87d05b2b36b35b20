-- The references of an inter block (6.4.17 of the standard: ref_frames; setup_compound_reference_mode).
use Rattle.std.specs.Prelude.{ℕ, ◌+◌, ◌*◌, Bool, true, false, ◌&&◌, List, Option, Some, None, Result, Ok, Err, slice_index, if◌then◌else◌}
use Rattle.vp9_types.specs.Syntax.{Syntax}
use Rattle.vp9_types.specs.declared.block.ReferenceFrame.{ReferenceFrame}
use Rattle.vp9_types.specs.declared.block.ReferenceFrame.TheVariants.{Last, Golden, Altref}
use Rattle.vp9_types.specs.declared.block.ReferenceMode.{ReferenceMode}
use Rattle.vp9_types.specs.declared.block.ReferenceMode.TheVariants.{Single, Compound, Selected}
use Rattle.vp9_types.specs.declared.rule.Rule.{Rule}
use Rattle.vp9_types.specs.declared.rule.Rule.TheVariants.{BlockScale}
use Rattle.vp9_tables.specs.declared.kinds.ReferenceBool.TheVariants.{IsCompound, CompoundVariable, SingleFirst, SingleSecond}
use Rattle.frame_headers.specs.References.{same_bit, has_allowed_scale}
use Rattle.frame_headers.specs.declared.header.FrameSize.{FrameSize}
use Rattle.frame_headers.specs.declared.header.Reference.{Reference}
use Rattle.frame_headers.specs.declared.header.References as header
use Rattle.frame_headers.specs.declared.segments.FeatureReference.{FeatureReference}
use Rattle.frame_headers.specs.declared.segments.FeatureReference.TheVariants as feature
use Rattle.prob_contexts.specs.ProbLists.{InterLists}
use Rattle.prob_contexts.specs.declared.kind.ProbKind.TheVariants as kind
use Rattle.block_plan.specs.declared.block.BlockInfo.{BlockInfo}
use Rattle.block_plan.specs.declared.block.ReferenceFrames.{ReferenceFrames}
use Rattle.counting_reader.specs.Counting.{Settled, settle, ◌>>=◌}
use Rattle.counting_reader.specs.CountedSymbols.{counted_flag}
use Rattle.mv_prediction.specs.Candidates.{bias_of}
use Rattle.mv_prediction.specs.declared.search.SignBiases.{SignBiases}
use Rattle.inter_contexts.specs.Contexts.{reference_context}

-- CompFixedRef: the one whose side the others don't share
abbrev pub fixed_of : SignBiases → ReferenceFrame
fixed_of b = if same_bit b.last b.golden then Altref else (if same_bit b.last b.altref then Golden else Last)

-- CompVarRef: of the two others, by the bool
abbrev pub variable_by : ReferenceFrame → Bool → ReferenceFrame
variable_by Last one = if one then Altref else Golden
variable_by Golden one = if one then Altref else Last
variable_by Altref one = if one then Golden else Last

-- the fixed one is the first where its sign bias is 0, else the second
abbrev pub with_fixed : SignBiases → ReferenceFrame → ReferenceFrame → ReferenceFrames
with_fixed biases fixed other =
    if bias_of biases fixed then record { first = other; second = Some fixed } else record { first = fixed; second = Some other }

abbrev pub single : ReferenceFrame → ReferenceFrames
single reference = record { first = reference; second = None }

unfoldable pub uses_compound : ReferenceMode → List ℕ → ℕ → Syntax ℕ Rule (Settled Bool)
uses_compound Single probs context = settle false
uses_compound Compound probs context = settle true
uses_compound Selected probs context = counted_flag kind.CompoundFlag context (slice_index probs context)

unfoldable pub compound_references : List ℕ → SignBiases → ℕ → Syntax ℕ Rule (Settled ReferenceFrames)
compound_references probs biases context = do
  one ← counted_flag kind.CompoundReference context (slice_index probs context)
  settle (with_fixed biases (fixed_of biases) (variable_by (fixed_of biases) one))

unfoldable pub golden_or_altref : List ℕ → ℕ → Syntax ℕ Rule (Settled ReferenceFrames)
golden_or_altref probs context = do
  altref ← counted_flag kind.SingleReference (2 * context + 1) (slice_index probs (2 * context + 1))
  settle (single (if altref then Altref else Golden))

unfoldable pub single_reference : List ℕ → ℕ → ℕ → Syntax ℕ Rule (Settled ReferenceFrames)
single_reference probs first second = do
  other ← counted_flag kind.SingleReference (2 * first) (slice_index probs (2 * first))
  if other then golden_or_altref probs second else settle (single Last)

unfoldable pub coded_references : ReferenceMode → InterLists → SignBiases → Option BlockInfo → Option BlockInfo → Syntax ℕ Rule (Settled ReferenceFrames)
coded_references mode lists biases above left = do
  compound ← uses_compound mode lists.compound_flag (reference_context IsCompound (fixed_of biases) above left)
  if compound then compound_references lists.compound_references biases (reference_context CompoundVariable (fixed_of biases) above left)
      else single_reference lists.single_references (reference_context SingleFirst (fixed_of biases) above left) (reference_context SingleSecond (fixed_of biases) above left)

-- an inter block's segment doesn't take intra
abbrev pub of_feature : FeatureReference → ReferenceFrame
of_feature feature.Golden = Golden
of_feature feature.Altref = Altref
of_feature _ = Last

-- the segment's, or else they are coded
unfoldable pub ref_frames : Option FeatureReference → ReferenceMode → InterLists → SignBiases → Option BlockInfo → Option BlockInfo → Syntax ℕ Rule (Settled ReferenceFrames)
ref_frames (Some reference) mode lists biases above left = settle (single (of_feature reference))
ref_frames None mode lists biases above left = coded_references mode lists biases above left

---- The rule of references ----

abbrev pub reference_in : header.References → ReferenceFrame → Reference
reference_in refs Last = refs.last
reference_in refs Golden = refs.golden
reference_in refs Altref = refs.altref

abbrev pub second_in_range : FrameSize → header.References → Option ReferenceFrame → Bool
second_in_range size refs None = true
second_in_range size refs (Some reference) = has_allowed_scale size (reference_in refs reference)

-- what a block refers to must have a size from which the frame can be predicted
abbrev pub allowed_or_rule : FrameSize → header.References → ReferenceFrames → Result ReferenceFrames Rule
allowed_or_rule size refs r =
    if has_allowed_scale size (reference_in refs r.first) && second_in_range size refs r.second then Ok r else Err BlockScale
