-- The vectors that other blocks suggest for a block (6.5 of the standard: find_mv_refs), as one list.
use Rattle.std.specs.Prelude.{ℕ, ◌+◌, ◌*◌, ℤ, pos, ◌+ℤ◌, Bool, false, ◌&&◌, ◌||◌, List, [], ◌∷◌, ◌++◌, Option, Some, None, map, get_or, slice_index, slice_index_or, unsigned_abs, int_lt, int_le, nat_eq, if◌then◌else◌}
use Rattle.std.specs.List.{flat_map, range_with_len}
use Rattle.std.specs.Ordering.{int_eq}
use Rattle.vp9_types.specs.declared.block.BlockSize.{BlockSize}
use Rattle.vp9_types.specs.declared.block.InterMode.TheVariants.{Zero}
use Rattle.vp9_types.specs.declared.block.ReferenceFrame.{ReferenceFrame}
use Rattle.vp9_types.specs.declared.block.ReferenceFrame.TheVariants.{Last, Golden, Altref}
use Rattle.vp9_tables.specs.Numbers.{block_number, flag_number, inter_number, reference_number}
use Rattle.vp9_tables.specs.declared.data.motion.TheConstants.{COUNTER_TO_CONTEXT, MODE_COUNTERS, MV_REF_OFFSETS, SUBBLOCK_OF_NEIGHBOUR}
use Rattle.frame_headers.specs.References.{same_bit}
use Rattle.frame_headers.specs.declared.header.References.{References}
use Rattle.block_geometry.specs.BlockSizes.{is_below_8x8}
use Rattle.block_plan.specs.Blocks.{covering}
use Rattle.block_plan.specs.BlockMvs.{no_vector, vector_of}
use Rattle.block_plan.specs.declared.block.BlockInfo.{BlockInfo}
use Rattle.block_plan.specs.declared.block.InterPrediction.{InterPrediction}
use Rattle.block_plan.specs.declared.block.Mv.{Mv}
use Rattle.block_plan.specs.declared.block.Prediction.{Prediction}
use Rattle.block_plan.specs.declared.block.Prediction.TheVariants.{Intra, Inter}
use Rattle.mv_prediction.specs.Vectors.{same_vector, negated, clamp_mv_ref}
use Rattle.mv_prediction.specs.declared.search.MvSearch.{MvSearch}
use Rattle.mv_prediction.specs.declared.search.SignBiases.{SignBiases}

---- References ----

abbrev pub sign_biases : References → SignBiases
sign_biases refs = record { last = refs.last.sign_bias; golden = refs.golden.sign_bias; altref = refs.altref.sign_bias }

abbrev pub bias_of : SignBiases → ReferenceFrame → Bool
bias_of b Last = b.last
bias_of b Golden = b.golden
bias_of b Altref = b.altref

abbrev pub is_reference : ReferenceFrame → ReferenceFrame → Bool
is_reference a b = nat_eq (reference_number a) (reference_number b)

abbrev pub is_second : Option ReferenceFrame → ReferenceFrame → Bool
is_second (Some other) reference = is_reference other reference
is_second None reference = false

---- Vectors of a block ----

-- Its vector of a reference: of the first list, or else of the second.
abbrev pub own_vectors : ReferenceFrame → ℕ → Prediction → List Mv
own_vectors reference quarter (Intra p) = []
own_vectors reference quarter (Inter p) =
    if is_reference p.references.first reference then vector_of p quarter 0 ∷ []
    else (if is_second p.references.second reference then vector_of p quarter 1 ∷ [] else [])

-- a vector of one reference for another: negated where one of the two lies on the other side in time
abbrev pub turned : SignBiases → ReferenceFrame → ReferenceFrame → Mv → Mv
turned biases wanted other v = if same_bit (bias_of biases wanted) (bias_of biases other) then v else negated v

abbrev pub first_turned : SignBiases → ReferenceFrame → InterPrediction → List Mv
first_turned biases wanted p =
    if is_reference p.references.first wanted then [] else turned biases wanted p.references.first (vector_of p 3 0) ∷ []

-- the second list's, if it isn't the first list's as they stand in the block
abbrev pub second_turned : SignBiases → ReferenceFrame → InterPrediction → Option ReferenceFrame → List Mv
second_turned biases wanted p None = []
second_turned biases wanted p (Some other) =
    if is_reference other wanted || same_vector (vector_of p 3 0) (vector_of p 3 1) then [] else turned biases wanted other (vector_of p 3 1) ∷ []

-- Its vectors of other references: of the first list, and then of the second.
abbrev pub other_vectors : SignBiases → ReferenceFrame → Prediction → List Mv
other_vectors biases wanted (Intra p) = []
other_vectors biases wanted (Inter p) = first_turned biases wanted p ++ second_turned biases wanted p p.references.second

---- Blocks around a block ----

abbrev pub offset_of : BlockSize → ℕ → List ℤ
offset_of size k = get_or MV_REF_OFFSETS (8 * block_number size + k) []

-- a place moved by an offset, where that lies from one place on and before another
abbrev pub moved : ℕ → ℤ → ℕ → ℕ → Option ℕ
moved at offset from to =
    if int_le (pos from) (pos at +ℤ offset) && int_lt (pos at +ℤ offset) (pos to) then Some (unsigned_abs (pos at +ℤ offset)) else None

abbrev pub at_both : (ℕ → ℕ → Option BlockInfo) → Option ℕ → Option ℕ → Option BlockInfo
at_both blocks (Some row) (Some column) = blocks row column
at_both blocks (Some row) None = None
at_both blocks None column = None

-- The block at the k-th of the eight offsets of a block's size, row and column; is_inside: in the frame's rows and the
-- tile's columns.
unfoldable pub neighbour : List BlockInfo → MvSearch → ℕ → Option BlockInfo
neighbour earlier s k =
    at_both (covering earlier)
    (moved s.at.row (slice_index_or (offset_of s.at.size k) 0 (pos 0)) 0 s.places.rows)
    (moved s.at.col (slice_index_or (offset_of s.at.size k) 1 (pos 0)) s.at.tile_from s.at.tile_to)

-- For a sub-block, a neighbour below 8x8 gives the vector of one of its quarters; else it is the last one's.
abbrev pub quarter_for : Option ℕ → List ℤ → BlockSize → ℕ
quarter_for None offset size = 3
quarter_for (Some sub) offset size =
    if is_below_8x8 size then slice_index SUBBLOCK_OF_NEIGHBOUR (2 * sub + flag_number (int_eq (slice_index_or offset 1 (pos 0)) (pos 0))) else 3

abbrev pub own_of : ReferenceFrame → Option ℕ → List ℤ → Option BlockInfo → List Mv
own_of reference sub offset None = []
own_of reference sub offset (Some b) = own_vectors reference (quarter_for sub offset b.size) b.prediction

abbrev pub others_of : SignBiases → ReferenceFrame → Option BlockInfo → List Mv
others_of biases reference None = []
others_of biases reference (Some b) = other_vectors biases reference b.prediction

-- of the k-th neighbour
abbrev pub own_at : List BlockInfo → MvSearch → ReferenceFrame → Option ℕ → ℕ → List Mv
own_at earlier s reference sub k = own_of reference sub (offset_of s.at.size k) (neighbour earlier s k)

abbrev pub others_at : List BlockInfo → MvSearch → ReferenceFrame → ℕ → List Mv
others_at earlier s reference k = others_of s.biases reference (neighbour earlier s k)

---- The list ----

-- The first two neighbours, which a sub-block asks by quarter, the other six, and the block that stood here in the frame
-- before, each by the wanted reference; then all of them by other references. Where the vectors of the frame before
-- aren't used, it has no blocks.
unfoldable pub candidate_vectors : List BlockInfo → List BlockInfo → MvSearch → ReferenceFrame → Option ℕ → List Mv
candidate_vectors earlier before s reference sub =
    flat_map (own_at earlier s reference sub) (range_with_len 0 2)
    ++ flat_map (own_at earlier s reference None) (range_with_len 2 6)
    ++ own_of reference None [] (covering before s.at.row s.at.col)
    ++ flat_map (others_at earlier s reference) (range_with_len 0 8)
    ++ others_of s.biases reference (covering before s.at.row s.at.col)

-- the first that differs from a vector, or 0
abbrev pub other_than : Mv → List Mv → Mv
other_than v [] = no_vector
other_than v (w ∷ ws) = if same_vector v w then other_than v ws else w

-- the first two that differ; 0 for what isn't there
abbrev pub first_two : List Mv → List Mv
first_two [] = no_vector ∷ no_vector ∷ []
first_two (v ∷ vs) = v ∷ other_than v vs ∷ []

unfoldable pub ref_list_mv : List BlockInfo → List BlockInfo → MvSearch → ReferenceFrame → Option ℕ → List Mv
ref_list_mv earlier before s reference sub = map (clamp_mv_ref s) (first_two (candidate_vectors earlier before s reference sub))

---- The context of the inter mode ----

-- modes have the numbers of intra modes, and from 10 on those of inter modes; a block's mode is its last quarter's
abbrev pub mode_number : Prediction → ℕ
mode_number (Intra p) = 0
mode_number (Inter p) = 10 + inter_number (slice_index_or p.modes 3 Zero)

abbrev pub counter_of : Option BlockInfo → ℕ
counter_of None = 0
counter_of (Some b) = slice_index MODE_COUNTERS (mode_number b.prediction)

-- by the first two neighbours
unfoldable pub mode_context : List BlockInfo → MvSearch → ℕ
mode_context earlier s = slice_index COUNTER_TO_CONTEXT (counter_of (neighbour earlier s 0) + counter_of (neighbour earlier s 1))
