-- How a compressed header is spelled (6.3 of the standard): its bools one behind another, by the probabilities before and after.
-- A probability is updated exactly where it changes, and the coefficients of a size have updates exactly where one of them does.
use Rattle.std.specs.Prelude.{ℕ, ◌+◌, ◌-◌, ◌*◌, ◌/◌, ◌%◌, Bool, true, false, not, List, [], ◌++◌, flat_map, zip, take, drop, nat_eq, nat_lt, nat_le, if◌then◌else◌}
use Rattle.std.specs.Cmp.Lexicographic.{pointwise}
use Rattle.vp9_types.specs.declared.block.Modes.{Modes}
use Rattle.vp9_types.specs.declared.block.ReferenceMode.{ReferenceMode}
use Rattle.vp9_types.specs.declared.block.ReferenceMode.TheVariants as reference
use Rattle.vp9_types.specs.declared.block.TxMode.{TxMode}
use Rattle.vp9_types.specs.declared.block.TxMode.TheVariants.{Only4x4, UpTo8x8, UpTo16x16, UpTo32x32, Selected}
use Rattle.vp9_types.specs.declared.block.TxSize.TheVariants.{T4x4, T8x8, T16x16, T32x32}
use Rattle.vp9_tables.specs.Numbers.{flag_number}
use Rattle.bool_lists.specs.BoolLists.{BoolList, one_bool, number_bools, difference_bools}
use Rattle.frame_headers.specs.declared.header.FrameKind.{FrameKind}
use Rattle.frame_headers.specs.declared.header.FrameKind.TheVariants.{Key, IntraOnly, Inter}
use Rattle.frame_headers.specs.declared.header.Header.{Header}
use Rattle.frame_headers.specs.declared.header.InterFields.{InterFields}
use Rattle.frame_headers.specs.Quantizer.{is_lossless}
use Rattle.prob_contexts.specs.ProbLists.{TxLists, CoefLists, InterLists, VectorLists, ContextLists}
use Rattle.compressed_header.specs.HeaderModes.{is_compound_allowed}
use Rattle.compressed_header.specs.ReferenceProbs.{is_switchable, is_single, is_compound, is_chosen}
use Rattle.compressed_header.specs.TransformProbs.{allows}

---- Updates ----

-- what stands for n around m (6.3.6, in the other direction)
unfoldable pub place_around : ℕ → ℕ → ℕ
place_around n m = if nat_lt (2 * m) n then n else (if nat_lt n m then 2 * (m - n) - 1 else 2 * (n - m))

-- where the map of 6.3.5 has v: 20 numbers, 13 apart, stand first, and the others behind them in order
unfoldable pub place_in_map : ℕ → ℕ
place_in_map v = if nat_eq (v % 13) 7 then v / 13 else 19 + v - (v + 5) / 13

-- the coded difference that makes the new probability of the old one (6.3.5)
unfoldable pub difference_to : ℕ → ℕ → ℕ
difference_to new old =
    let m = old - 1 in
    if nat_le m 127 then place_in_map (place_around (new - 1) m) else place_in_map (place_around (255 - new) (254 - m))

-- 6.3.3
unfoldable pub spelled_update : ℕ → ℕ → BoolList
spelled_update old new = if nat_eq new old then one_bool 252 false else (one_bool 252 true ++ difference_bools (difference_to new old))

-- 6.3.17
unfoldable pub spelled_vector_update : ℕ → ℕ → BoolList
spelled_vector_update old new = if nat_eq new old then one_bool 252 false else (one_bool 252 true ++ number_bools 7 (new / 2))

-- the probabilities of a list, one after another
unfoldable pub spelled_updates : List ℕ → List ℕ → BoolList
spelled_updates olds news = flat_map (λ (at : ℕ × ℕ). spelled_update at.0 at.1) (zip olds news)

unfoldable pub spelled_vector_updates : List ℕ → List ℕ → BoolList
spelled_vector_updates olds news = flat_map (λ (at : ℕ × ℕ). spelled_vector_update at.0 at.1) (zip olds news)

-- where the header has updates for them
unfoldable pub spelled_updates_if : Bool → List ℕ → List ℕ → BoolList
spelled_updates_if coded olds news = if coded then spelled_updates olds news else []

---- Modes ----

-- 6.3.1; a lossless frame says none
unfoldable pub spelled_tx_mode : Bool → TxMode → BoolList
spelled_tx_mode true mode = []
spelled_tx_mode false Only4x4 = number_bools 2 0
spelled_tx_mode false UpTo8x8 = number_bools 2 1
spelled_tx_mode false UpTo16x16 = number_bools 2 2
spelled_tx_mode false UpTo32x32 = number_bools 2 3 ++ number_bools 1 0
spelled_tx_mode false Selected = number_bools 2 3 ++ number_bools 1 1

-- 6.3.12, where compound prediction is allowed
unfoldable pub spelled_reference_mode : Bool → ReferenceMode → BoolList
spelled_reference_mode false mode = []
spelled_reference_mode true reference.Single = number_bools 1 0
spelled_reference_mode true reference.Compound = number_bools 1 1 ++ number_bools 1 0
spelled_reference_mode true reference.Selected = number_bools 1 1 ++ number_bools 1 1

---- Transform sizes and coefficients ----

-- 6.3.2
unfoldable pub spelled_tx_probs : TxLists → TxLists → BoolList
spelled_tx_probs old new = spelled_updates old.of_8x8 new.of_8x8 ++ spelled_updates old.of_16x16 new.of_16x16 ++ spelled_updates old.of_32x32 new.of_32x32

-- where blocks say which size they have
unfoldable pub spelled_tx_updates : TxMode → TxLists → TxLists → BoolList
spelled_tx_updates Selected old new = spelled_tx_probs old new
spelled_tx_updates Only4x4 old new = []
spelled_tx_updates UpTo8x8 old new = []
spelled_tx_updates UpTo16x16 old new = []
spelled_tx_updates UpTo32x32 old new = []

abbrev pub are_changed : List ℕ → List ℕ → Bool
are_changed olds news = not (pointwise nat_eq olds news)

-- the coefficients of a size, if the mode allows it
unfoldable pub spelled_size_updates : Bool → List ℕ → List ℕ → BoolList
spelled_size_updates false olds news = []
spelled_size_updates true olds news = number_bools 1 (flag_number (are_changed olds news)) ++ spelled_updates_if (are_changed olds news) olds news

-- 6.3.7
unfoldable pub spelled_coefficients : TxMode → CoefLists → CoefLists → BoolList
spelled_coefficients mode old new =
    spelled_size_updates (allows mode T4x4) old.of_4x4 new.of_4x4 ++ spelled_size_updates (allows mode T8x8) old.of_8x8 new.of_8x8
    ++ spelled_size_updates (allows mode T16x16) old.of_16x16 new.of_16x16 ++ spelled_size_updates (allows mode T32x32) old.of_32x32 new.of_32x32

---- Inter frames ----

-- 6.3.13
unfoldable pub spelled_reference_probs : ReferenceMode → InterLists → InterLists → BoolList
spelled_reference_probs mode old new =
    spelled_updates_if (is_chosen mode) old.compound_flag new.compound_flag
    ++ spelled_updates_if (not (is_compound mode)) old.single_references new.single_references
    ++ spelled_updates_if (not (is_single mode)) old.compound_references new.compound_references

-- 6.3.9 to 6.3.14
unfoldable pub spelled_inter_probs : InterFields → ReferenceMode → InterLists → InterLists → BoolList
spelled_inter_probs fields mode old new =
    spelled_updates old.modes new.modes ++ spelled_updates_if (is_switchable fields.filter) old.filters new.filters
    ++ spelled_updates old.is_inter new.is_inter ++ spelled_reference_mode (is_compound_allowed fields.references) mode
    ++ spelled_reference_probs mode old new ++ spelled_updates old.y_modes new.y_modes

-- n probabilities of vectors, from a place on
unfoldable pub spelled_updates_from : ℕ → ℕ → List ℕ → List ℕ → BoolList
spelled_updates_from from n olds news = spelled_vector_updates (take n (drop from olds)) (take n (drop from news))

-- sign, classes, class0 and bits of a component
unfoldable pub spelled_component_updates : ℕ → VectorLists → VectorLists → BoolList
spelled_component_updates i old new =
    spelled_updates_from i 1 old.signs new.signs ++ spelled_updates_from (10 * i) 10 old.classes new.classes
    ++ spelled_updates_from i 1 old.class0 new.class0 ++ spelled_updates_from (10 * i) 10 old.bits new.bits

unfoldable pub spelled_fractions : ℕ → VectorLists → VectorLists → BoolList
spelled_fractions i old new = spelled_updates_from (6 * i) 6 old.class0_fractions new.class0_fractions ++ spelled_updates_from (3 * i) 3 old.fractions new.fractions

unfoldable pub spelled_high_updates : ℕ → VectorLists → VectorLists → BoolList
spelled_high_updates i old new = spelled_updates_from i 1 old.class0_high new.class0_high ++ spelled_updates_from i 1 old.high new.high

-- the last bit of vectors, where the frame has it
unfoldable pub spelled_precise : Bool → VectorLists → VectorLists → BoolList
spelled_precise false old new = []
spelled_precise true old new = spelled_high_updates 0 old new ++ spelled_high_updates 1 old new

-- 6.3.16
unfoldable pub spelled_vector_lists : Bool → VectorLists → VectorLists → BoolList
spelled_vector_lists precise old new =
    spelled_vector_updates old.joints new.joints ++ spelled_component_updates 0 old new ++ spelled_component_updates 1 old new
    ++ spelled_fractions 0 old new ++ spelled_fractions 1 old new ++ spelled_precise precise old new

---- The whole header ----

unfoldable pub spelled_inter_part : InterFields → ReferenceMode → ContextLists → ContextLists → BoolList
spelled_inter_part fields mode old new =
    spelled_inter_probs fields mode old.inter new.inter ++ spelled_updates old.partitions new.partitions ++ spelled_vector_lists fields.high_precision old.vectors new.vectors

-- intra frames have no more than what all frames have
unfoldable pub spelled_kind : FrameKind → ReferenceMode → ContextLists → ContextLists → BoolList
spelled_kind Key mode old new = []
spelled_kind IntraOnly mode old new = []
spelled_kind (Inter fields) mode old new = spelled_inter_part fields mode old new

-- 6.3
unfoldable pub spelled_compressed : Header → ContextLists → ContextLists → Modes → BoolList
spelled_compressed header old new modes =
    spelled_tx_mode (is_lossless header.params.quantizer) modes.tx_mode ++ spelled_tx_updates modes.tx_mode old.tx new.tx
    ++ spelled_coefficients modes.tx_mode old.coef new.coef ++ spelled_updates old.skip new.skip ++ spelled_kind header.kind modes.reference_mode old new
