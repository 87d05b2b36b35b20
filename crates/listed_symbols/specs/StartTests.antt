-- Tests of what blocks say before their modes (6.4.6 to 6.4.13 of the standard: intra_frame_mode_info, inter_frame_mode_info).
use Rattle.std.specs.Prelude.{ℕ, Bool, true, false, ◌&&◌, ◌||◌, not, Option, Some, None, nat_eq, nat_le, if◌then◌else◌}
use Rattle.vp9_types.specs.declared.block.BlockSize.{BlockSize}
use Rattle.vp9_types.specs.declared.block.TxMode.{TxMode}
use Rattle.vp9_types.specs.declared.block.TxSize.{TxSize}
use Rattle.vp9_tables.specs.BlockTables.{greatest_of}
use Rattle.vp9_tables.specs.Numbers.{tx_number}
use Rattle.frame_headers.specs.declared.segments.FeatureReference.{FeatureReference}
use Rattle.frame_headers.specs.declared.segments.MapUpdate.{MapUpdate}
use Rattle.frame_headers.specs.declared.segments.Segmentation.{Segmentation}
use Rattle.block_geometry.specs.BlockSizes.{greatest_allowed}
use Rattle.mode_syntax.specs.Elements.{skips_segment}
use Rattle.mode_writer.specs.ModeFits.{says_tx}
use Rattle.inter_modes.specs.BlockStarts.{segment_reference, is_inter_feature}
use Rattle.inter_modes.specs.declared.starts.BlockStart.{BlockStart}
use Rattle.inter_modes.specs.declared.starts.SegmentOf.{SegmentOf}

-- one of eight segments where the frame has segments and codes their map; else 0
abbrev pub can_segment : Bool → Option MapUpdate → ℕ → Bool
can_segment true (Some update) segment = nat_le segment 7
can_segment true None segment = nat_eq segment 0
can_segment false map segment = nat_eq segment 0

-- a segment that skips has all its blocks skipped
abbrev pub can_skip : Segmentation → ℕ → Bool → Bool
can_skip segmentation segment skip = not (skips_segment segmentation segment) || skip

-- one up to the greatest that fits the block where the block says it; else the greatest that is allowed
abbrev pub can_tx : TxMode → BlockSize → TxSize → Bool
can_tx mode size tx =
    if says_tx mode size then nat_le (tx_number tx) (greatest_of size) else nat_eq (tx_number tx) (greatest_allowed mode size)

-- what a block of an intra frame says first
unfoldable pub can_start_intra : Segmentation → TxMode → BlockSize → BlockStart → Bool
can_start_intra segmentation mode size start =
    not start.is_inter && not start.segment.predicted && can_segment segmentation.enabled segmentation.map start.segment.id
    && can_skip segmentation start.segment.id start.skip && can_tx mode size start.tx

---- Of inter frames ----

-- an id of three bits, or the least one of the map before the frame where the frame may predict ids
unfoldable pub is_updated : MapUpdate → ℕ → SegmentOf → Bool
is_updated update least s = nat_le s.id 7 && (not s.predicted || update.temporal && nat_eq s.id least)

abbrev pub is_segment_by : Bool → Option MapUpdate → ℕ → SegmentOf → Bool
is_segment_by true (Some update) least s = is_updated update least s
is_segment_by true None least s = not s.predicted && nat_eq s.id least
is_segment_by false map least s = not s.predicted && nat_eq s.id 0

abbrev pub can_be_inter_by : Option FeatureReference → Bool → Bool
can_be_inter_by (Some reference) is_inter = if is_inter then is_inter_feature reference else not (is_inter_feature reference)
can_be_inter_by None is_inter = true

abbrev pub can_tx_if : Bool → TxMode → BlockSize → TxSize → Bool
can_tx_if coded mode size tx = if coded then can_tx mode size tx else nat_eq (tx_number tx) (greatest_allowed mode size)

-- what a block of an inter frame says first, over which the map before the frame has a least id
unfoldable pub can_start_inter : Segmentation → TxMode → BlockSize → ℕ → BlockStart → Bool
can_start_inter segmentation mode size least start =
    is_segment_by segmentation.enabled segmentation.map least start.segment && can_skip segmentation start.segment.id start.skip
    && can_be_inter_by (segment_reference segmentation start.segment.id) start.is_inter
    && can_tx_if (not (start.is_inter && start.skip)) mode size start.tx
