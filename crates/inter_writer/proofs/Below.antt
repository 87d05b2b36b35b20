-- Segments and transform sizes that can be said.
use Rattle.std.proofs.Common.{◌≡◌, ℕ, zero, suc, ◌≤◌, Bool, true, false, Option, Some, None, refl, arith}
use Rattle.vp9_types.specs.Maps.{Map}
use Rattle.vp9_types.specs.declared.block.BlockSize.{BlockSize}
use Rattle.vp9_types.specs.declared.block.TxMode.{TxMode}
use Rattle.vp9_types.specs.declared.block.TxSize.{TxSize}
use Rattle.vp9_types.specs.declared.block.TxSize.TheVariants.{T4x4, T8x8, T16x16, T32x32}
use Rattle.vp9_tables.specs.BlockTables.{greatest_of}
use Rattle.vp9_tables.specs.Numbers.{tx_number, tx_of}
use Rattle.frame_headers.specs.declared.segments.MapUpdate.{MapUpdate}
use Rattle.frame_headers.specs.declared.segments.Segmentation.{Segmentation}
use Rattle.block_geometry.specs.BlockSizes.{greatest_allowed}
use Rattle.block_geometry.specs.declared.parts.Part.{Part}
use Rattle.block_plan.specs.SegmentMaps.{least_id}
use Rattle.inter_modes.specs.declared.starts.SegmentOf.{SegmentOf}
use Rattle.inter_modes.proofs.Least.{least_below}
use Rattle.mode_writer.specs.ModeFits.{CanSegment, CanTx, says_tx}
use Rattle.inter_writer.specs.InterFits.{IsSegment, IsSegmentBy, CanTxIf}

id_below : (enabled : Bool) (map : Option MapUpdate) (least : ℕ) (s : SegmentOf) → least ≤ 7 → IsSegmentBy enabled map least s → s.id ≤ 7
id_below true (Some update) least s low h = h.id
id_below true None least s low h = rw h low
id_below false map least s low h = rw h (omega arith)

-- a segment is one of eight
pub segment_below : (segmentation : Segmentation) (ids : Map) (part : Part) (s : SegmentOf) → IsSegment segmentation (least_id ids part) s → s.id ≤ 7
segment_below segmentation ids part s h = id_below segmentation.enabled segmentation.map (least_id ids part) s (least_below ids part) h

at_most_three : (tx : TxSize) → tx_number tx ≤ 3
at_most_three T4x4 = omega arith
at_most_three T8x8 = omega arith
at_most_three T16x16 = omega arith
at_most_three T32x32 = omega arith

number_below : (n : ℕ) → tx_number (tx_of n) ≤ n
number_below zero = omega arith
number_below (suc zero) = omega arith
number_below (suc (suc zero)) = omega arith
number_below (suc (suc (suc n))) = omega (arith, at_most_three (tx_of (suc (suc (suc n)))))

allowed_fits : (mode : TxMode) (size : BlockSize) → tx_number (tx_of (greatest_allowed mode size)) ≤ greatest_of size
allowed_fits mode size =
    let below : tx_number (tx_of (greatest_allowed mode size)) ≤ greatest_allowed mode size = number_below (greatest_allowed mode size) in
    omega arith

said_fits : (says : Bool) (mode : TxMode) (size : BlockSize) (tx : TxSize) → (says ≡ true → tx_number tx ≤ greatest_of size)
    → (says ≡ false → tx ≡ tx_of (greatest_allowed mode size)) → tx_number tx ≤ greatest_of size
said_fits true mode size tx coded settled = coded refl
said_fits false mode size tx coded settled = rw (settled refl) (allowed_fits mode size)

-- a transform fits its block
pub tx_fits : (coded : Bool) (mode : TxMode) (size : BlockSize) (tx : TxSize) → CanTxIf coded mode size tx → tx_number tx ≤ greatest_of size
tx_fits true mode size tx can = said_fits (says_tx mode size) mode size tx can.0 can.1
tx_fits false mode size tx can = rw can (allowed_fits mode size)

-- so does that of a block of an intra frame, and its segment is one of eight
pub intra_fits : (mode : TxMode) (size : BlockSize) (tx : TxSize) → CanTx mode size tx → tx_number tx ≤ greatest_of size
intra_fits mode size tx can = said_fits (says_tx mode size) mode size tx can.0 can.1

pub coded_below : (enabled : Bool) (map : Option MapUpdate) (segment : ℕ) → CanSegment enabled map segment → segment ≤ 7
coded_below true (Some update) segment h = h
coded_below true None segment h = rw h (omega arith)
coded_below false map segment h = rw h (omega arith)
