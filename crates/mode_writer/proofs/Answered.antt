-- Any bools lead to a block and to a partition that can be put.
use Rattle.std.proofs.Common.{◌≡◌, ℕ, ◌+◌, ◌*◌, ◌≤◌, ◌⊎◌, inl, inr, Bool, true, false, ◌&&◌, not, List, [], ◌∷◌, refl, subst, arith}
use Rattle.std.specs.Prelude.{Option, Some, None, drop, slice_index, nat_lt, if◌then◌else◌}
use Rattle.vp9_types.specs.Syntax.{Syntax, done, ◌>>=◌}
use Rattle.vp9_types.specs.declared.block.BlockSize.{BlockSize}
use Rattle.vp9_types.specs.declared.block.BlockSize.TheVariants.{B4x4, B4x8, B8x4, B8x8, B8x16, B16x8, B16x16, B16x32, B32x16, B32x32, B32x64, B64x32, B64x64}
use Rattle.vp9_types.specs.declared.block.Modes.{Modes}
use Rattle.vp9_types.specs.declared.block.Partition.{Partition}
use Rattle.vp9_types.specs.declared.block.Partition.TheVariants.{Horizontal, Vertical, Split}
use Rattle.vp9_types.specs.declared.block.TxMode.{TxMode}
use Rattle.vp9_types.specs.declared.block.TxSize.{TxSize}
use Rattle.vp9_types.specs.declared.block.TxSize.TheVariants.{T4x4, T8x8, T16x16, T32x32}
use Rattle.vp9_types.specs.declared.rule.Rule.{Rule}
use Rattle.vp9_tables.specs.BlockTables.{greatest_of}
use Rattle.vp9_tables.specs.Numbers.{partition_number, tx_number, tx_of}
use Rattle.vp9_tables.specs.SymbolTrees.{partition_tree, segment_tree}
use Rattle.bool_decoder.specs.Bools.{flag}
use Rattle.frame_headers.specs.declared.header.Header.{Header}
use Rattle.frame_headers.specs.declared.segments.MapUpdate.{MapUpdate}
use Rattle.frame_headers.specs.declared.segments.Segmentation.{Segmentation}
use Rattle.prob_contexts.specs.ProbLists.{TxLists, ContextLists}
use Rattle.prob_contexts.specs.declared.kind.ProbKind.TheVariants as kind
use Rattle.block_geometry.specs.BlockSizes.{is_below_8x8, greatest_allowed}
use Rattle.block_geometry.specs.declared.transform_blocks.FramePlaces.{FramePlaces}
use Rattle.block_plan.specs.Blocks.{above_of, left_of}
use Rattle.block_plan.specs.declared.block.BlockAt.{BlockAt}
use Rattle.block_plan.specs.declared.block.BlockInfo.{BlockInfo}
use Rattle.counting_reader.specs.Counting.{Settled, settle, count, uncounted, Yields}
use Rattle.counting_reader.specs.CountedSymbols.{counted_flag, counted_symbol, counted_tree}
use Rattle.counting_reader.proofs.Yields.{yields_bind, yields_all, yields_map}
use Rattle.mode_syntax.specs.Elements.{coded_segment, intra_segment_id, skips_segment, skip_context, read_skip, tx_context, tx_kind, tx_probs, tx_tree, tx_symbol, is_selected, read_tx_size}
use Rattle.mode_syntax.specs.Code.{one_mode, two_rows, two_columns, four_modes, modes_by_size}
use Rattle.mode_syntax.specs.IntraModes.{default_intra_mode, edge_modes, default_luma_modes, last_mode, default_uv_mode}
use Rattle.mode_syntax.specs.IntraModeInfo.{intra_block, mode_info_beside, intra_frame_mode_info}
use Rattle.mode_syntax.specs.Partitions.{split_or, edge_symbol, whole_symbol, partition_value, partition, half_of, partition_probs, square_context, partition_at}
use Rattle.mode_syntax.specs.declared.intra_modes.EdgeModes.{EdgeModes}
use Rattle.mode_syntax.specs.declared.square_at.SquareAt.{SquareAt}
use Rattle.mode_syntax.proofs.BySize.{luma_by_size}
use Rattle.mode_syntax.proofs.TxSizes.{some_transform}
use Rattle.mode_writer.specs.ModeFits.{CanSegment, CanSkip, says_tx, CanTx, AreRows, AreColumns, CanLuma, CanPutIntraFrame, CanPartition, CanPartitionAt}
use Rattle.mode_writer.proofs.Yielded.{AllLeaves, yields_one, yields_uncounted, yields_after, tree_yields, symbol_yields}

no_true : {P : Type 0} → false ≡ true → P
no_true h =
    let no : ⊥ = cc in
    absurd no

no_false : {P : Type 0} → true ≡ false → P
no_false h =
    let no : ⊥ = cc in
    absurd no

---- Segment, skip ----

segment_answered : (enabled : Bool) (map : Option MapUpdate) → Yields (uncounted (coded_segment enabled map)) (CanSegment enabled map)
unfolding coded_segment
segment_answered true (Some update) = symbol_yields segment_tree update.tree (λ segment. segment ≤ 7)
    (((omega arith, omega arith), (omega arith, omega arith)), ((omega arith, omega arith), (omega arith, omega arith)))
segment_answered true None = yields_uncounted 0 (λ segment. segment ≡ 0) refl
segment_answered false map = yields_uncounted 0 (λ segment. segment ≡ 0) refl

skip_by : (b : Bool) (s : Syntax ℕ Rule (Settled Bool)) → Yields (if b then settle true else s) (λ skip. b ≡ true → skip ≡ true)
skip_by true s = yields_one true (λ skip. true ≡ true → skip ≡ true) (λ any. refl)
skip_by false s = yields_map s (λ skip. Unit) (λ skip. false ≡ true → skip ≡ true) (yields_all s) (λ skip any h. no_true h)

skip_answered : (segmentation : Segmentation) (probs : List ℕ) (context segment : ℕ) → Yields (read_skip segmentation probs context segment) (CanSkip segmentation segment)
unfolding read_skip
skip_answered segmentation probs context segment =
    skip_by (skips_segment segmentation segment) (counted_flag kind.Skip context (slice_index probs context))

---- Transform size ----

leaves_up_to : (greatest : TxSize) → 1 ≤ tx_number greatest → AllLeaves (tx_tree greatest) (λ number. tx_number (tx_of number) ≤ tx_number greatest)
leaves_up_to T4x4 h = absurd (omega arith)
leaves_up_to T8x8 h = (omega arith, omega arith)
leaves_up_to T16x16 h = (omega arith, (omega arith, omega arith))
leaves_up_to T32x32 h = (omega arith, (omega arith, (omega arith, omega arith)))

greatest_is : (size : BlockSize) → tx_number (tx_of (greatest_of size)) ≡ greatest_of size
greatest_is B4x4 = refl
greatest_is B4x8 = refl
greatest_is B8x4 = refl
greatest_is B8x8 = refl
greatest_is B8x16 = refl
greatest_is B16x8 = refl
greatest_is B16x16 = refl
greatest_is B16x32 = refl
greatest_is B32x16 = refl
greatest_is B32x32 = refl
greatest_is B32x64 = refl
greatest_is B64x32 = refl
greatest_is B64x64 = refl

up_to : (lists : TxLists) (greatest : TxSize) (context : ℕ) → 1 ≤ tx_number greatest → Yields (tx_symbol lists greatest context) (λ tx. tx_number tx ≤ tx_number greatest)
unfolding tx_symbol
up_to lists greatest context some =
    yields_bind (counted_tree (tx_kind greatest) (tx_number greatest * context) (tx_tree greatest) (drop (tx_number greatest * context) (tx_probs lists greatest)))
    (λ number. settle (tx_of number)) (λ number. tx_number (tx_of number) ≤ tx_number greatest) (λ tx. tx_number tx ≤ tx_number greatest)
    (tree_yields (tx_kind greatest) (tx_number greatest * context) (tx_tree greatest) (drop (tx_number greatest * context) (tx_probs lists greatest))
    (λ number. tx_number (tx_of number) ≤ tx_number greatest) (leaves_up_to greatest some))
    (λ number fits. yields_one (tx_of number) (λ tx. tx_number tx ≤ tx_number greatest) fits)

said : (b c : Bool) → b && not c ≡ true → c ≡ false
said true false h = refl
said true true h = no_true h
said false c h = no_true h

size_by : (b : Bool) (most : ℕ) (s : Syntax ℕ Rule (Settled TxSize)) (other : TxSize) → (b ≡ true → Yields s (λ tx. tx_number tx ≤ most))
    → Yields (if b then s else settle other) (λ tx. (b ≡ true → tx_number tx ≤ most) × (b ≡ false → tx ≡ other))
size_by true most s other h =
    yields_map s (λ tx. tx_number tx ≤ most) (λ tx. (true ≡ true → tx_number tx ≤ most) × (true ≡ false → tx ≡ other)) (h refl)
    (λ tx fits. (λ any. fits, λ h. no_false h))
size_by false most s other h = yields_one other (λ tx. (false ≡ true → tx_number tx ≤ most) × (false ≡ false → tx ≡ other)) (λ h. no_true h, λ any. refl)

size_answered : (mode : TxMode) (lists : TxLists) (context : ℕ) (size : BlockSize) → Yields (read_tx_size mode lists context size) (CanTx mode size)
unfolding read_tx_size
size_answered mode lists context size =
    size_by (says_tx mode size) (greatest_of size) (tx_symbol lists (tx_of (greatest_of size)) context) (tx_of (greatest_allowed mode size))
    (λ says. subst (λ most. Yields (tx_symbol lists (tx_of (greatest_of size)) context) (λ tx. tx_number tx ≤ most)) (greatest_is size)
    (up_to lists (tx_of (greatest_of size)) context (some_transform size (said (is_selected mode) (is_below_8x8 size) says))))

---- Modes ----

one_answered : (edge : EdgeModes) → Yields (uncounted (one_mode edge)) (λ luma. AreRows luma × AreColumns luma)
unfolding one_mode
one_answered edge =
    yields_after (default_intra_mode edge.above_first edge.left_first) (λ mode. done (mode ∷ mode ∷ mode ∷ mode ∷ [])) (λ luma. AreRows luma × AreColumns luma)
    (λ mode. yields_uncounted (mode ∷ mode ∷ mode ∷ mode ∷ []) (λ luma. AreRows luma × AreColumns luma) ((refl, refl), (refl, refl)))

rows_answered : (edge : EdgeModes) → Yields (uncounted (two_rows edge)) AreRows
unfolding two_rows
rows_answered edge =
    yields_after (default_intra_mode edge.above_first edge.left_first)
    (λ upper. default_intra_mode upper edge.left_second >>= λ lower. done (upper ∷ upper ∷ lower ∷ lower ∷ [])) AreRows
    (λ upper. yields_after (default_intra_mode upper edge.left_second) (λ lower. done (upper ∷ upper ∷ lower ∷ lower ∷ [])) AreRows
    (λ lower. yields_uncounted (upper ∷ upper ∷ lower ∷ lower ∷ []) AreRows (refl, refl)))

columns_answered : (edge : EdgeModes) → Yields (uncounted (two_columns edge)) AreColumns
unfolding two_columns
columns_answered edge =
    yields_after (default_intra_mode edge.above_first edge.left_first)
    (λ left. default_intra_mode edge.above_second left >>= λ right. done (left ∷ right ∷ left ∷ right ∷ [])) AreColumns
    (λ left. yields_after (default_intra_mode edge.above_second left) (λ right. done (left ∷ right ∷ left ∷ right ∷ [])) AreColumns
    (λ right. yields_uncounted (left ∷ right ∷ left ∷ right ∷ []) AreColumns (refl, refl)))

by_size_answered : (size : BlockSize) (edge : EdgeModes) → Yields (uncounted (modes_by_size size edge)) (CanLuma size)
unfolding modes_by_size
by_size_answered B4x4 edge = yields_all (uncounted (four_modes edge))
by_size_answered B4x8 edge = columns_answered edge
by_size_answered B8x4 edge = rows_answered edge
by_size_answered B8x8 edge = one_answered edge
by_size_answered B8x16 edge = one_answered edge
by_size_answered B16x8 edge = one_answered edge
by_size_answered B16x16 edge = one_answered edge
by_size_answered B16x32 edge = one_answered edge
by_size_answered B32x16 edge = one_answered edge
by_size_answered B32x32 edge = one_answered edge
by_size_answered B32x64 edge = one_answered edge
by_size_answered B64x32 edge = one_answered edge
by_size_answered B64x64 edge = one_answered edge

luma_answered : (size : BlockSize) (edge : EdgeModes) → Yields (uncounted (default_luma_modes size edge)) (CanLuma size)
luma_answered size edge = rw (luma_by_size size edge) (by_size_answered size edge)

---- Blocks ----

beside_answered : (header : Header) (modes : Modes) (contexts : ContextLists) (above left : Option BlockInfo) (at : BlockAt)
    → Yields (mode_info_beside header.params.segmentation modes.tx_mode contexts above left at) (CanPutIntraFrame header modes at)
unfolding mode_info_beside intra_segment_id
beside_answered header modes contexts above left at =
    let segmentation = header.params.segmentation in
    yields_bind (uncounted (intra_segment_id segmentation)) _ (CanSegment segmentation.enabled segmentation.map) (CanPutIntraFrame header modes at)
    (segment_answered segmentation.enabled segmentation.map)
    (λ segment is_segment. yields_bind (read_skip segmentation contexts.skip (skip_context above left) segment) _ (CanSkip segmentation segment) (CanPutIntraFrame header modes at)
    (skip_answered segmentation contexts.skip (skip_context above left) segment)
    (λ skip is_skip. yields_bind (read_tx_size modes.tx_mode contexts.tx (tx_context at.size above left) at.size) _ (CanTx modes.tx_mode at.size) (CanPutIntraFrame header modes at)
    (size_answered modes.tx_mode contexts.tx (tx_context at.size above left) at.size)
    (λ tx is_tx. yields_bind (uncounted (default_luma_modes at.size (edge_modes above left))) _ (CanLuma at.size) (CanPutIntraFrame header modes at)
    (luma_answered at.size (edge_modes above left))
    (λ luma is_luma. yields_bind (uncounted (default_uv_mode (last_mode luma))) _ (λ chroma. Unit) (CanPutIntraFrame header modes at)
    (yields_all (uncounted (default_uv_mode (last_mode luma))))
    (λ chroma any. yields_one (intra_block at segment skip tx luma chroma) (CanPutIntraFrame header modes at)
    (record { row = refl; col = refl; size = refl; segment = is_segment; unpredicted = refl; skip = is_skip; tx = is_tx; intra = is_luma }))))))

pub block_answered : (header : Header) (modes : Modes) (contexts : ContextLists) (earlier : List BlockInfo) (at : BlockAt)
    → Yields (intra_frame_mode_info header modes contexts earlier at) (CanPutIntraFrame header modes at)
unfolding intra_frame_mode_info
block_answered header modes contexts earlier at = beside_answered header modes contexts (above_of earlier at) (left_of earlier at) at

---- Partitions ----

split_answered : (other : Partition) (split : Bool) → (split_or other split ≡ other) ⊎ (split_or other split ≡ Split)
split_answered other true = inr refl
split_answered other false = inl refl

edge_answered : (p : ℕ) (other : Partition) → Yields (edge_symbol p other) (λ partition. (partition ≡ other) ⊎ (partition ≡ Split))
unfolding edge_symbol
edge_answered p other =
    yields_bind (uncounted (flag p)) (λ split. settle (split_or other split)) (λ split. Unit) (λ partition. (partition ≡ other) ⊎ (partition ≡ Split))
    (yields_all (uncounted (flag p)))
    (λ split any. yields_one (split_or other split) (λ partition. (partition ≡ other) ⊎ (partition ≡ Split)) (split_answered other split))

value_answered : (has_rows has_cols : Bool) (probs : List ℕ) → Yields (partition_value has_rows has_cols probs) (CanPartition has_rows has_cols)
unfolding partition_value
value_answered true true probs = yields_all (whole_symbol probs)
value_answered false true probs = edge_answered (slice_index probs 1) Horizontal
value_answered true false probs = edge_answered (slice_index probs 2) Vertical
value_answered false false probs = yields_one Split (λ partition. partition ≡ Split) refl

counted_answered : (has_rows has_cols : Bool) (probs : List ℕ) (context : ℕ) → Yields (partition has_rows has_cols probs context) (CanPartition has_rows has_cols)
unfolding partition
counted_answered has_rows has_cols probs context =
    yields_bind (partition_value has_rows has_cols probs) _ (CanPartition has_rows has_cols) (CanPartition has_rows has_cols) (value_answered has_rows has_cols probs)
    (λ chosen can. yields_bind (count (counted_symbol kind.Partition (3 * context) partition_tree (partition_number chosen))) _ (λ any. Unit) (CanPartition has_rows has_cols)
    (yields_all (count (counted_symbol kind.Partition (3 * context) partition_tree (partition_number chosen))))
    (λ counted any. yields_one chosen (CanPartition has_rows has_cols) can))

pub partition_answered : (intra : Bool) (probs : List ℕ) (earlier : List BlockInfo) (frame : FramePlaces) (at : SquareAt)
    → Yields (partition_at intra probs earlier frame at) (CanPartitionAt frame at)
unfolding partition_at
partition_answered intra probs earlier frame at =
    let context = square_context earlier frame at in
    counted_answered (nat_lt (at.row + half_of at.level) frame.rows) (nat_lt (at.col + half_of at.level) frame.cols) (partition_probs intra probs context) context
