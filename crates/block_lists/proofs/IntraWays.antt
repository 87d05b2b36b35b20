-- The partitions and blocks of intra frames are put in one way.
use Rattle.std.proofs.Common.{◌≡◌, ℕ, ◌*◌, List, [], ◌∷◌, ◌++◌, Bool, true, false, not, ◌&&◌, drop, refl, sym, subst, ap, ◌∙◌}
use Rattle.std.specs.Prelude.{Option, Some, None, slice_index, if◌then◌else◌}
use Rattle.std.specs.List.{flat_map}
use Rattle.vp9_types.specs.Trees.{tree_symbol}
use Rattle.vp9_types.specs.declared.block.BlockSize.{BlockSize}
use Rattle.vp9_types.specs.declared.block.BlockSize.TheVariants.{B4x4, B4x8, B8x4, B8x8, B8x16, B16x8, B16x16, B16x32, B32x16, B32x32, B32x64, B64x32, B64x64}
use Rattle.vp9_types.specs.declared.block.IntraMode.{IntraMode}
use Rattle.vp9_types.specs.declared.block.Partition.{Partition}
use Rattle.vp9_types.specs.declared.block.Partition.TheVariants.{Horizontal, Vertical, Split}
use Rattle.vp9_types.specs.Syntax.{done}
use Rattle.vp9_types.specs.declared.block.Modes.{Modes}
use Rattle.vp9_types.specs.declared.block.TxMode.{TxMode}
use Rattle.vp9_types.specs.declared.block.TxSize.{TxSize}
use Rattle.vp9_types.specs.declared.block.TxSize.TheVariants.{T4x4, T8x8, T16x16, T32x32}
use Rattle.vp9_tables.specs.BlockTables.{greatest_of}
use Rattle.vp9_tables.specs.Numbers.{partition_number, intra_number, tx_number, tx_of}
use Rattle.vp9_tables.specs.SymbolTrees.{partition_tree, intra_mode_tree, segment_tree, tx8_tree, tx16_tree, tx32_tree}
use Rattle.frame_headers.specs.declared.header.Header.{Header}
use Rattle.frame_headers.specs.declared.segments.MapUpdate.{MapUpdate}
use Rattle.frame_headers.specs.declared.segments.Segmentation.{Segmentation}
use Rattle.prob_contexts.specs.ProbLists.{ContextLists, TxLists}
use Rattle.prob_contexts.specs.declared.kind.ProbKind.TheVariants as kind
use Rattle.counting_reader.specs.CountedSymbols.{counted_flag, has_leaf}
use Rattle.block_geometry.specs.BlockSizes.{greatest_allowed, is_below_8x8}
use Rattle.block_geometry.specs.declared.transform_blocks.FramePlaces.{FramePlaces}
use Rattle.block_plan.specs.declared.block.BlockAt.{BlockAt}
use Rattle.block_plan.specs.declared.block.BlockInfo.{BlockInfo}
use Rattle.mode_syntax.proofs.BySize.{luma_by_size}
use Rattle.mode_syntax.specs.Code.{four_modes, modes_by_size, one_mode, two_columns, two_rows}
use Rattle.mode_syntax.specs.Elements.{coded_segment, intra_segment_id, is_selected, read_skip, read_tx_size, skip_context, skips_segment, tx_context, tx_probs, tx_symbol, tx_tree}
use Rattle.mode_syntax.specs.IntraModes.{default_intra_mode, default_uv_mode, edge_modes, intra_mode_symbol, intra_of, last_mode, default_luma_modes}
use Rattle.mode_syntax.specs.IntraModeInfo.{intra_frame_mode_info, mode_info_beside}
use Rattle.mode_syntax.specs.declared.intra_modes.EdgeModes.{EdgeModes}
use Rattle.mode_syntax.specs.declared.square_at.SquareAt.{SquareAt}
use Rattle.block_lists.specs.IntraLists.{chroma_of, luma_of, mode_of, spelled_beside, spelled_default, spelled_default_luma, spelled_default_of, spelled_intra_frame, spelled_intra_mode, spelled_segment, spelled_skip, spelled_tx, spelled_tx_symbol, spelled_uv}
use Rattle.bool_encoder.specs.Part.{NumberPart}
use Rattle.bool_encoder.specs.WrittenBools.{Puts}
use Rattle.bool_lists.specs.BoolLists.{BoolList, HasPut, is_distinct, one_bool, tree_bools}
use Rattle.bool_lists.proofs.Ways.{between, of_leaf, flag_way, has_one, tree_way, spells_on, spells_none, spells_same}
use Rattle.bool_encoder.specs.CountedBools.{PutsValue}
use Rattle.counting_reader.specs.Counting.{settle, uncounted}
use Rattle.mode_syntax.specs.Partitions.{edge_symbol, partition, partition_at, partition_of, partition_value, split_or, whole_symbol}
use Rattle.block_lists.specs.PartitionLists.{is_split, spelled_partition, spelled_partition_at}
use Rattle.block_lists.proofs.Counted.{two_put, settle_put, count_put, uncounted_put, flag_put, tree_put}

---- Partitions ----

partition_numbers : (n : ℕ) → has_leaf partition_tree n ≡ true → partition_number (partition_of n) ≡ n
partition_numbers n there = of_leaf (λ n. partition_number (partition_of n) ≡ n) partition_tree n (refl, (refl, (refl, refl))) there

whole_way : (probs : List ℕ) (p : Partition) (old new : NumberPart) → PutsValue (whole_symbol probs) old p new → HasPut old (tree_bools partition_tree probs (partition_number p)) new
unfolding whole_symbol
whole_way probs p old new h =
    let a = two_put (uncounted (tree_symbol partition_tree probs)) (λ number. settle (partition_of number)) old new p h in
    let g = uncounted_put (tree_symbol partition_tree probs) a.x old a.mid a.first in
    let e = settle_put (partition_of a.x) p a.mid new a.second in
    let is : a.x ≡ partition_number p = sym (partition_numbers a.x (has_one partition_tree probs a.x old a.mid g)) ∙ ap partition_number e.0 in
    subst (λ n. HasPut old (tree_bools partition_tree probs n) new) is (subst (λ m. HasPut old (tree_bools partition_tree probs a.x) m) e.1 (tree_way partition_tree probs a.x old a.mid refl g))

edge_split : (other : Partition) (b : Bool) → is_split other ≡ false → is_split (split_or other b) ≡ b
edge_split other true h = refl
edge_split other false h = h

edge_way : (q : ℕ) (other p : Partition) (old new : NumberPart) → is_split other ≡ false → PutsValue (edge_symbol q other) old p new → HasPut old (one_bool q (is_split p)) new
unfolding edge_symbol
edge_way q other p old new not_split h =
    let a = two_put (uncounted (Rattle.bool_decoder.specs.Bools.flag q)) (λ split. settle (split_or other split)) old new p h in
    let g = flag_way q a.x old a.mid (uncounted_put (Rattle.bool_decoder.specs.Bools.flag q) a.x old a.mid a.first) in
    let e = settle_put (split_or other a.x) p a.mid new a.second in
    let is : a.x ≡ is_split p = sym (edge_split other a.x not_split) ∙ ap is_split e.0 in
    subst (λ b. HasPut old (one_bool q b) new) is (subst (λ m. HasPut old (one_bool q a.x) m) e.1 g)

value_way : (has_rows has_cols : Bool) (probs : List ℕ) (p : Partition) (old new : NumberPart) → PutsValue (partition_value has_rows has_cols probs) old p new → HasPut old (spelled_partition has_rows has_cols probs p) new
unfolding partition_value spelled_partition
value_way true true probs p old new h = whole_way probs p old new h
value_way true false probs p old new h = edge_way (slice_index probs 2) Vertical p old new refl h
value_way false true probs p old new h = edge_way (slice_index probs 1) Horizontal p old new refl h
value_way false false probs p old new h = subst (λ m. HasPut old [] m) (settle_put Split p old new h).1 (spells_none old)

partition_way : (has_rows has_cols : Bool) (probs : List ℕ) (context : ℕ) (p : Partition) (old new : NumberPart) → PutsValue (partition has_rows has_cols probs context) old p new
    → HasPut old (spelled_partition has_rows has_cols probs p) new
unfolding partition
partition_way has_rows has_cols probs context p old new h =
    let a = two_put _ _ old new p h in
    let b = two_put _ _ a.mid new p a.second in
    let same = count_put _ b.x a.mid b.mid b.first in
    let e = settle_put a.x p b.mid new b.second in
    let g = value_way has_rows has_cols probs a.x old a.mid a.first in
    subst (λ q. HasPut old (spelled_partition has_rows has_cols probs q) new) e.0 (subst (λ m. HasPut old (spelled_partition has_rows has_cols probs a.x) m) (same ∙ e.1) g)

pub at_way : (intra : Bool) (probs : List ℕ) (earlier : List BlockInfo) (frame : FramePlaces) (at : SquareAt) (p : Partition) (old new : NumberPart) →
    PutsValue (partition_at intra probs earlier frame at) old p new → HasPut old (spelled_partition_at intra probs earlier frame at p) new
unfolding partition_at spelled_partition_at
at_way intra probs earlier frame at p old new h = partition_way _ _ _ _ p old new h

---- Segment, skip, transform size ----

segment_way : (enabled : Bool) (map : Option MapUpdate) (x : ℕ) (old new : NumberPart) → Puts (coded_segment enabled map) old x new → HasPut old (spelled_segment enabled map x) new
unfolding coded_segment spelled_segment
segment_way true (Some update) x old new h = tree_way segment_tree update.tree x old new refl h
segment_way true None x old new h = subst (λ m. HasPut old [] m) h.1 (spells_none old)
segment_way false map x old new h = subst (λ m. HasPut old [] m) h.1 (spells_none old)

pub skip_way : (segmentation : Segmentation) (probs : List ℕ) (context segment : ℕ) (skip : Bool) (old new : NumberPart) → PutsValue (read_skip segmentation probs context segment) old skip new
    → HasPut old (spelled_skip segmentation probs context segment skip) new
unfolding read_skip spelled_skip
skip_way segmentation probs context segment skip old new h = by_test (skips_segment segmentation segment) h
  where
    by_test : (b : Bool) → PutsValue (if b then settle true else counted_flag kind.Skip context (slice_index probs context)) old skip new
        → HasPut old (if b then [] else one_bool (slice_index probs context) skip) new
    by_test true g = subst (λ m. HasPut old [] m) (settle_put true skip old new g).1 (spells_none old)
    by_test false g = flag_put kind.Skip context (slice_index probs context) skip old new g

tx_numbers : (greatest : TxSize) (n : ℕ) → has_leaf (tx_tree greatest) n ≡ true → tx_number (tx_of n) ≡ n
tx_numbers T4x4 n there = of_leaf (λ n. tx_number (tx_of n) ≡ n) tx8_tree n (refl, refl) there
tx_numbers T8x8 n there = of_leaf (λ n. tx_number (tx_of n) ≡ n) tx8_tree n (refl, refl) there
tx_numbers T16x16 n there = of_leaf (λ n. tx_number (tx_of n) ≡ n) tx16_tree n (refl, (refl, refl)) there
tx_numbers T32x32 n there = of_leaf (λ n. tx_number (tx_of n) ≡ n) tx32_tree n (refl, (refl, (refl, refl))) there

tx_distinct : (greatest : TxSize) → is_distinct (tx_tree greatest) ≡ true
tx_distinct T4x4 = refl
tx_distinct T8x8 = refl
tx_distinct T16x16 = refl
tx_distinct T32x32 = refl

tx_symbol_way : (lists : TxLists) (greatest : TxSize) (context : ℕ) (tx : TxSize) (old new : NumberPart) → PutsValue (tx_symbol lists greatest context) old tx new
    → HasPut old (spelled_tx_symbol lists greatest context tx) new
unfolding tx_symbol spelled_tx_symbol
tx_symbol_way lists greatest context tx old new h =
    let probs = drop (tx_number greatest * context) (tx_probs lists greatest) in
    let a = two_put _ _ old new tx h in
    let g = tree_put _ _ (tx_tree greatest) probs a.x old a.mid (tx_distinct greatest) a.first in
    let e = settle_put (tx_of a.x) tx a.mid new a.second in
    let is : a.x ≡ tx_number tx = sym (tx_numbers greatest a.x g.1) ∙ ap tx_number e.0 in
    subst (λ n. HasPut old (tree_bools (tx_tree greatest) probs n) new) is (subst (λ m. HasPut old (tree_bools (tx_tree greatest) probs a.x) m) e.1 g.0)

pub tx_way : (mode : TxMode) (lists : TxLists) (context : ℕ) (size : BlockSize) (tx : TxSize) (old new : NumberPart) → PutsValue (read_tx_size mode lists context size) old tx new
    → HasPut old (spelled_tx mode lists context size tx) new
unfolding read_tx_size spelled_tx
tx_way mode lists context size tx old new h = by_test (is_selected mode && not (is_below_8x8 size)) h
  where
    by_test : (b : Bool) → PutsValue (if b then tx_symbol lists (tx_of (greatest_of size)) context else settle (tx_of (greatest_allowed mode size))) old tx new
        → HasPut old (if b then spelled_tx_symbol lists (tx_of (greatest_of size)) context tx else []) new
    by_test true g = tx_symbol_way lists (tx_of (greatest_of size)) context tx old new g
    by_test false g = subst (λ m. HasPut old [] m) (settle_put _ tx old new g).1 (spells_none old)

---- Modes ----

pub intra_numbers : (n : ℕ) → has_leaf intra_mode_tree n ≡ true → intra_number (intra_of n) ≡ n
intra_numbers n there = of_leaf (λ n. intra_number (intra_of n) ≡ n) intra_mode_tree n
    (refl, (refl, (refl, ((refl, (refl, refl)), (refl, (refl, (refl, refl))))))) there

pub mode_way : (probs : List ℕ) (mode : IntraMode) (old new : NumberPart) → Puts (intra_mode_symbol probs) old mode new → HasPut old (spelled_intra_mode probs mode) new
unfolding intra_mode_symbol spelled_intra_mode
mode_way probs mode old new h =
    let a = between (tree_symbol intra_mode_tree probs) (λ number. done (intra_of number)) old new mode h in
    let is : a.x ≡ intra_number mode = sym (intra_numbers a.x (has_one intra_mode_tree probs a.x old a.mid a.first)) ∙ ap intra_number a.second.0 in
    subst (λ n. HasPut old (tree_bools intra_mode_tree probs n) new) is (subst (λ m. HasPut old (tree_bools intra_mode_tree probs a.x) m) a.second.1 (tree_way intra_mode_tree probs a.x old a.mid refl a.first))

default_way : (above left mode : IntraMode) (old new : NumberPart) → Puts (default_intra_mode above left) old mode new → HasPut old (spelled_default above left mode) new
unfolding default_intra_mode spelled_default
default_way above left mode old new h = mode_way _ mode old new h

uv_way : (luma mode : IntraMode) (old new : NumberPart) → Puts (default_uv_mode luma) old mode new → HasPut old (spelled_uv luma mode) new
unfolding default_uv_mode spelled_uv
uv_way luma mode old new h = mode_way _ mode old new h

-- those of some quarters
abbrev OfQuarters : EdgeModes → List ℕ → List IntraMode → BoolList
OfQuarters edge quarters luma = flat_map (spelled_default_of edge luma) quarters

one_way : (edge : EdgeModes) (luma : List IntraMode) (old new : NumberPart) → Puts (one_mode edge) old luma new → HasPut old (OfQuarters edge (0 ∷ []) luma) new
unfolding one_mode
one_way edge luma old new h =
    let a = between _ _ old new luma h in
    let one = spells_same old a.mid _ (default_way edge.above_first edge.left_first a.x old a.mid a.first) in
    subst (λ l. HasPut old (OfQuarters edge (0 ∷ []) l) new) a.second.0
    (subst (λ m. HasPut old (OfQuarters edge (0 ∷ []) (a.x ∷ a.x ∷ a.x ∷ a.x ∷ [])) m) a.second.1 one)

rows_way : (edge : EdgeModes) (luma : List IntraMode) (old new : NumberPart) → Puts (two_rows edge) old luma new → HasPut old (spelled_default_luma B8x4 edge luma) new
unfolding two_rows spelled_default_luma
rows_way edge luma old new h =
    let a = between _ _ old new luma h in
    let b = between _ _ a.mid new luma a.second in
    let one = spells_same a.mid b.mid _ (default_way a.x edge.left_second b.x a.mid b.mid b.first) in
    let two = spells_on old a.mid b.mid _ _ one (default_way edge.above_first edge.left_first a.x old a.mid a.first) in
    subst (λ l. HasPut old (OfQuarters edge (0 ∷ 2 ∷ []) l) new) b.second.0
    (subst (λ m. HasPut old (OfQuarters edge (0 ∷ 2 ∷ []) (a.x ∷ a.x ∷ b.x ∷ b.x ∷ [])) m) b.second.1 two)

columns_way : (edge : EdgeModes) (luma : List IntraMode) (old new : NumberPart) → Puts (two_columns edge) old luma new → HasPut old (spelled_default_luma B4x8 edge luma) new
unfolding two_columns spelled_default_luma
columns_way edge luma old new h =
    let a = between _ _ old new luma h in
    let b = between _ _ a.mid new luma a.second in
    let one = spells_same a.mid b.mid _ (default_way edge.above_second a.x b.x a.mid b.mid b.first) in
    let two = spells_on old a.mid b.mid _ _ one (default_way edge.above_first edge.left_first a.x old a.mid a.first) in
    subst (λ l. HasPut old (OfQuarters edge (0 ∷ 1 ∷ []) l) new) b.second.0
    (subst (λ m. HasPut old (OfQuarters edge (0 ∷ 1 ∷ []) (a.x ∷ b.x ∷ a.x ∷ b.x ∷ [])) m) b.second.1 two)

four_way : (edge : EdgeModes) (luma : List IntraMode) (old new : NumberPart) → Puts (four_modes edge) old luma new → HasPut old (spelled_default_luma B4x4 edge luma) new
unfolding four_modes spelled_default_luma
four_way edge luma old new h =
    let a = between _ _ old new luma h in
    let b = between _ _ a.mid new luma a.second in
    let c = between _ _ b.mid new luma b.second in
    let d = between _ _ c.mid new luma c.second in
    let one = spells_same c.mid d.mid _ (default_way b.x c.x d.x c.mid d.mid d.first) in
    let two = spells_on b.mid c.mid d.mid _ _ one (default_way a.x edge.left_second c.x b.mid c.mid c.first) in
    let three = spells_on a.mid b.mid d.mid _ _ two (default_way edge.above_second a.x b.x a.mid b.mid b.first) in
    let four = spells_on old a.mid d.mid _ _ three (default_way edge.above_first edge.left_first a.x old a.mid a.first) in
    subst (λ l. HasPut old (OfQuarters edge (0 ∷ 1 ∷ 2 ∷ 3 ∷ []) l) new) d.second.0
    (subst (λ m. HasPut old (OfQuarters edge (0 ∷ 1 ∷ 2 ∷ 3 ∷ []) (a.x ∷ b.x ∷ c.x ∷ d.x ∷ [])) m) d.second.1 four)

by_size_way : (size : BlockSize) (edge : EdgeModes) (luma : List IntraMode) (old new : NumberPart) → Puts (modes_by_size size edge) old luma new → HasPut old (spelled_default_luma size edge luma) new
unfolding modes_by_size spelled_default_luma
by_size_way B4x4 edge luma old new h = four_way edge luma old new h
by_size_way B4x8 edge luma old new h = columns_way edge luma old new h
by_size_way B8x4 edge luma old new h = rows_way edge luma old new h
by_size_way B8x8 edge luma old new h = one_way edge luma old new h
by_size_way B8x16 edge luma old new h = one_way edge luma old new h
by_size_way B16x8 edge luma old new h = one_way edge luma old new h
by_size_way B16x16 edge luma old new h = one_way edge luma old new h
by_size_way B16x32 edge luma old new h = one_way edge luma old new h
by_size_way B32x16 edge luma old new h = one_way edge luma old new h
by_size_way B32x32 edge luma old new h = one_way edge luma old new h
by_size_way B32x64 edge luma old new h = one_way edge luma old new h
by_size_way B64x32 edge luma old new h = one_way edge luma old new h
by_size_way B64x64 edge luma old new h = one_way edge luma old new h

luma_way : (size : BlockSize) (edge : EdgeModes) (luma : List IntraMode) (old new : NumberPart) → Puts (default_luma_modes size edge) old luma new → HasPut old (spelled_default_luma size edge luma) new
luma_way size edge luma old new h = by_size_way size edge luma old new (subst (λ s. Puts s old luma new) (luma_by_size size edge) h)

---- A block ----

beside_way : (segmentation : Segmentation) (tx_mode : TxMode) (contexts : ContextLists) (above left : Option BlockInfo) (at : BlockAt) (block : BlockInfo) (old new : NumberPart)
    → PutsValue (mode_info_beside segmentation tx_mode contexts above left at) old block new → HasPut old (spelled_beside segmentation tx_mode contexts above left at block) new
unfolding mode_info_beside spelled_beside intra_segment_id
beside_way segmentation tx_mode contexts above left at block old new h =
    let a = two_put _ _ old new block h in
    let b = two_put _ _ a.mid new block a.second in
    let c = two_put _ _ b.mid new block b.second in
    let d = two_put _ _ c.mid new block c.second in
    let e = two_put _ _ d.mid new block d.second in
    let last = settle_put _ block e.mid new e.second in
    let one = segment_way segmentation.enabled segmentation.map a.x old a.mid (uncounted_put _ a.x old a.mid a.first) in
    let two = spells_on old a.mid b.mid _ _ (skip_way segmentation contexts.skip (skip_context above left) a.x b.x a.mid b.mid b.first) one in
    let three = spells_on old b.mid c.mid _ _ (tx_way tx_mode contexts.tx (tx_context at.size above left) at.size c.x b.mid c.mid c.first) two in
    let four = spells_on old c.mid d.mid _ _ (luma_way at.size (edge_modes above left) d.x c.mid d.mid (uncounted_put _ d.x c.mid d.mid d.first)) three in
    let five = spells_on old d.mid e.mid _ _ (uv_way (last_mode d.x) e.x d.mid e.mid (uncounted_put _ e.x d.mid e.mid e.first)) four in
    subst (λ (q : BlockInfo). HasPut old (spelled_segment segmentation.enabled segmentation.map q.segment ++ spelled_skip segmentation contexts.skip (skip_context above left) q.segment q.skip
    ++ spelled_tx tx_mode contexts.tx (tx_context at.size above left) at.size q.tx ++ spelled_default_luma at.size (edge_modes above left) (luma_of q.prediction)
    ++ spelled_uv (mode_of (luma_of q.prediction) 3) (chroma_of q.prediction)) new) last.0
    (subst (λ m. HasPut old (spelled_segment segmentation.enabled segmentation.map a.x ++ spelled_skip segmentation contexts.skip (skip_context above left) a.x b.x
    ++ spelled_tx tx_mode contexts.tx (tx_context at.size above left) at.size c.x ++ spelled_default_luma at.size (edge_modes above left) d.x
    ++ spelled_uv (last_mode d.x) e.x) m) last.1 five)

pub intra_frame_way : (header : Header) (modes : Modes) (contexts : ContextLists) (earlier : List BlockInfo) (at : BlockAt) (block : BlockInfo) (old new : NumberPart) →
    PutsValue (intra_frame_mode_info header modes contexts earlier at) old block new → HasPut old (spelled_intra_frame header modes contexts earlier at block) new
unfolding intra_frame_mode_info spelled_intra_frame
intra_frame_way header modes contexts earlier at block old new h = beside_way _ _ contexts _ _ at block old new h
