-- What a block of an inter frame says first is put in one way.
use Rattle.std.proofs.Common.{◌≡◌, ℕ, List, [], ◌++◌, Bool, true, false, not, ◌&&◌, refl, sym, subst, ap}
use Rattle.std.specs.Prelude.{Option, Some, None, slice_index, if◌then◌else◌}
use Rattle.vp9_types.specs.Trees.{tree_symbol}
use Rattle.vp9_types.specs.declared.block.BlockSize.{BlockSize}
use Rattle.vp9_types.specs.declared.block.TxMode.{TxMode}
use Rattle.vp9_types.specs.declared.block.TxSize.{TxSize}
use Rattle.vp9_tables.specs.SymbolTrees.{segment_tree}
use Rattle.bool_decoder.specs.Bools.{flag}
use Rattle.bool_encoder.specs.Part.{NumberPart}
use Rattle.bool_lists.specs.BoolLists.{HasPut, one_bool, tree_bools}
use Rattle.bool_lists.proofs.Ways.{flag_way, tree_way, spells_on, spells_none}
use Rattle.frame_headers.specs.declared.segments.FeatureReference.{FeatureReference}
use Rattle.frame_headers.specs.declared.segments.MapUpdate.{MapUpdate}
use Rattle.frame_headers.specs.declared.segments.Segmentation.{Segmentation}
use Rattle.prob_contexts.specs.ProbLists.{ContextLists, TxLists}
use Rattle.block_plan.specs.declared.block.BlockInfo.{BlockInfo}
use Rattle.counting_reader.specs.Counting.{settle}
use Rattle.bool_encoder.specs.CountedBools.{PutsValue}
use Rattle.mode_syntax.specs.Elements.{skip_context, tx_context}
use Rattle.inter_contexts.specs.Contexts.{is_inter_context, predicted_context}
use Rattle.inter_modes.specs.BlockStarts.{block_start, segment_by_tree, inter_segment_id, is_inter_by, read_is_inter, segment_by, segment_of, segment_reference, temporal_segment, tx_size, updated_segment}
use Rattle.inter_modes.specs.declared.starts.BlockStart.{BlockStart}
use Rattle.inter_modes.specs.declared.starts.SegmentOf.{SegmentOf}
use Rattle.block_lists.specs.IntraLists.{spelled_skip}
use Rattle.block_lists.specs.StartLists.{spelled_inter_segment, spelled_is_inter, spelled_segment_by, spelled_start, spelled_temporal, spelled_tx_if, spelled_updated}
use Rattle.block_lists.proofs.Counted.{two_put, settle_put, uncounted_put, flag_put}
use Rattle.block_lists.proofs.IntraWays.{skip_way, tx_way}

-- nothing was put
none_put : {A : Type 0} (x y : A) (old new : NumberPart) → PutsValue (settle x) old y new → HasPut old [] new
none_put x y old new h = subst (λ m. HasPut old [] m) (settle_put x y old new h).1 (spells_none old)

record IsCodedSegment (tree : List ℕ) (segment : SegmentOf) (old new : NumberPart) : Type 0 where
  is : segment.predicted ≡ false
  put : HasPut old (tree_bools segment_tree tree segment.id) new

coded_way : (tree : List ℕ) (segment : SegmentOf) (old new : NumberPart) → PutsValue (segment_by_tree tree) old segment new → IsCodedSegment tree segment old new
unfolding segment_by_tree
coded_way tree segment old new h =
    let a = two_put _ _ old new segment h in
    let g = tree_way segment_tree tree a.x old a.mid refl (uncounted_put (tree_symbol segment_tree tree) a.x old a.mid a.first) in
    let e = settle_put {A = SegmentOf} (segment_of false a.x) segment a.mid new a.second in
    subst (λ (p : SegmentOf × NumberPart). IsCodedSegment tree p.0 old p.1) (λ i. (e.0 i, e.1 i)) (record { is = refl; put = g })

temporal_way : (update : MapUpdate) (context least : ℕ) (segment : SegmentOf) (old new : NumberPart) → PutsValue (temporal_segment update context least) old segment new
    → HasPut old (spelled_temporal update context segment) new
unfolding temporal_segment spelled_temporal
temporal_way update context least segment old new h =
    let a = two_put _ _ old new segment h in
    by_flag a.x a.mid (flag_way _ a.x old a.mid (uncounted_put (flag (slice_index update.prediction context)) a.x old a.mid a.first)) a.second
  where
    by_flag : (predicted : Bool) (mid : NumberPart) → HasPut old (one_bool (slice_index update.prediction context) predicted) mid
        → PutsValue (if predicted then settle (segment_of true least) else segment_by_tree update.tree) mid segment new
        → HasPut old (if segment.predicted then one_bool (slice_index update.prediction context) true
        else (one_bool (slice_index update.prediction context) false ++ tree_bools segment_tree update.tree segment.id)) new
    by_flag true mid one g =
        let e = settle_put {A = SegmentOf} (segment_of true least) segment mid new g in
        let is : segment.predicted ≡ true = ap (λ (s : SegmentOf). s.predicted) (sym e.0) in
        rw is (subst (λ m. HasPut old (one_bool (slice_index update.prediction context) true) m) e.1 one)
    by_flag false mid one g = let c = coded_way update.tree segment mid new g in rw c.is (spells_on old mid new _ _ c.put one)

updated_way : (update : MapUpdate) (context least : ℕ) (segment : SegmentOf) (old new : NumberPart) → PutsValue (updated_segment update context least) old segment new
    → HasPut old (spelled_updated update context segment) new
unfolding updated_segment spelled_updated
updated_way update context least segment old new h = by_test update.temporal h
  where
    by_test : (b : Bool) → PutsValue (if b then temporal_segment update context least else segment_by_tree update.tree) old segment new
        → HasPut old (if b then spelled_temporal update context segment else tree_bools segment_tree update.tree segment.id) new
    by_test true g = temporal_way update context least segment old new g
    by_test false g = (coded_way update.tree segment old new g).put

segment_by_way : (map : Option MapUpdate) (context least : ℕ) (segment : SegmentOf) (old new : NumberPart) → PutsValue (segment_by map context least) old segment new → HasPut old (spelled_segment_by map context segment) new
unfolding segment_by spelled_segment_by
segment_by_way None context least segment old new h = none_put _ segment old new h
segment_by_way (Some update) context least segment old new h = updated_way update context least segment old new h

segment_way : (segmentation : Segmentation) (context least : ℕ) (segment : SegmentOf) (old new : NumberPart) → PutsValue (inter_segment_id segmentation context least) old segment new
    → HasPut old (spelled_inter_segment segmentation context segment) new
unfolding inter_segment_id spelled_inter_segment
segment_way segmentation context least segment old new h = by_test segmentation.enabled h
  where
    by_test : (b : Bool) → PutsValue (if b then segment_by segmentation.map context least else settle (segment_of false 0)) old segment new
        → HasPut old (if b then spelled_segment_by segmentation.map context segment else []) new
    by_test true g = segment_by_way segmentation.map context least segment old new g
    by_test false g = none_put _ segment old new g

is_inter_way : (feature : Option FeatureReference) (probs : List ℕ) (context : ℕ) (is_inter : Bool) (old new : NumberPart) → PutsValue (is_inter_by feature probs context) old is_inter new
    → HasPut old (spelled_is_inter feature probs context is_inter) new
unfolding is_inter_by spelled_is_inter
is_inter_way (Some reference) probs context is_inter old new h = none_put _ is_inter old new h
is_inter_way None probs context is_inter old new h = flag_put _ _ _ is_inter old new h

tx_if_way : (mode : TxMode) (lists : TxLists) (context : ℕ) (size : BlockSize) (coded : Bool) (tx : TxSize) (old new : NumberPart) → PutsValue (tx_size mode lists context size coded) old tx new
    → HasPut old (spelled_tx_if mode lists context size coded tx) new
unfolding tx_size spelled_tx_if
tx_if_way mode lists context size true tx old new h = tx_way mode lists context size tx old new h
tx_if_way mode lists context size false tx old new h = none_put _ tx old new h

pub start_way : (segmentation : Segmentation) (mode : TxMode) (contexts : ContextLists) (above left : Option BlockInfo) (size : BlockSize) (least : ℕ) (start : BlockStart) (old new : NumberPart)
    → PutsValue (block_start segmentation mode contexts above left size least) old start new → HasPut old (spelled_start segmentation mode contexts above left size start) new
unfolding block_start spelled_start read_is_inter
start_way segmentation mode contexts above left size least start old new h =
    let a = two_put _ _ old new start h in
    let b = two_put _ _ a.mid new start a.second in
    let c = two_put _ _ b.mid new start b.second in
    let d = two_put _ _ c.mid new start c.second in
    let s : BlockStart = record { segment = a.x; skip = b.x; is_inter = c.x; tx = d.x } in
    let last = settle_put {A = BlockStart} s start d.mid new d.second in
    let two = spells_on old a.mid b.mid _ _ (skip_way segmentation contexts.skip (skip_context above left) a.x.id b.x a.mid b.mid b.first) (segment_way segmentation (predicted_context above left) least a.x old a.mid a.first) in
    let three = spells_on old b.mid c.mid _ _ (is_inter_way (segment_reference segmentation a.x.id) contexts.inter.is_inter (is_inter_context above left) c.x b.mid c.mid c.first) two in
    let four = spells_on old c.mid d.mid _ _ (tx_if_way mode contexts.tx (tx_context size above left) size (not (c.x && b.x)) d.x c.mid d.mid d.first) three in
    subst (λ (p : BlockStart × NumberPart). HasPut old (spelled_inter_segment segmentation (predicted_context above left) p.0.segment
    ++ spelled_skip segmentation contexts.skip (skip_context above left) p.0.segment.id p.0.skip
    ++ spelled_is_inter (segment_reference segmentation p.0.segment.id) contexts.inter.is_inter (is_inter_context above left) p.0.is_inter
    ++ spelled_tx_if mode contexts.tx (tx_context size above left) size (not (p.0.is_inter && p.0.skip)) p.0.tx) p.1) (λ i. (last.0 i, last.1 i)) four
