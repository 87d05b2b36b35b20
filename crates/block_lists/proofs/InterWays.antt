-- The blocks of inter frames are put in one way.
use Rattle.std.proofs.Common.{◌≡◌, ℕ, ◌*◌, List, [], ◌∷◌, ◌++◌, Bool, true, false, ◌&&◌, drop, append_assoc, refl, sym, subst, ap, ◌∙◌}
use Rattle.std.specs.Prelude.{Option, Some, None, Result, Ok, Err, if◌then◌else◌}
use Rattle.std.specs.List.{flat_map}
use Rattle.vp9_types.specs.Syntax.{Syntax}
use Rattle.vp9_types.specs.declared.block.BlockSize.{BlockSize}
use Rattle.vp9_types.specs.declared.block.BlockSize.TheVariants.{B4x4, B4x8, B8x4, B8x8, B8x16, B16x8, B16x16, B16x32, B32x16, B32x32, B32x64, B64x32, B64x64}
use Rattle.vp9_types.specs.declared.block.InterMode.{InterMode}
use Rattle.vp9_types.specs.declared.block.InterMode.TheVariants.{Nearest, Near, Zero, New}
use Rattle.vp9_types.specs.declared.block.InterpFilter.{InterpFilter}
use Rattle.vp9_types.specs.declared.block.IntraMode.{IntraMode}
use Rattle.vp9_types.specs.declared.block.Modes.{Modes}
use Rattle.vp9_types.specs.declared.block.ReferenceFrame.{ReferenceFrame}
use Rattle.vp9_types.specs.declared.rule.Rule.{Rule}
use Rattle.vp9_types.specs.declared.rule.Rule.TheVariants.{BlockScale}
use Rattle.vp9_tables.specs.Numbers.{filter_number, inter_number, intra_number}
use Rattle.vp9_tables.specs.SymbolTrees.{filter_tree, inter_mode_tree, intra_mode_tree}
use Rattle.bool_encoder.specs.Part.{NumberPart}
use Rattle.bool_lists.specs.BoolLists.{BoolList, HasPut, tree_bools}
use Rattle.bool_lists.proofs.Ways.{of_leaf, spells_on, spells_none, spells_same}
use Rattle.frame_headers.specs.declared.header.FrameFilter.{FrameFilter}
use Rattle.frame_headers.specs.declared.header.FrameFilter.TheVariants.{Fixed, Switchable}
use Rattle.frame_headers.specs.declared.header.FrameKind.{FrameKind}
use Rattle.frame_headers.specs.declared.header.FrameKind.TheVariants.{Key, IntraOnly}
use Rattle.frame_headers.specs.declared.header.FrameKind.TheVariants as frame
use Rattle.frame_headers.specs.declared.header.FrameSize.{FrameSize}
use Rattle.frame_headers.specs.declared.header.Header.{Header}
use Rattle.frame_headers.specs.declared.header.References as header
use Rattle.prob_contexts.specs.ProbLists.{ContextLists, InterLists}
use Rattle.counting_reader.specs.CountedSymbols.{has_leaf}
use Rattle.counting_reader.specs.Counting.{Settled, settle}
use Rattle.bool_encoder.specs.CountedBools.{PutsValue}
use Rattle.block_geometry.specs.BlockSizes.{is_below_8x8}
use Rattle.block_plan.specs.BlockMvs.{no_vector, vector_at}
use Rattle.block_plan.specs.declared.block.BlockAt.{BlockAt}
use Rattle.block_plan.specs.declared.block.BlockInfo.{BlockInfo}
use Rattle.block_plan.specs.declared.block.InterPrediction.{InterPrediction}
use Rattle.block_plan.specs.declared.block.IntraPrediction.{IntraPrediction}
use Rattle.block_plan.specs.declared.block.Mv.{Mv}
use Rattle.block_plan.specs.declared.block.Prediction.TheVariants.{Intra, Inter}
use Rattle.block_plan.specs.declared.block.ReferenceFrames.{ReferenceFrames}
use Rattle.mode_syntax.specs.Elements.{skips_segment}
use Rattle.mode_syntax.specs.IntraModes.{intra_of, last_mode}
use Rattle.mv_prediction.specs.Candidates.{mode_context}
use Rattle.mv_prediction.specs.declared.search.SignBiases.{SignBiases}
use Rattle.mv_prediction.specs.declared.sub_blocks.NearVectors.{NearVectors}
use Rattle.inter_contexts.specs.Contexts.{filter_context}
use Rattle.inter_contexts.specs.BlockReferences.{allowed_or_rule, reference_in, second_in_range}
use Rattle.frame_headers.specs.References.{has_allowed_scale}
use Rattle.inter_modes.proofs.QuartersBySize.{luma_of_size, quarters_of_size}
use Rattle.inter_modes.specs.Code.{four_coded_modes, four_quarters, coded_by_size, one_coded_mode, quarters_by_size, quarter_columns, coded_mode_columns, coded_mode_rows, quarter_rows}
use Rattle.inter_modes.specs.IntraBlocks.{intra_block_mode_info, intra_mode as coded_intra_mode, luma_modes, uv_mode as coded_uv_mode}
use Rattle.inter_modes.specs.ModeInfo.{BlockSources, InterFrame, block_mode, block_of_quarters, block_with, by_kind, checked_references, filter_of_symbol, inter_block, inter_frame_block, inter_frame_mode_info, inter_prediction, interp_filter, intra_coded_block, intra_frame_block, mode_info, quarters_prediction, whole_block, whole_prediction}
use Rattle.inter_modes.specs.BlockStarts.{segment_reference}
use Rattle.inter_modes.specs.BlockVectors.{Sources, best_mv, block_vector, block_vectors, carried, inter_mode, inter_of, near_of_block, quarter, quarter_vector, quarter_vectors, quarters, vector_of_mode, with_second, ◌>>?◌}
use Rattle.inter_modes.specs.declared.quarters.Quarter.{Quarter}
use Rattle.inter_modes.specs.declared.quarters.QuartersBefore.{QuartersBefore}
use Rattle.inter_modes.specs.declared.starts.BlockStart.{BlockStart}
use Rattle.block_lists.specs.InterLists.{spelled_block_mode, spelled_by_kind, spelled_by_prediction, spelled_filter, spelled_inter_beside, spelled_inter_mode, spelled_intra, spelled_luma, spelled_mode, spelled_mode_info, spelled_modes, spelled_of_quarters, spelled_prediction, spelled_quarter, spelled_quarter_of, spelled_quarters, spelled_second, spelled_vector, spelled_vectors, spelled_whole, start_of}
use Rattle.block_lists.specs.IntraLists.{spelled_intra_frame}
use Rattle.block_lists.specs.ReferenceLists.{spelled_references}
use Rattle.block_lists.proofs.Counted.{two_put, settle_put, tree_put}
use Rattle.block_lists.proofs.IntraWays.{intra_frame_way, intra_numbers}
use Rattle.block_lists.proofs.ReferenceWays.{references_way}
use Rattle.block_lists.proofs.StartWays.{start_way}
use Rattle.block_lists.proofs.VectorWays.{new_way}

---- What goes on unless a rule is broken ----

record Kept {A B : Type 0} (s : Syntax ℕ Rule (Settled (Result A Rule))) (f : A → Syntax ℕ Rule (Settled (Result B Rule))) (old : NumberPart) (y : B) (new : NumberPart) : Type 0 where
  x : A
  mid : NumberPart
  first : PutsValue s old (Ok x) mid
  second : PutsValue (f x) mid (Ok y) new

ok_is : {A : Type 0} (x y : A) → ◌≡◌ {A = Result A Rule} (Ok x) (Ok y) → x ≡ y
ok_is x y h = cc

no_value : {A : Type 0} (e : Rule) (y : A) → ◌≡◌ {A = Result A Rule} (Err e) (Ok y) → ⊥
no_value e y h = cc

kept_by : {A B : Type 0} (s : Syntax ℕ Rule (Settled (Result A Rule))) (f : A → Syntax ℕ Rule (Settled (Result B Rule))) (old mid new : NumberPart) (y : B) (r : Result A Rule)
    → PutsValue s old r mid → PutsValue (carried f r) mid (Ok y) new → Kept s f old y new
kept_by s f old mid new y (Ok x) one two = record { x = x; mid = mid; first = one; second = two }
kept_by {B = B} s f old mid new y (Err rule) one two = absurd (no_value rule y (settle_put {A = Result B Rule} (Err rule) (Ok y) mid new two).0)

kept : {A B : Type 0} (s : Syntax ℕ Rule (Settled (Result A Rule))) (f : A → Syntax ℕ Rule (Settled (Result B Rule))) (old new : NumberPart) (y : B) → PutsValue (s >>? f) old (Ok y) new → Kept s f old y new
kept s f old new y h = let a = two_put s (carried f) old new (Ok y) h in kept_by s f old a.mid new y a.x a.first a.second

ok_settled : {A : Type 0} (x y : A) (old new : NumberPart) → PutsValue {A = Result A Rule} (settle (Ok x)) old (Ok y) new → (x ≡ y) × (old ≡ new)
ok_settled {A} x y old new h = let e = settle_put {A = Result A Rule} (Ok x) (Ok y) old new h in (ok_is x y e.0, e.1)

-- nothing was put
none_put : {A : Type 0} (x y : A) (old new : NumberPart) → PutsValue (settle x) old y new → HasPut old [] new
none_put x y old new h = subst (λ m. HasPut old [] m) (settle_put x y old new h).1 (spells_none old)

---- Modes and filters ----

inter_numbers : (n : ℕ) → has_leaf inter_mode_tree n ≡ true → inter_number (inter_of n) ≡ n
inter_numbers n there = of_leaf (λ n. inter_number (inter_of n) ≡ n) inter_mode_tree n (refl, (refl, (refl, refl))) there

filter_numbers : (n : ℕ) → has_leaf filter_tree n ≡ true → filter_number (filter_of_symbol n) ≡ n
filter_numbers n there = of_leaf (λ n. filter_number (filter_of_symbol n) ≡ n) filter_tree n (refl, (refl, refl)) there

mode_way : (probs : List ℕ) (context : ℕ) (mode : InterMode) (old new : NumberPart) → PutsValue (inter_mode probs context) old mode new → HasPut old (spelled_inter_mode probs context mode) new
unfolding inter_mode spelled_inter_mode
mode_way probs context mode old new h =
    let a = two_put _ _ old new mode h in
    let t = tree_put _ _ inter_mode_tree (drop (3 * context) probs) a.x old a.mid refl a.first in
    let e = settle_put (inter_of a.x) mode a.mid new a.second in
    let is : a.x ≡ inter_number mode = sym (inter_numbers a.x t.1) ∙ ap inter_number e.0 in
    subst (λ n. HasPut old (tree_bools inter_mode_tree (drop (3 * context) probs) n) new) is (subst (λ m. HasPut old (tree_bools inter_mode_tree (drop (3 * context) probs) a.x) m) e.1 t.0)

filter_way : (f : FrameFilter) (probs : List ℕ) (context : ℕ) (filter : InterpFilter) (old new : NumberPart) → PutsValue (interp_filter f probs context) old filter new → HasPut old (spelled_filter f probs context filter) new
unfolding interp_filter spelled_filter
filter_way (Fixed f) probs context filter old new h = none_put f filter old new h
filter_way Switchable probs context filter old new h =
    let a = two_put _ _ old new filter h in
    let t = tree_put _ _ filter_tree (drop (2 * context) probs) a.x old a.mid refl a.first in
    let e = settle_put (filter_of_symbol a.x) filter a.mid new a.second in
    let is : a.x ≡ filter_number filter = sym (filter_numbers a.x t.1) ∙ ap filter_number e.0 in
    subst (λ n. HasPut old (tree_bools filter_tree (drop (2 * context) probs) n) new) is (subst (λ m. HasPut old (tree_bools filter_tree (drop (2 * context) probs) a.x) m) e.1 t.0)

---- Vectors ----

vector_way : (s : Sources) (mode : InterMode) (best : Mv) (near : NearVectors) (v : Mv) (old new : NumberPart) → PutsValue (vector_of_mode s mode best near) old (Ok v) new → HasPut old (spelled_vector s mode best v) new
unfolding vector_of_mode spelled_vector
vector_way s Nearest best near v old new h = none_put {A = Result Mv Rule} _ (Ok v) old new h
vector_way s Near best near v old new h = none_put {A = Result Mv Rule} _ (Ok v) old new h
vector_way s Zero best near v old new h = none_put {A = Result Mv Rule} _ (Ok v) old new h
vector_way s New best near v old new h = new_way s.lists s.allowed best v old new h

-- a second vector behind a first
record AreVectors (first : Mv) (second : Option ReferenceFrame) (spelled : ReferenceFrame → Mv → BoolList) (vectors : List Mv) (old new : NumberPart) : Type 0 where
  is : vector_at vectors 0 ≡ first
  put : HasPut old (spelled_second second (λ reference. spelled reference (vector_at vectors 1))) new

second_way : (first : Mv) (second : Option ReferenceFrame) (vector : ReferenceFrame → Syntax ℕ Rule (Settled (Result Mv Rule))) (spelled : ReferenceFrame → Mv → BoolList) (vectors : List Mv) (old new : NumberPart)
    → ((reference : ReferenceFrame) (v : Mv) (now next : NumberPart) → PutsValue (vector reference) now (Ok v) next → HasPut now (spelled reference v) next)
    → PutsValue (with_second first second vector) old (Ok vectors) new → AreVectors first second spelled vectors old new
unfolding with_second
second_way first None vector spelled vectors old new way h =
    let e = ok_settled {A = List Mv} (first ∷ no_vector ∷ []) vectors old new h in
    subst (λ (p : List Mv × NumberPart). AreVectors first None spelled p.0 old p.1) (λ i. (e.0 i, e.1 i)) (record { is = refl; put = spells_none old })
second_way first (Some reference) vector spelled vectors old new way h =
    let a = kept _ _ old new vectors h in
    let e = ok_settled {A = List Mv} (first ∷ a.x ∷ []) vectors a.mid new a.second in
    subst (λ (p : List Mv × NumberPart). AreVectors first (Some reference) spelled p.0 old p.1) (λ i. (e.0 i, e.1 i)) (record { is = refl; put = way reference a.x old a.mid a.first })

vectors_way : (s : Sources) (mode : InterMode) (refs : ReferenceFrames) (vectors : List Mv) (old new : NumberPart) → PutsValue (block_vectors s mode refs) old (Ok vectors) new → HasPut old (spelled_vectors s mode refs vectors) new
unfolding block_vectors spelled_vectors block_vector
vectors_way s mode refs vectors old new h =
    let a = kept _ _ old new vectors h in
    let one = vector_way s mode (near_of_block s refs.first).nearest (near_of_block s refs.first) a.x old a.mid a.first in
    let two = second_way a.x refs.second (block_vector s mode) (λ reference v. spelled_vector s mode (near_of_block s reference).nearest v) vectors a.mid new
    (λ reference v now next g. vector_way s mode (near_of_block s reference).nearest (near_of_block s reference) v now next g) a.second in
    rw two.is (spells_on old a.mid new _ _ two.put one)

quarter_vectors_way : (s : Sources) (mode : InterMode) (refs : ReferenceFrames) (k : ℕ) (before : QuartersBefore) (vectors : List Mv) (old new : NumberPart) → PutsValue (quarter_vectors s mode refs k before) old (Ok vectors) new
    → HasPut old (spelled_vector s mode (vector_at before.best 0) (vector_at vectors 0) ++ spelled_second refs.second (λ reference. spelled_vector s mode (vector_at before.best 1) (vector_at vectors 1))) new
unfolding quarter_vectors quarter_vector
quarter_vectors_way s mode refs k before vectors old new h =
    let a = kept _ _ old new vectors h in
    let one = vector_way s mode (vector_at before.best 0) _ a.x old a.mid a.first in
    let two = second_way a.x refs.second (λ reference. quarter_vector s mode reference 1 k before) (λ reference v. spelled_vector s mode (vector_at before.best 1) v) vectors a.mid new
    (λ reference v now next g. vector_way s mode (vector_at before.best 1) _ v now next g) a.second in
    rw two.is (spells_on old a.mid new _ _ two.put one)

quarter_way : (s : Sources) (probs : List ℕ) (context : ℕ) (refs : ReferenceFrames) (k : ℕ) (before : QuartersBefore) (q : Quarter) (old new : NumberPart) → PutsValue (quarter s probs context refs k before) old (Ok q) new
    → HasPut old (spelled_quarter s probs context refs before.best q.mode q.vectors) new
unfolding quarter spelled_quarter
quarter_way s probs context refs k before q old new h =
    let a = two_put _ _ old new (Ok q) h in
    let b = kept _ _ a.mid new q a.second in
    let e = ok_settled {A = Quarter} (record { mode = a.x; vectors = b.x }) q b.mid new b.second in
    let one = mode_way probs context a.x old a.mid a.first in
    let two = quarter_vectors_way s a.x refs k before b.x a.mid b.mid b.first in
    subst (λ (p : Quarter × NumberPart). HasPut old (spelled_inter_mode probs context p.0.mode ++ spelled_vector s p.0.mode (vector_at before.best 0) (vector_at p.0.vectors 0)
    ++ spelled_second refs.second (λ reference. spelled_vector s p.0.mode (vector_at before.best 1) (vector_at p.0.vectors 1))) p.1) (λ i. (e.0 i, e.1 i))
    (rw (append_assoc (spelled_inter_mode probs context a.x) (spelled_vector s a.x (vector_at before.best 0) (vector_at b.x 0)) _) (spells_on old a.mid b.mid _ _ two one))

---- Quarters ----

-- the prediction that quarters make
abbrev Predicted : ReferenceFrames → InterpFilter → List Quarter → InterPrediction
Predicted refs filter qs = quarters_prediction refs filter qs

-- those of some quarters
abbrev OfQuarters : Sources → List ℕ → ℕ → ReferenceFrames → InterpFilter → List ℕ → List Quarter → BoolList
OfQuarters s probs context refs filter ks qs = flat_map (spelled_quarter_of s probs context (Predicted refs filter qs)) ks

columns_way : (s : Sources) (probs : List ℕ) (context : ℕ) (refs : ReferenceFrames) (filter : InterpFilter) (qs : List Quarter) (old new : NumberPart)
    → PutsValue (quarter_columns s probs context refs (best_mv s refs)) old (Ok qs) new → HasPut old (OfQuarters s probs context refs filter (0 ∷ 1 ∷ []) qs) new
unfolding quarter_columns spelled_quarter_of
columns_way s probs context refs filter qs old new h =
    let a = kept _ _ old new qs h in
    let b = kept _ _ a.mid new qs a.second in
    let e = ok_settled {A = List Quarter} (a.x ∷ b.x ∷ a.x ∷ b.x ∷ []) qs b.mid new b.second in
    let one = spells_same a.mid b.mid _ (quarter_way s probs context refs 1 _ b.x a.mid b.mid b.first) in
    let two = spells_on old a.mid b.mid _ _ one (quarter_way s probs context refs 0 _ a.x old a.mid a.first) in
    subst (λ (p : List Quarter × NumberPart). HasPut old (OfQuarters s probs context refs filter (0 ∷ 1 ∷ []) p.0) p.1) (λ i. (e.0 i, e.1 i)) two

rows_way : (s : Sources) (probs : List ℕ) (context : ℕ) (refs : ReferenceFrames) (filter : InterpFilter) (qs : List Quarter) (old new : NumberPart)
    → PutsValue (quarter_rows s probs context refs (best_mv s refs)) old (Ok qs) new → HasPut old (OfQuarters s probs context refs filter (0 ∷ 2 ∷ []) qs) new
unfolding quarter_rows spelled_quarter_of
rows_way s probs context refs filter qs old new h =
    let a = kept _ _ old new qs h in
    let b = kept _ _ a.mid new qs a.second in
    let e = ok_settled {A = List Quarter} (a.x ∷ a.x ∷ b.x ∷ b.x ∷ []) qs b.mid new b.second in
    let one = spells_same a.mid b.mid _ (quarter_way s probs context refs 2 _ b.x a.mid b.mid b.first) in
    let two = spells_on old a.mid b.mid _ _ one (quarter_way s probs context refs 0 _ a.x old a.mid a.first) in
    subst (λ (p : List Quarter × NumberPart). HasPut old (OfQuarters s probs context refs filter (0 ∷ 2 ∷ []) p.0) p.1) (λ i. (e.0 i, e.1 i)) two

four_way : (s : Sources) (probs : List ℕ) (context : ℕ) (refs : ReferenceFrames) (filter : InterpFilter) (qs : List Quarter) (old new : NumberPart)
    → PutsValue (four_quarters s probs context refs (best_mv s refs)) old (Ok qs) new → HasPut old (OfQuarters s probs context refs filter (0 ∷ 1 ∷ 2 ∷ 3 ∷ []) qs) new
unfolding four_quarters spelled_quarter_of
four_way s probs context refs filter qs old new h =
    let a = kept _ _ old new qs h in
    let b = kept _ _ a.mid new qs a.second in
    let c = kept _ _ b.mid new qs b.second in
    let d = kept _ _ c.mid new qs c.second in
    let e = ok_settled {A = List Quarter} (a.x ∷ b.x ∷ c.x ∷ d.x ∷ []) qs d.mid new d.second in
    let one = spells_same c.mid d.mid _ (quarter_way s probs context refs 3 _ d.x c.mid d.mid d.first) in
    let two = spells_on b.mid c.mid d.mid _ _ one (quarter_way s probs context refs 2 _ c.x b.mid c.mid c.first) in
    let three = spells_on a.mid b.mid d.mid _ _ two (quarter_way s probs context refs 1 _ b.x a.mid b.mid b.first) in
    let four = spells_on old a.mid d.mid _ _ three (quarter_way s probs context refs 0 _ a.x old a.mid a.first) in
    subst (λ (p : List Quarter × NumberPart). HasPut old (OfQuarters s probs context refs filter (0 ∷ 1 ∷ 2 ∷ 3 ∷ []) p.0) p.1) (λ i. (e.0 i, e.1 i)) four

-- no block of 8x8 or more has quarters of its own
not_below : false ≡ true → ⊥
not_below e = cc

by_size_way : (s : Sources) (probs : List ℕ) (context : ℕ) (refs : ReferenceFrames) (filter : InterpFilter) (size : BlockSize) (qs : List Quarter) (old new : NumberPart) → is_below_8x8 size ≡ true
    → PutsValue (quarters_by_size s probs context refs size) old (Ok qs) new → HasPut old (spelled_quarters s probs context size (Predicted refs filter qs)) new
unfolding quarters_by_size spelled_quarters
by_size_way s probs context refs filter B4x8 qs old new below h = columns_way s probs context refs filter qs old new h
by_size_way s probs context refs filter B8x4 qs old new below h = rows_way s probs context refs filter qs old new h
by_size_way s probs context refs filter B4x4 qs old new below h = four_way s probs context refs filter qs old new h
by_size_way s probs context refs filter B8x8 qs old new below h = absurd (not_below below)
by_size_way s probs context refs filter B8x16 qs old new below h = absurd (not_below below)
by_size_way s probs context refs filter B16x8 qs old new below h = absurd (not_below below)
by_size_way s probs context refs filter B16x16 qs old new below h = absurd (not_below below)
by_size_way s probs context refs filter B16x32 qs old new below h = absurd (not_below below)
by_size_way s probs context refs filter B32x16 qs old new below h = absurd (not_below below)
by_size_way s probs context refs filter B32x32 qs old new below h = absurd (not_below below)
by_size_way s probs context refs filter B32x64 qs old new below h = absurd (not_below below)
by_size_way s probs context refs filter B64x32 qs old new below h = absurd (not_below below)
by_size_way s probs context refs filter B64x64 qs old new below h = absurd (not_below below)

quarters_way : (s : Sources) (probs : List ℕ) (context : ℕ) (refs : ReferenceFrames) (filter : InterpFilter) (size : BlockSize) (qs : List Quarter) (old new : NumberPart) → is_below_8x8 size ≡ true
    → PutsValue (quarters s probs context refs size) old (Ok qs) new → HasPut old (spelled_quarters s probs context size (Predicted refs filter qs)) new
quarters_way s probs context refs filter size qs old new below h =
    by_size_way s probs context refs filter size qs old new below (subst (λ t. PutsValue t old (Ok qs) new) (quarters_of_size s probs context refs size below) h)

---- Predictions ----

block_mode_way : (skips : Bool) (probs : List ℕ) (context : ℕ) (mode : InterMode) (old new : NumberPart) → PutsValue (block_mode skips probs context) old mode new → HasPut old (spelled_block_mode skips probs context mode) new
unfolding block_mode spelled_block_mode
block_mode_way true probs context mode old new h = none_put Zero mode old new h
block_mode_way false probs context mode old new h = mode_way probs context mode old new h

-- a prediction with these references was put
record IsPredicted (bools : InterPrediction → BoolList) (refs : ReferenceFrames) (p : InterPrediction) (old new : NumberPart) : Type 0 where
  is : p.references ≡ refs
  put : HasPut old (bools p) new

whole_way : (s : Sources) (lists : InterLists) (skips : Bool) (filter : FrameFilter) (context : ℕ) (refs : ReferenceFrames) (p : InterPrediction) (old new : NumberPart)
    → PutsValue (whole_block s lists skips filter context refs) old (Ok p) new → IsPredicted (spelled_whole s lists skips filter context) refs p old new
unfolding whole_block spelled_whole
whole_way s lists skips filter context refs p old new h =
    let a = two_put _ _ old new (Ok p) h in
    let b = two_put _ _ a.mid new (Ok p) a.second in
    let c = kept _ _ b.mid new p b.second in
    let e = ok_settled {A = InterPrediction} (whole_prediction refs b.x a.x c.x) p c.mid new c.second in
    let two = spells_on old a.mid b.mid _ _ (filter_way filter lists.filters context b.x a.mid b.mid b.first) (block_mode_way skips lists.modes (mode_context s.earlier s.search) a.x old a.mid a.first) in
    let three = spells_on old b.mid c.mid _ _ (vectors_way s a.x refs c.x b.mid c.mid c.first) two in
    subst (λ (q : InterPrediction × NumberPart). IsPredicted (spelled_whole s lists skips filter context) refs q.0 old q.1) (λ i. (e.0 i, e.1 i)) (record { is = refl; put = three })

of_quarters_way : (s : Sources) (lists : InterLists) (filter : FrameFilter) (context : ℕ) (refs : ReferenceFrames) (p : InterPrediction) (old new : NumberPart) → is_below_8x8 s.search.at.size ≡ true
    → PutsValue (block_of_quarters s lists filter context refs) old (Ok p) new → IsPredicted (spelled_of_quarters s lists filter context) refs p old new
unfolding block_of_quarters spelled_of_quarters
of_quarters_way s lists filter context refs p old new below h =
    let a = two_put _ _ old new (Ok p) h in
    let b = kept _ _ a.mid new p a.second in
    let e = ok_settled {A = InterPrediction} (quarters_prediction refs a.x b.x) p b.mid new b.second in
    let two = spells_on old a.mid b.mid _ _ (quarters_way s lists.modes (mode_context s.earlier s.search) refs a.x s.search.at.size b.x a.mid b.mid below b.first) (filter_way filter lists.filters context a.x old a.mid a.first) in
    subst (λ (q : InterPrediction × NumberPart). IsPredicted (spelled_of_quarters s lists filter context) refs q.0 old q.1) (λ i. (e.0 i, e.1 i)) (record { is = refl; put = two })

prediction_way : (s : Sources) (lists : InterLists) (skips : Bool) (filter : FrameFilter) (context : ℕ) (refs : ReferenceFrames) (p : InterPrediction) (old new : NumberPart)
    → PutsValue (inter_prediction s lists skips filter context refs) old (Ok p) new → IsPredicted (spelled_prediction s lists skips filter context) refs p old new
unfolding inter_prediction spelled_prediction
prediction_way s lists skips filter context refs p old new h = by_test (is_below_8x8 s.search.at.size) refl h
  where
    by_test : (b : Bool) → is_below_8x8 s.search.at.size ≡ b → PutsValue (if b then block_of_quarters s lists filter context refs else whole_block s lists skips filter context refs) old (Ok p) new
        → IsPredicted (λ q. if b then spelled_of_quarters s lists filter context q else spelled_whole s lists skips filter context q) refs p old new
    by_test true below g = let w = of_quarters_way s lists filter context refs p old new below g in record { is = w.is; put = w.put }
    by_test false from g = let w = whole_way s lists skips filter context refs p old new g in record { is = w.is; put = w.put }

---- Intra blocks ----

intra_mode_way : (probs : List ℕ) (group : ℕ) (mode : IntraMode) (old new : NumberPart) → PutsValue (coded_intra_mode probs group) old mode new → HasPut old (spelled_mode probs group mode) new
unfolding coded_intra_mode spelled_mode
intra_mode_way probs group mode old new h =
    let a = two_put _ _ old new mode h in
    let t = tree_put _ _ intra_mode_tree (drop (9 * group) probs) a.x old a.mid refl a.first in
    let e = settle_put (intra_of a.x) mode a.mid new a.second in
    let is : a.x ≡ intra_number mode = sym (intra_numbers a.x t.1) ∙ ap intra_number e.0 in
    subst (λ n. HasPut old (tree_bools intra_mode_tree (drop (9 * group) probs) n) new) is (subst (λ m. HasPut old (tree_bools intra_mode_tree (drop (9 * group) probs) a.x) m) e.1 t.0)

uv_way : (probs : List ℕ) (luma mode : IntraMode) (old new : NumberPart) → PutsValue (coded_uv_mode probs luma) old mode new → HasPut old (spelled_mode probs (intra_number luma) mode) new
unfolding coded_uv_mode spelled_mode
uv_way probs luma mode old new h =
    let a = two_put _ _ old new mode h in
    let t = tree_put _ _ intra_mode_tree (drop (9 * intra_number luma) probs) a.x old a.mid refl a.first in
    let e = settle_put (intra_of a.x) mode a.mid new a.second in
    let is : a.x ≡ intra_number mode = sym (intra_numbers a.x t.1) ∙ ap intra_number e.0 in
    subst (λ n. HasPut old (tree_bools intra_mode_tree (drop (9 * intra_number luma) probs) n) new) is (subst (λ m. HasPut old (tree_bools intra_mode_tree (drop (9 * intra_number luma) probs) a.x) m) e.1 t.0)

intra_one : (probs : List ℕ) (group : ℕ) (luma : List IntraMode) (old new : NumberPart) → PutsValue (one_coded_mode probs group) old luma new → HasPut old (spelled_modes probs group luma (0 ∷ [])) new
unfolding one_coded_mode
intra_one probs group luma old new h =
    let a = two_put _ _ old new luma h in
    let e = settle_put {A = List IntraMode} (a.x ∷ a.x ∷ a.x ∷ a.x ∷ []) luma a.mid new a.second in
    subst (λ (p : List IntraMode × NumberPart). HasPut old (spelled_modes probs group p.0 (0 ∷ [])) p.1) (λ i. (e.0 i, e.1 i))
    (spells_same old a.mid _ (intra_mode_way probs group a.x old a.mid a.first))

intra_rows : (probs : List ℕ) (luma : List IntraMode) (old new : NumberPart) → PutsValue (coded_mode_rows probs) old luma new → HasPut old (spelled_modes probs 0 luma (0 ∷ 2 ∷ [])) new
unfolding coded_mode_rows
intra_rows probs luma old new h =
    let a = two_put _ _ old new luma h in
    let b = two_put _ _ a.mid new luma a.second in
    let e = settle_put {A = List IntraMode} (a.x ∷ a.x ∷ b.x ∷ b.x ∷ []) luma b.mid new b.second in
    let one = spells_same a.mid b.mid _ (intra_mode_way probs 0 b.x a.mid b.mid b.first) in
    subst (λ (p : List IntraMode × NumberPart). HasPut old (spelled_modes probs 0 p.0 (0 ∷ 2 ∷ [])) p.1) (λ i. (e.0 i, e.1 i))
    (spells_on old a.mid b.mid _ _ one (intra_mode_way probs 0 a.x old a.mid a.first))

intra_columns : (probs : List ℕ) (luma : List IntraMode) (old new : NumberPart) → PutsValue (coded_mode_columns probs) old luma new → HasPut old (spelled_modes probs 0 luma (0 ∷ 1 ∷ [])) new
unfolding coded_mode_columns
intra_columns probs luma old new h =
    let a = two_put _ _ old new luma h in
    let b = two_put _ _ a.mid new luma a.second in
    let e = settle_put {A = List IntraMode} (a.x ∷ b.x ∷ a.x ∷ b.x ∷ []) luma b.mid new b.second in
    let one = spells_same a.mid b.mid _ (intra_mode_way probs 0 b.x a.mid b.mid b.first) in
    subst (λ (p : List IntraMode × NumberPart). HasPut old (spelled_modes probs 0 p.0 (0 ∷ 1 ∷ [])) p.1) (λ i. (e.0 i, e.1 i))
    (spells_on old a.mid b.mid _ _ one (intra_mode_way probs 0 a.x old a.mid a.first))

intra_four : (probs : List ℕ) (luma : List IntraMode) (old new : NumberPart) → PutsValue (four_coded_modes probs) old luma new
    → HasPut old (spelled_modes probs 0 luma (0 ∷ 1 ∷ 2 ∷ 3 ∷ [])) new
unfolding four_coded_modes
intra_four probs luma old new h =
    let a = two_put _ _ old new luma h in
    let b = two_put _ _ a.mid new luma a.second in
    let c = two_put _ _ b.mid new luma b.second in
    let d = two_put _ _ c.mid new luma c.second in
    let e = settle_put {A = List IntraMode} (a.x ∷ b.x ∷ c.x ∷ d.x ∷ []) luma d.mid new d.second in
    let one = spells_same c.mid d.mid _ (intra_mode_way probs 0 d.x c.mid d.mid d.first) in
    let two = spells_on b.mid c.mid d.mid _ _ one (intra_mode_way probs 0 c.x b.mid c.mid c.first) in
    let three = spells_on a.mid b.mid d.mid _ _ two (intra_mode_way probs 0 b.x a.mid b.mid b.first) in
    let four = spells_on old a.mid d.mid _ _ three (intra_mode_way probs 0 a.x old a.mid a.first) in
    subst (λ (p : List IntraMode × NumberPart). HasPut old (spelled_modes probs 0 p.0 (0 ∷ 1 ∷ 2 ∷ 3 ∷ [])) p.1) (λ i. (e.0 i, e.1 i)) four

intra_by_size : (probs : List ℕ) (size : BlockSize) (luma : List IntraMode) (old new : NumberPart) → PutsValue (coded_by_size probs size) old luma new → HasPut old (spelled_luma probs size luma) new
unfolding coded_by_size spelled_luma
intra_by_size probs B4x4 luma old new h = intra_four probs luma old new h
intra_by_size probs B4x8 luma old new h = intra_columns probs luma old new h
intra_by_size probs B8x4 luma old new h = intra_rows probs luma old new h
intra_by_size probs B8x8 luma old new h = intra_one probs _ luma old new h
intra_by_size probs B8x16 luma old new h = intra_one probs _ luma old new h
intra_by_size probs B16x8 luma old new h = intra_one probs _ luma old new h
intra_by_size probs B16x16 luma old new h = intra_one probs _ luma old new h
intra_by_size probs B16x32 luma old new h = intra_one probs _ luma old new h
intra_by_size probs B32x16 luma old new h = intra_one probs _ luma old new h
intra_by_size probs B32x32 luma old new h = intra_one probs _ luma old new h
intra_by_size probs B32x64 luma old new h = intra_one probs _ luma old new h
intra_by_size probs B64x32 luma old new h = intra_one probs _ luma old new h
intra_by_size probs B64x64 luma old new h = intra_one probs _ luma old new h

intra_luma : (probs : List ℕ) (size : BlockSize) (luma : List IntraMode) (old new : NumberPart) → PutsValue (luma_modes probs size) old luma new → HasPut old (spelled_luma probs size luma) new
intra_luma probs size luma old new h = intra_by_size probs size luma old new (subst (λ s. PutsValue s old luma new) (luma_of_size probs size) h)

intra_way : (y_modes uv_modes : List ℕ) (size : BlockSize) (p : IntraPrediction) (old new : NumberPart) → PutsValue (intra_block_mode_info y_modes uv_modes size) old p new → HasPut old (spelled_intra y_modes uv_modes size p) new
unfolding intra_block_mode_info spelled_intra
intra_way y_modes uv_modes size p old new h =
    let a = two_put _ _ old new p h in
    let b = two_put _ _ a.mid new p a.second in
    let e = settle_put {A = IntraPrediction} (record { luma = a.x; chroma = b.x }) p b.mid new b.second in
    subst (λ (q : IntraPrediction × NumberPart). HasPut old (spelled_luma y_modes size q.0.luma ++ spelled_mode uv_modes (intra_number (last_mode q.0.luma)) q.0.chroma) q.1) (λ i. (e.0 i, e.1 i))
    (spells_on old a.mid b.mid _ _ (uv_way uv_modes (last_mode a.x) b.x a.mid b.mid b.first) (intra_luma y_modes size a.x old a.mid a.first))

---- Blocks ----

in_range_is : (size : FrameSize) (refs : header.References) (r s : ReferenceFrames) → ◌≡◌ {A = Result ReferenceFrames Rule} (allowed_or_rule size refs r) (Ok s) → r ≡ s
in_range_is size refs r s h = by_test (has_allowed_scale size (reference_in refs r.first) && second_in_range size refs r.second) h
  where
    by_test : (b : Bool) → ◌≡◌ {A = Result ReferenceFrames Rule} (if b then Ok r else Err BlockScale) (Ok s) → r ≡ s
    by_test true g = cc
    by_test false g = let no : ⊥ = cc in absurd no

checked_way : (f : InterFrame) (biases : SignBiases) (above left : Option BlockInfo) (segment : ℕ) (refs : ReferenceFrames) (old new : NumberPart) → PutsValue (checked_references f biases above left segment) old (Ok refs) new
    → HasPut old (spelled_references (segment_reference f.header.params.segmentation segment) f.modes.reference_mode f.contexts.inter biases above left refs) new
unfolding checked_references
checked_way f biases above left segment refs old new h =
    let a = two_put _ _ old new (Ok refs) h in
    let e = settle_put {A = Result ReferenceFrames Rule} (allowed_or_rule f.header.size f.fields.references a.x) (Ok refs) a.mid new a.second in
    let is = in_range_is f.header.size f.fields.references a.x refs e.0 in
    subst (λ (p : ReferenceFrames × NumberPart). HasPut old (spelled_references (segment_reference f.header.params.segmentation segment) f.modes.reference_mode f.contexts.inter biases above left p.0) p.1) (λ i. (is i, e.1 i))
    (references_way _ f.modes.reference_mode f.contexts.inter biases above left a.x old a.mid a.first)

-- a block that starts so was put behind its start
record IsBehind (f : InterFrame) (s : Sources) (above left : Option BlockInfo) (start : BlockStart) (block : BlockInfo) (old new : NumberPart) : Type 0 where
  is : start_of block ≡ start
  put : HasPut old (spelled_by_prediction f s above left block.segment block.prediction) new

inter_block_way : (f : InterFrame) (s : Sources) (above left : Option BlockInfo) (start : BlockStart) (block : BlockInfo) (old new : NumberPart) → start.is_inter ≡ true
    → PutsValue (inter_block f s above left start) old (Ok block) new → IsBehind f s above left start block old new
unfolding inter_block spelled_by_prediction
inter_block_way f s above left start block old new inter h =
    let a = kept _ _ old new block h in
    let b = kept _ _ a.mid new block a.second in
    let e = ok_settled {A = BlockInfo} (block_with s.search.at start (Inter b.x)) block b.mid new b.second in
    let one = checked_way f s.search.biases above left start.segment.id a.x old a.mid a.first in
    let p = prediction_way s f.contexts.inter (skips_segment f.header.params.segmentation start.segment.id) f.fields.filter (filter_context above left) a.x b.x a.mid b.mid b.first in
    let two : HasPut old (spelled_references (segment_reference f.header.params.segmentation start.segment.id) f.modes.reference_mode f.contexts.inter s.search.biases above left b.x.references
    ++ spelled_prediction s f.contexts.inter (skips_segment f.header.params.segmentation start.segment.id) f.fields.filter (filter_context above left) b.x) b.mid =
    rw p.is (spells_on old a.mid b.mid _ _ p.put one) in
    let made : IsBehind f s above left start (block_with s.search.at start (Inter b.x)) old b.mid = record {
      is = λ i. record { segment = start.segment; skip = start.skip; is_inter = sym inter i; tx = start.tx };
      put = two;
    } in
    subst (λ (q : BlockInfo × NumberPart). IsBehind f s above left start q.0 old q.1) (λ i. (e.0 i, e.1 i)) made

intra_block_way : (f : InterFrame) (s : Sources) (above left : Option BlockInfo) (start : BlockStart) (block : BlockInfo) (old new : NumberPart) → start.is_inter ≡ false
    → PutsValue (intra_coded_block f s.search.at start) old (Ok block) new → IsBehind f s above left start block old new
unfolding intra_coded_block spelled_by_prediction
intra_block_way f s above left start block old new inter h =
    let a = two_put _ _ old new (Ok block) h in
    let e = ok_settled {A = BlockInfo} (block_with s.search.at start (Intra a.x)) block a.mid new a.second in
    let made : IsBehind f s above left start (block_with s.search.at start (Intra a.x)) old a.mid = record {
      is = λ i. record { segment = start.segment; skip = start.skip; is_inter = sym inter i; tx = start.tx };
      put = intra_way f.contexts.inter.y_modes f.contexts.uv_modes s.search.at.size a.x old a.mid a.first;
    } in
    subst (λ (q : BlockInfo × NumberPart). IsBehind f s above left start q.0 old q.1) (λ i. (e.0 i, e.1 i)) made

behind_way : (f : InterFrame) (s : Sources) (above left : Option BlockInfo) (start : BlockStart) (block : BlockInfo) (old new : NumberPart) (b : Bool) → start.is_inter ≡ b
    → PutsValue (if b then inter_block f s above left start else intra_coded_block f s.search.at start) old (Ok block) new → IsBehind f s above left start block old new
behind_way f s above left start block old new true inter h = inter_block_way f s above left start block old new inter h
behind_way f s above left start block old new false inter h = intra_block_way f s above left start block old new inter h

beside_way : (f : InterFrame) (s : Sources) (above left : Option BlockInfo) (least : ℕ) (block : BlockInfo) (old new : NumberPart) → PutsValue (inter_frame_block f s above left least) old (Ok block) new
    → HasPut old (spelled_inter_beside f s above left block) new
unfolding inter_frame_block spelled_inter_beside
beside_way f s above left least block old new h =
    let a = two_put _ _ old new (Ok block) h in
    let one = start_way f.header.params.segmentation f.modes.tx_mode f.contexts above left s.search.at.size least a.x old a.mid a.first in
    let b = behind_way f s above left a.x block a.mid new a.x.is_inter refl a.second in
    rw b.is (spells_on old a.mid new _ _ b.put one)

intra_frame_block_way : (header : Header) (modes : Modes) (contexts : ContextLists) (earlier : List BlockInfo) (at : BlockAt) (block : BlockInfo) (old new : NumberPart) → PutsValue (intra_frame_block header modes contexts earlier at) old (Ok block) new
    → HasPut old (spelled_intra_frame header modes contexts earlier at block) new
unfolding intra_frame_block
intra_frame_block_way header modes contexts earlier at block old new h =
    let a = two_put _ _ old new (Ok block) h in
    let e = ok_settled {A = BlockInfo} a.x block a.mid new a.second in
    subst (λ (q : BlockInfo × NumberPart). HasPut old (spelled_intra_frame header modes contexts earlier at q.0) q.1) (λ i. (e.0 i, e.1 i))
    (intra_frame_way header modes contexts earlier at a.x old a.mid a.first)

by_kind_way : (kind : FrameKind) (by : BlockSources) (earlier : List BlockInfo) (at : BlockAt) (block : BlockInfo) (old new : NumberPart)
    → PutsValue (by_kind kind by earlier at) old (Ok block) new → HasPut old (spelled_by_kind kind by earlier at block) new
unfolding inter_frame_mode_info
by_kind_way (frame.Inter fields) by earlier at block old new h = beside_way _ _ _ _ _ block old new h
by_kind_way Key by earlier at block old new h = intra_frame_block_way by.header by.modes by.contexts earlier at block old new h
by_kind_way IntraOnly by earlier at block old new h = intra_frame_block_way by.header by.modes by.contexts earlier at block old new h

pub mode_info_way : (by : BlockSources) (earlier : List BlockInfo) (at : BlockAt) (block : BlockInfo) (old new : NumberPart)
    → PutsValue (mode_info by earlier at) old (Ok block) new → HasPut old (spelled_mode_info by earlier at block) new
unfolding mode_info spelled_mode_info
mode_info_way by earlier at block old new h = by_kind_way by.header.kind by earlier at block old new h
