-- What a block reads depends on the blocks of its tile's columns alone.
use Rattle.std.proofs.Common.{◌≡◌, ℕ, ◌-◌, ◌<◌, ◌≤◌, ◌∷◌, [], ◌∙◌, Bool, true, false, not, ◌&&◌, List, Option, Some, None, Ok, inl, inr, refl, ap, arith, if◌then◌else◌}
use Rattle.std.specs.Prelude.{nat_lt}
use Rattle.std.proofs.lemmas.Bool.{cases_lt, lt-ltb, le-ltb}
use Rattle.vp9_types.specs.Maps.{Map}
use Rattle.vp9_types.specs.declared.block.BlockSize.{BlockSize}
use Rattle.vp9_types.specs.declared.block.InterMode.{InterMode}
use Rattle.vp9_types.specs.declared.block.InterMode.TheVariants.{Nearest, Near, Zero, New}
use Rattle.vp9_types.specs.declared.block.Modes.{Modes}
use Rattle.vp9_types.specs.declared.block.ReferenceFrame.{ReferenceFrame}
use Rattle.frame_headers.specs.declared.header.FrameFilter.{FrameFilter}
use Rattle.frame_headers.specs.declared.header.FrameKind.{FrameKind}
use Rattle.frame_headers.specs.declared.header.FrameKind.TheVariants as frame
use Rattle.frame_headers.specs.declared.header.Header.{Header}
use Rattle.prob_contexts.specs.ProbLists.{ContextLists, InterLists}
use Rattle.block_plan.specs.Blocks.{above_place, left_place, above_of, left_of}
use Rattle.block_plan.specs.BlockMvs.{vector_at}
use Rattle.block_plan.specs.declared.block.BlockAt.{BlockAt}
use Rattle.block_plan.specs.declared.block.BlockInfo.{BlockInfo}
use Rattle.block_plan.specs.declared.block.Mv.{Mv}
use Rattle.block_plan.specs.declared.block.Prediction.TheVariants.{Inter}
use Rattle.block_plan.specs.declared.block.ReferenceFrames.{ReferenceFrames}
use Rattle.counting_reader.specs.Counting.{settle, ◌>>=◌}
use Rattle.mode_syntax.specs.Elements.{skips_segment}
use Rattle.mode_syntax.proofs.Apart.{same_modes}
use Rattle.mv_prediction.proofs.Columns.{same_candidates, same_context}
use Rattle.mv_prediction.specs.Candidates.{ref_list_mv, mode_context}
use Rattle.mv_prediction.specs.Laws.{SameIn}
use Rattle.mv_prediction.specs.SubBlocks.{near_vectors, sub_block_vectors}
use Rattle.mv_prediction.specs.declared.sub_blocks.NearVectors.{NearVectors}
use Rattle.mv_syntax.specs.Differences.{new_vector}
use Rattle.block_geometry.specs.Quarters.{starting_quarters, with_part}
use Rattle.block_geometry.specs.BlockSizes.{is_below_8x8}
use Rattle.inter_contexts.specs.Contexts.{filter_context}
use Rattle.inter_modes.specs.ModeInfo.{BlockSources, InterFrame, sources_of, block_mode, interp_filter, whole_prediction, quarters_prediction, whole_block, block_of_quarters, inter_prediction, block_with, checked_references, inter_block, intra_coded_block, inter_frame_block, least_before, inter_frame_mode_info, intra_frame_block, by_kind, mode_info}
use Rattle.inter_modes.specs.BlockStarts.{block_start}
use Rattle.inter_modes.specs.BlockVectors.{Sources, inter_mode, vector_of_mode, near_of_block, near_of_quarter, block_vector, with_second, block_vectors, second_best, best_mv, row_vectors, of_list, quarter_vector, quarter_vectors, quarter, before_of, unread, vectors_of, each_quarter, quarters, ◌>>?◌}
use Rattle.inter_modes.specs.declared.quarters.Quarter.{Quarter}
use Rattle.inter_modes.specs.declared.quarters.QuartersBefore.{QuartersBefore}
use Rattle.inter_modes.specs.declared.starts.BlockStart.{BlockStart}

same_above : (from to : ℕ) (xs ys : List BlockInfo) → SameIn from to xs ys → (r c : ℕ) → from ≤ c → c < to → above_place xs r c ≡ above_place ys r c
unfolding above_place
same_above from to xs ys same r c low high = ap (λ o. if nat_lt 0 r then o else None) (same (r - 1) c low high)

same_left : (from to : ℕ) (xs ys : List BlockInfo) → SameIn from to xs ys → (r c : ℕ) → c < to → left_place xs from r c ≡ left_place ys from r c
unfolding left_place
same_left from to xs ys same r c high = elim (cases_lt from c) [
  | inl inner ↦ rw (lt-ltb from c inner) (same r (c - 1) (omega arith) (omega arith))
  | inr edge ↦ rw (le-ltb from c edge) refl
]

---- Sources that say the same ----

record AreAlike (s t : Sources) : Type 0 where
  lists : s.lists ≡ t.lists
  allowed : s.allowed ≡ t.allowed
  search : s.search ≡ t.search
  both : (reference : ReferenceFrame) (sub : Option ℕ) → ref_list_mv s.earlier s.before s.search reference sub ≡ ref_list_mv t.earlier t.before t.search reference sub
  context : mode_context s.earlier s.search ≡ mode_context t.earlier t.search

same_vector_of : (s t : Sources) → AreAlike s t → (mode : InterMode) (best : Mv) (near : NearVectors) → vector_of_mode s mode best near ≡ vector_of_mode t mode best near
unfolding vector_of_mode
same_vector_of s t a Nearest best near = refl
same_vector_of s t a Near best near = refl
same_vector_of s t a Zero best near = refl
same_vector_of s t a New best near = λ i. new_vector (a.lists i) (a.allowed i) best

same_near : (s t : Sources) → AreAlike s t → (reference : ReferenceFrame) → near_of_block s reference ≡ near_of_block t reference
same_near s t a reference = λ i. near_vectors (a.allowed i) (a.both reference None i)

same_block_vector : (s t : Sources) → AreAlike s t → (mode : InterMode) (reference : ReferenceFrame) → block_vector s mode reference ≡ block_vector t mode reference
unfolding block_vector
same_block_vector s t a mode reference =
    same_vector_of s t a mode (near_of_block s reference).nearest (near_of_block s reference)
    ∙ (λ i. vector_of_mode t mode (same_near s t a reference i).nearest (same_near s t a reference i))

same_block_vectors : (s t : Sources) → AreAlike s t → (mode : InterMode) (refs : ReferenceFrames) → block_vectors s mode refs ≡ block_vectors t mode refs
unfolding block_vectors
same_block_vectors s t a mode refs = λ i.
    same_block_vector s t a mode refs.first i >>? λ first. with_second first refs.second (λ reference. same_block_vector s t a mode reference i)

---- Quarters ----

same_second : (s t : Sources) → AreAlike s t → (second : Option ReferenceFrame) → second_best s second ≡ second_best t second
same_second s t a None = refl
same_second s t a (Some reference) = λ i. (same_near s t a reference i).nearest

same_best : (s t : Sources) → AreAlike s t → (refs : ReferenceFrames) → best_mv s refs ≡ best_mv t refs
same_best s t a refs = λ i. (same_near s t a refs.first i).nearest ∷ same_second s t a refs.second i ∷ []

same_quarter_vector : (s t : Sources) → AreAlike s t → (mode : InterMode) (reference : ReferenceFrame) (list k : ℕ) (before : QuartersBefore)
    → quarter_vector s mode reference list k before ≡ quarter_vector t mode reference list k before
unfolding quarter_vector
same_quarter_vector s t a mode reference list k before =
    same_vector_of s t a mode (vector_at before.best list) (near_of_quarter s reference k (of_list list before.rows))
    ∙ (λ i. vector_of_mode t mode (vector_at before.best list) (sub_block_vectors k (a.both reference (Some k) i) (of_list list before.rows)))

same_quarter_vectors : (s t : Sources) → AreAlike s t → (mode : InterMode) (refs : ReferenceFrames) (k : ℕ) (before : QuartersBefore)
    → quarter_vectors s mode refs k before ≡ quarter_vectors t mode refs k before
unfolding quarter_vectors
same_quarter_vectors s t a mode refs k before = λ i.
    same_quarter_vector s t a mode refs.first 0 k before i
    >>? λ first. with_second first refs.second (λ reference. same_quarter_vector s t a mode reference 1 k before i)

same_quarter : (s t : Sources) → AreAlike s t → (probs : List ℕ) (context : ℕ) (refs : ReferenceFrames) (k : ℕ) (before : QuartersBefore)
    → quarter s probs context refs k before ≡ quarter t probs context refs k before
unfolding quarter
same_quarter s t a probs context refs k before = λ i.
    inter_mode probs context >>= λ mode. same_quarter_vectors s t a mode refs k before i >>? λ vectors. settle (Ok (record { mode = mode; vectors = vectors }))

same_quarters : (s t : Sources) → AreAlike s t → (probs : List ℕ) (context : ℕ) (refs : ReferenceFrames) (size : BlockSize)
    → quarters s probs context refs size ≡ quarters t probs context refs size
unfolding quarters
same_quarters s t a probs context refs size = λ i.
    each_quarter (λ k before. same_quarter s t a probs context refs k before i) size (same_best s t a refs i) (starting_quarters size)
    (unread ∷ unread ∷ unread ∷ unread ∷ [])

---- Blocks ----

same_whole : (s t : Sources) → AreAlike s t → (lists : InterLists) (skips : Bool) (filter : FrameFilter) (context : ℕ) (refs : ReferenceFrames)
    → whole_block s lists skips filter context refs ≡ whole_block t lists skips filter context refs
unfolding whole_block
same_whole s t a lists skips filter context refs = λ i.
    block_mode skips lists.modes (a.context i)
    >>= λ mode. interp_filter filter lists.filters context
    >>= λ kind. same_block_vectors s t a mode refs i >>? λ vectors. settle (Ok (whole_prediction refs kind mode vectors))

same_of_quarters : (s t : Sources) → AreAlike s t → (lists : InterLists) (filter : FrameFilter) (context : ℕ) (refs : ReferenceFrames)
    → block_of_quarters s lists filter context refs ≡ block_of_quarters t lists filter context refs
unfolding block_of_quarters
same_of_quarters s t a lists filter context refs =
    (λ i. interp_filter filter lists.filters context
    >>= λ kind. same_quarters s t a lists.modes (mode_context s.earlier s.search) refs s.search.at.size i >>? λ qs. settle (Ok (quarters_prediction refs kind qs)))
    ∙ (λ i. interp_filter filter lists.filters context
    >>= λ kind. quarters t lists.modes (a.context i) refs (a.search i).at.size >>? λ qs. settle (Ok (quarters_prediction refs kind qs)))

same_prediction : (s t : Sources) → AreAlike s t → (lists : InterLists) (skips : Bool) (filter : FrameFilter) (context : ℕ) (refs : ReferenceFrames)
    → inter_prediction s lists skips filter context refs ≡ inter_prediction t lists skips filter context refs
unfolding inter_prediction
same_prediction s t a lists skips filter context refs = λ i.
    if is_below_8x8 (a.search i).at.size then same_of_quarters s t a lists filter context refs i else same_whole s t a lists skips filter context refs i

same_inter : (s t : Sources) → AreAlike s t → (f : InterFrame) (above left : Option BlockInfo) (start : BlockStart)
    → inter_block f s above left start ≡ inter_block f t above left start
unfolding inter_block
same_inter s t a f above left start = λ i.
    checked_references f (a.search i).biases above left start.segment.id
    >>? λ refs. same_prediction s t a f.contexts.inter (skips_segment f.header.params.segmentation start.segment.id) f.fields.filter (filter_context above left) refs i
    >>? λ p. settle (Ok (block_with (a.search i).at start (Inter p)))

same_beside : (s t : Sources) → AreAlike s t → (f : InterFrame) (above left : Option BlockInfo) (least : ℕ)
    → inter_frame_block f s above left least ≡ inter_frame_block f t above left least
unfolding inter_frame_block
same_beside s t a f above left least = λ i.
    block_start f.header.params.segmentation f.modes.tx_mode f.contexts above left (a.search i).at.size least
    >>= λ start. if start.is_inter then same_inter s t a f above left start i else intra_coded_block f (a.search i).at start

---- Frames ----

same_inter_frame : (f : InterFrame) (ids : Map) (at : BlockAt) (xs ys xs_before ys_before : List BlockInfo)
    → SameIn at.tile_from at.tile_to xs ys → SameIn at.tile_from at.tile_to xs_before ys_before → at.tile_from ≤ at.col → at.col < at.tile_to
    → inter_frame_mode_info f ids xs xs_before at ≡ inter_frame_mode_info f ids ys ys_before at
unfolding inter_frame_mode_info
same_inter_frame f ids at xs ys xs_before ys_before same same_before first last =
    let s = sources_of f xs xs_before at in
    let t = sources_of f ys ys_before at in
    let alike : AreAlike s t = record {
      lists = refl;
      allowed = refl;
      search = refl;
      both = λ reference sub. same_candidates s.search xs ys xs_before ys_before reference sub same same_before first last;
      context = same_context xs ys s.search same;
    } in
    same_beside s t alike f (above_of xs at) (left_of xs at) (least_before f.header ids at)
    ∙ ap (λ above. inter_frame_block f t above (left_of xs at) (least_before f.header ids at)) (same_above at.tile_from at.tile_to xs ys same at.row at.col first last)
    ∙ ap (λ left. inter_frame_block f t (above_of ys at) left (least_before f.header ids at)) (same_left at.tile_from at.tile_to xs ys same at.row at.col last)

same_intra_frame : (header : Header) (modes : Modes) (contexts : ContextLists) (at : BlockAt) (xs ys : List BlockInfo)
    → SameIn at.tile_from at.tile_to xs ys → at.tile_from ≤ at.col → at.col < at.tile_to
    → intra_frame_block header modes contexts xs at ≡ intra_frame_block header modes contexts ys at
unfolding intra_frame_block
same_intra_frame header modes contexts at xs ys same first last = λ i.
    same_modes header modes contexts at xs ys same first last i >>= λ block. settle (Ok block)

abbrev pub sources_by : Header → Modes → ContextLists → Map → List BlockInfo → BlockSources
sources_by header modes contexts ids before = record { header = header; modes = modes; contexts = contexts; segments = ids; vectors = before }

by_kind_same : (kind : FrameKind) (header : Header) (modes : Modes) (contexts : ContextLists) (ids : Map) (at : BlockAt) (xs ys xs_before ys_before : List BlockInfo)
    → SameIn at.tile_from at.tile_to xs ys → SameIn at.tile_from at.tile_to xs_before ys_before → at.tile_from ≤ at.col → at.col < at.tile_to
    → by_kind kind (sources_by header modes contexts ids xs_before) xs at ≡ by_kind kind (sources_by header modes contexts ids ys_before) ys at
by_kind_same (frame.Inter fields) header modes contexts ids at xs ys xs_before ys_before same same_before first last =
    same_inter_frame (record { header = header; fields = fields; modes = modes; contexts = contexts }) ids at xs ys xs_before ys_before same same_before first last
by_kind_same frame.Key header modes contexts ids at xs ys xs_before ys_before same same_before first last =
    same_intra_frame header modes contexts at xs ys same first last
by_kind_same frame.IntraOnly header modes contexts ids at xs ys xs_before ys_before same same_before first last =
    same_intra_frame header modes contexts at xs ys same first last

pub same_mode_info : (header : Header) (modes : Modes) (contexts : ContextLists) (ids : Map) (at : BlockAt) (xs ys xs_before ys_before : List BlockInfo)
    → SameIn at.tile_from at.tile_to xs ys → SameIn at.tile_from at.tile_to xs_before ys_before → at.tile_from ≤ at.col → at.col < at.tile_to
    → mode_info (sources_by header modes contexts ids xs_before) xs at ≡ mode_info (sources_by header modes contexts ids ys_before) ys at
unfolding mode_info
same_mode_info header modes contexts ids at xs ys xs_before ys_before same same_before first last =
    by_kind_same header.kind header modes contexts ids at xs ys xs_before ys_before same same_before first last
