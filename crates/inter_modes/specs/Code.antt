-- What the code keeps and its calls answer.
use Rattle.std.specs.Prelude.{◌≡◌, ℕ, ◌<◌, ◌≤◌, Bool, true, List, [], ◌∷◌, Option, IfSome, Ok, slice_index}
use Rattle.std.specs.List.{All}
use Rattle.std.specs.Option.{option_copied}
use Rattle.vp9_types.specs.Maps.{Map}
use Rattle.vp9_types.specs.Syntax.{Syntax}
use Rattle.vp9_types.specs.declared.block.BlockSize.{BlockSize}
use Rattle.vp9_types.specs.declared.block.BlockSize.TheVariants.{B4x4, B4x8, B8x4}
use Rattle.vp9_types.specs.declared.block.IntraMode.{IntraMode}
use Rattle.vp9_types.specs.declared.rule.Rule.{Rule}
use Rattle.vp9_tables.specs.BlockTables.{greatest_of}
use Rattle.vp9_tables.specs.Numbers.{block_number, tx_number}
use Rattle.vp9_tables.specs.declared.data.blocks.TheConstants.{SIZE_GROUP}
use Rattle.frame_headers.specs.References.{has_allowed_scale}
use Rattle.frame_headers.specs.declared.header.FrameKind.TheVariants as frame
use Rattle.frame_headers.specs.declared.header.FrameSize.{FrameSize}
use Rattle.frame_headers.specs.declared.header.Header.{Header}
use Rattle.frame_headers.specs.declared.header.InterFields.{InterFields}
use Rattle.frame_headers.specs.declared.header.References as header
use Rattle.prob_contexts.specs.ProbLists.{lists_of, vector_lists}
use Rattle.block_geometry.specs.Parts.{part_inside}
use Rattle.frame_setting.specs.declared.setting.FrameSetting.{FrameSetting}
use Rattle.block_plan.specs.BlockMvs.{vector_at}
use Rattle.block_plan.specs.declared.block.BlockAt.{BlockAt}
use Rattle.block_plan.specs.declared.block.BlockInfo.{BlockInfo}
use Rattle.block_plan.specs.declared.block.Mv.{Mv}
use Rattle.block_plan.specs.declared.block.Prediction.{Prediction}
use Rattle.block_plan.specs.declared.block.Prediction.TheVariants.{Intra, Inter}
use Rattle.block_plan.specs.declared.block.ReferenceFrames.{ReferenceFrames}
use Rattle.mv_prediction.specs.Code.{AreSmall, HasSmallVectors, IsSite, blocks_of}
use Rattle.mv_prediction.specs.declared.search.MvSearch.{MvSearch}
use Rattle.block_plan.specs.SegmentMaps.{SegmentIds, id_map, least_id}
use Rattle.inter_contexts.specs.BlockReferences.{reference_in, second_in_range}
use Rattle.counting_reader.specs.Counting.{Settled, settle, ◌>>=◌}
use Rattle.inter_modes.specs.IntraBlocks.{intra_mode}
use Rattle.inter_modes.specs.ModeInfo.{BlockSources, InterFrame}
use Rattle.inter_modes.specs.BlockVectors.{Quarters, Sources, before_of, best_mv, nothing_before, quarter, row_vectors, ◌>>?◌}
use Rattle.inter_modes.specs.declared.frame_blocks.Frame.{Frame}
use Rattle.inter_modes.specs.declared.quarters.Quarter.{Quarter}
use Rattle.inter_modes.specs.declared.quarters.QuartersBefore.{QuartersBefore}
use Rattle.inter_modes.specs.declared.vectors.Sources as held

-- the least id of a map over a block
abbrev pub least_of : SegmentIds → BlockAt → ℕ
least_of m at = least_id (id_map m) (part_inside (record { rows = m.rows; cols = m.cols }) at.row at.col at.size)

-- the vectors of the quarters before one are small
pub record AreSmallBefore (b : QuartersBefore) : Type 0 where
  pub best : AreSmall b.best
  pub first : AreSmall (row_vectors b.rows 0)
  pub second : AreSmall (row_vectors b.rows 1)
  pub third : AreSmall (row_vectors b.rows 2)

-- so are those of quarters that are read
abbrev pub AreSmallQuarters : List Quarter → Type 0
AreSmallQuarters qs = All (λ (q : Quarter). AreSmall q.vectors) qs

-- what is asked of an inter frame, as the code holds it
abbrev pub frame_in : Frame → InterFrame
frame_in f = record {
  header = f.setting.now.header;
  fields = f.fields.now;
  modes = f.setting.now.modes;
  contexts = lists_of f.setting.now.contexts;
}

-- what the blocks of any frame are read by, as the code holds it
abbrev pub block_sources_in : FrameSetting → Map → List BlockInfo → BlockSources
block_sources_in setting segments vectors = record {
  header = setting.header;
  modes = setting.modes;
  contexts = lists_of setting.contexts;
  segments = segments;
  vectors = vectors;
}

-- what a block's vectors are read by, as the code holds it
abbrev pub sources_in : {N Q : Type 0} → (N → List BlockInfo) → (Q → List BlockInfo) → held.Sources N Q → Sources
sources_in blocks blocks_before src = record {
  lists = vector_lists src.probs.now;
  allowed = src.high_precision;
  earlier = blocks src.earlier.now;
  before = blocks_of blocks_before (option_copied src.before);
  search = src.search;
}

-- a block that is read at a place: the next ones may stand beside it
pub record IsBlockAt (at : BlockAt) (b : BlockInfo) : Type 0 where
  pub row : b.row ≡ at.row
  pub col : b.col ≡ at.col
  pub size : b.size ≡ at.size
  pub segment : b.segment ≤ 7
  pub fits : tx_number b.tx ≤ greatest_of at.size
  pub small : HasSmallVectors b

-- references of a block have sizes from which a frame of a size can be predicted
abbrev pub AreInRange : FrameSize → header.References → ReferenceFrames → Type 0
AreInRange size refs r = (has_allowed_scale size (reference_in refs r.first) ≡ true) × (second_in_range size refs r.second ≡ true)

-- a block of an inter frame refers only to such
abbrev pub PredictsInRange : FrameSize → header.References → Prediction → Type 0
PredictsInRange size refs (Intra modes) = Unit {0}
PredictsInRange size refs (Inter modes) = AreInRange size refs modes.references

-- a block of any frame: one that refers at all stands in an inter frame
abbrev pub RefersInRange : Header → Prediction → Type 0
RefersInRange header (Intra modes) = Unit {0}
RefersInRange header (Inter modes) =
    (fields : InterFields) × (header.kind ≡ frame.Inter fields)
    × (has_allowed_scale header.size (reference_in fields.references modes.references.first) ≡ true)
    × (second_in_range header.size fields.references modes.references.second ≡ true)

-- what may be asked of the blocks before a block, and of those of the frame before, and how large their vectors are
pub record MaySearch {N Q : Type 0} (holds : N → ℕ → ℕ → Type 0) (blocks : N → List BlockInfo) (holds_before : Q → ℕ → ℕ → Type 0) (blocks_before : Q → List BlockInfo)
    (earlier : N) (before : Option Q) (s : MvSearch) : Type 0 where
  pub site : IsSite s
  pub held : (r c : ℕ) → r < s.places.rows → s.at.tile_from ≤ c → c < s.at.tile_to → holds earlier r c
  pub held_before : IfSome before (λ q. holds_before q s.at.row s.at.col)
  pub small : All HasSmallVectors (blocks earlier)
  pub small_before : All HasSmallVectors (blocks_of blocks_before before)

-- a block starts in a map, and its segment is one that a map holds
pub record IsMapped (m : SegmentIds) (b : BlockInfo) : Type 0 where
  pub row : b.row < m.rows
  pub col : b.col < m.cols
  pub segment : b.segment < 8

---- Intra blocks, size by size ----

unfoldable pub one_coded_mode : List ℕ → ℕ → Syntax ℕ Rule (Settled (List IntraMode))
one_coded_mode probs group = do
  mode ← intra_mode probs group
  settle (mode ∷ mode ∷ mode ∷ mode ∷ [])

-- 8x4: an upper and a lower one
unfoldable pub coded_mode_rows : List ℕ → Syntax ℕ Rule (Settled (List IntraMode))
coded_mode_rows probs = do
  upper ← intra_mode probs 0
  lower ← intra_mode probs 0
  settle (upper ∷ upper ∷ lower ∷ lower ∷ [])

-- 4x8: one at the left and one at the right
unfoldable pub coded_mode_columns : List ℕ → Syntax ℕ Rule (Settled (List IntraMode))
coded_mode_columns probs = do
  left ← intra_mode probs 0
  right ← intra_mode probs 0
  settle (left ∷ right ∷ left ∷ right ∷ [])

-- 4x4: one for each quarter
unfoldable pub four_coded_modes : List ℕ → Syntax ℕ Rule (Settled (List IntraMode))
four_coded_modes probs = do
  first ← intra_mode probs 0
  second ← intra_mode probs 0
  third ← intra_mode probs 0
  fourth ← intra_mode probs 0
  settle (first ∷ second ∷ third ∷ fourth ∷ [])

unfoldable pub coded_by_size : List ℕ → BlockSize → Syntax ℕ Rule (Settled (List IntraMode))
coded_by_size probs B4x4 = four_coded_modes probs
coded_by_size probs B4x8 = coded_mode_columns probs
coded_by_size probs B8x4 = coded_mode_rows probs
coded_by_size probs size = one_coded_mode probs (slice_index SIZE_GROUP (block_number size))

---- Quarters, size by size ----

-- 4x4: one after another
unfoldable pub four_quarters : Sources → List ℕ → ℕ → ReferenceFrames → List Mv → Quarters
four_quarters s probs context refs best =
    quarter s probs context refs 0 (before_of best nothing_before nothing_before nothing_before)
    >>? λ q. quarter s probs context refs 1 (before_of best q.vectors nothing_before nothing_before)
    >>? λ r. quarter s probs context refs 2 (before_of best q.vectors r.vectors nothing_before)
    >>? λ t. quarter s probs context refs 3 (before_of best q.vectors r.vectors t.vectors)
    >>? λ u. settle (Ok (q ∷ r ∷ t ∷ u ∷ []))

-- 4x8: one at the left and one at the right
unfoldable pub quarter_columns : Sources → List ℕ → ℕ → ReferenceFrames → List Mv → Quarters
quarter_columns s probs context refs best =
    quarter s probs context refs 0 (before_of best nothing_before nothing_before nothing_before)
    >>? λ q. quarter s probs context refs 1 (before_of best q.vectors nothing_before nothing_before)
    >>? λ r. settle (Ok (q ∷ r ∷ q ∷ r ∷ []))

-- 8x4: an upper and a lower one
unfoldable pub quarter_rows : Sources → List ℕ → ℕ → ReferenceFrames → List Mv → Quarters
quarter_rows s probs context refs best =
    quarter s probs context refs 0 (before_of best nothing_before nothing_before nothing_before)
    >>? λ q. quarter s probs context refs 2 (before_of best q.vectors q.vectors nothing_before)
    >>? λ r. settle (Ok (q ∷ q ∷ r ∷ r ∷ []))

unfoldable pub quarters_by_size : Sources → List ℕ → ℕ → ReferenceFrames → BlockSize → Quarters
quarters_by_size s probs context refs B4x8 = quarter_columns s probs context refs (best_mv s refs)
quarters_by_size s probs context refs B8x4 = quarter_rows s probs context refs (best_mv s refs)
quarters_by_size s probs context refs size = four_quarters s probs context refs (best_mv s refs)
