-- The modes and vectors of an inter block (6.4.16 and 6.4.18 of the standard: inter_block_mode_info, assign_mv).
use Rattle.std.specs.Prelude.{ℕ, ◌*◌, Bool, List, [], ◌∷◌, Option, Some, None, Result, Ok, Err, drop, slice_index_or, nat_eq, if◌then◌else◌}
use Rattle.vp9_types.specs.Syntax.{Syntax}
use Rattle.vp9_types.specs.declared.block.BlockSize.{BlockSize}
use Rattle.vp9_types.specs.declared.block.InterMode.{InterMode}
use Rattle.vp9_types.specs.declared.block.InterMode.TheVariants.{Nearest, Near, Zero, New}
use Rattle.vp9_types.specs.declared.block.ReferenceFrame.{ReferenceFrame}
use Rattle.vp9_types.specs.declared.rule.Rule.{Rule}
use Rattle.vp9_tables.specs.SymbolTrees.{inter_mode_tree}
use Rattle.prob_contexts.specs.ProbLists.{VectorLists}
use Rattle.prob_contexts.specs.declared.kind.ProbKind.TheVariants as kind
use Rattle.block_geometry.specs.Quarters.{starting_quarters, with_part}
use Rattle.block_plan.specs.BlockMvs.{no_vector, vector_at}
use Rattle.block_plan.specs.declared.block.BlockInfo.{BlockInfo}
use Rattle.block_plan.specs.declared.block.Mv.{Mv}
use Rattle.block_plan.specs.declared.block.ReferenceFrames.{ReferenceFrames}
use Rattle.counting_reader.specs.Counting.{Settled, settle, ◌>>=◌}
use Rattle.counting_reader.specs.CountedSymbols.{counted_tree}
use Rattle.mv_prediction.specs.Candidates.{ref_list_mv}
use Rattle.mv_prediction.specs.SubBlocks.{near_vectors, sub_block_vectors}
use Rattle.mv_prediction.specs.declared.search.MvSearch.{MvSearch}
use Rattle.mv_prediction.specs.declared.sub_blocks.NearVectors.{NearVectors}
use Rattle.mv_syntax.specs.Differences.{new_vector}
use Rattle.inter_modes.specs.declared.quarters.Quarter.{Quarter}
use Rattle.inter_modes.specs.declared.quarters.QuartersBefore.{QuartersBefore}

---- What goes on unless a rule is broken ----

-- A rule ends a block behind what it read: it is what the block settles on.
abbrev pub carried : {A B : Type 0} → (A → Syntax ℕ Rule (Settled (Result B Rule))) → Result A Rule → Syntax ℕ Rule (Settled (Result B Rule))
carried f (Ok x) = f x
carried f (Err rule) = settle (Err rule)

infixl 10 ◌>>?◌
abbrev pub ◌>>?◌ : {A B : Type 0} → Syntax ℕ Rule (Settled (Result A Rule)) → (A → Syntax ℕ Rule (Settled (Result B Rule))) → Syntax ℕ Rule (Settled (Result B Rule))
s >>? f = s >>= carried f

---- Modes ----

abbrev pub inter_of : ℕ → InterMode
inter_of n = if nat_eq n 0 then Nearest else (if nat_eq n 1 then Near else (if nat_eq n 2 then Zero else New))

unfoldable pub inter_mode : List ℕ → ℕ → Syntax ℕ Rule (Settled InterMode)
inter_mode probs context = do
  number ← counted_tree kind.InterMode (3 * context) inter_mode_tree (drop (3 * context) probs)
  settle (inter_of number)

---- Vectors of a mode ----

-- what vectors are read by: the probabilities, whether the frame allows high precision, the blocks before and those of the
-- frame before, the block
pub record Sources : Type 0 where
  pub lists : VectorLists
  pub allowed : Bool
  pub earlier : List BlockInfo
  pub before : List BlockInfo
  pub search : MvSearch

-- of one list: the best vector of the block, and the nearest and near one
unfoldable pub vector_of_mode : Sources → InterMode → Mv → NearVectors → Syntax ℕ Rule (Settled (Result Mv Rule))
vector_of_mode s Nearest best near = settle (Ok near.nearest)
vector_of_mode s Near best near = settle (Ok near.near)
vector_of_mode s Zero best near = settle (Ok no_vector)
vector_of_mode s New best near = new_vector s.lists s.allowed best

-- BestMv, NearestMv and NearMv of a reference
abbrev pub near_of_block : Sources → ReferenceFrame → NearVectors
near_of_block s reference = near_vectors s.allowed (ref_list_mv s.earlier s.before s.search reference None)

-- NearestMv and NearMv of a quarter, from the vectors of those before it
abbrev pub near_of_quarter : Sources → ReferenceFrame → ℕ → List Mv → NearVectors
near_of_quarter s reference k quarters = sub_block_vectors k (ref_list_mv s.earlier s.before s.search reference (Some k)) quarters

-- of one reference: of the whole block, or of its k-th quarter
unfoldable pub block_vector : Sources → InterMode → ReferenceFrame → Syntax ℕ Rule (Settled (Result Mv Rule))
block_vector s mode reference =
    vector_of_mode s mode (near_of_block s reference).nearest (near_of_block s reference)

-- a second vector, if there is a second reference
unfoldable pub with_second : Mv → Option ReferenceFrame → (ReferenceFrame → Syntax ℕ Rule (Settled (Result Mv Rule))) → Syntax ℕ Rule (Settled (Result (List Mv) Rule))
with_second first None vector = settle (Ok (first ∷ no_vector ∷ []))
with_second first (Some reference) vector = vector reference >>? λ second. settle (Ok (first ∷ second ∷ []))

unfoldable pub block_vectors : Sources → InterMode → ReferenceFrames → Syntax ℕ Rule (Settled (Result (List Mv) Rule))
block_vectors s mode refs = block_vector s mode refs.first >>? λ first. with_second first refs.second (block_vector s mode)

---- Quarters of blocks below 8x8 ----

-- the best vector of each reference, 0 where there is none
abbrev pub second_best : Sources → Option ReferenceFrame → Mv
second_best s None = no_vector
second_best s (Some reference) = (near_of_block s reference).nearest

abbrev pub best_mv : Sources → ReferenceFrames → List Mv
best_mv s refs = (near_of_block s refs.first).nearest ∷ second_best s refs.second ∷ []

abbrev pub row_vectors : List (List Mv) → ℕ → List Mv
row_vectors rows k = slice_index_or rows k []

-- the vectors of a list of the three quarters before the last
abbrev pub of_list : ℕ → List (List Mv) → List Mv
of_list list rows = vector_at (row_vectors rows 0) list ∷ vector_at (row_vectors rows 1) list ∷ vector_at (row_vectors rows 2) list ∷ []

-- of one list: of the k-th quarter
unfoldable pub quarter_vector : Sources → InterMode → ReferenceFrame → ℕ → ℕ → QuartersBefore → Syntax ℕ Rule (Settled (Result Mv Rule))
quarter_vector s mode reference list k before =
    vector_of_mode s mode (vector_at before.best list) (near_of_quarter s reference k (of_list list before.rows))

unfoldable pub quarter_vectors : Sources → InterMode → ReferenceFrames → ℕ → QuartersBefore → Syntax ℕ Rule (Settled (Result (List Mv) Rule))
quarter_vectors s mode refs k before =
    quarter_vector s mode refs.first 0 k before
    >>? λ first. with_second first refs.second (λ reference. quarter_vector s mode reference 1 k before)

-- a quarter's mode and vectors
unfoldable pub quarter : Sources → List ℕ → ℕ → ReferenceFrames → ℕ → QuartersBefore → Syntax ℕ Rule (Settled (Result Quarter Rule))
quarter s probs context refs k before = do
  mode ← inter_mode probs context
  quarter_vectors s mode refs k before >>? λ vectors. settle (Ok (record { mode = mode; vectors = vectors }))

abbrev pub nothing_before : List Mv
nothing_before = no_vector ∷ no_vector ∷ []

-- the quarters before one: none, the first, the first two, the first three
abbrev pub before_of : List Mv → List Mv → List Mv → List Mv → QuartersBefore
before_of best q r t = record { best = best; rows = q ∷ r ∷ t ∷ [] }

abbrev pub Quarters : Type 0
Quarters = Syntax ℕ Rule (Settled (Result (List Quarter) Rule))

-- one that isn't read yet
abbrev pub unread : Quarter
unread = record { mode = Zero; vectors = nothing_before }

abbrev pub vectors_of : List Quarter → ℕ → List Mv
vectors_of known k = (slice_index_or known k unread).vectors

-- how the k-th quarter is read, by those before it
abbrev pub ReadQuarter : Type 0
ReadQuarter = ℕ → QuartersBefore → Syntax ℕ Rule (Settled (Result Quarter Rule))

-- of the parts that begin at some quarters, one after another, by the vectors of those that are known
unfoldable pub each_quarter : ReadQuarter → BlockSize → List Mv → List ℕ → List Quarter → Quarters
each_quarter read size best [] known = settle (Ok known)
each_quarter read size best (k ∷ rest) known =
    read k (before_of best (vectors_of known 0) (vectors_of known 1) (vectors_of known 2))
    >>? λ q. each_quarter read size best rest (with_part size k q known)

-- the quarters of a block below 8x8
unfoldable pub quarters : Sources → List ℕ → ℕ → ReferenceFrames → BlockSize → Quarters
quarters s probs context refs size =
    each_quarter (quarter s probs context refs) size (best_mv s refs) (starting_quarters size) (unread ∷ unread ∷ unread ∷ unread ∷ [])
