-- What the code keeps while it searches.
use Rattle.std.specs.Prelude.{ℕ, Bool, true, false, ◌<◌, ◌≤◌, List, [], ◌∷◌, Option, Some, None, if◌then◌else◌}
use Rattle.std.specs.List.{All, fold, flat_map, range_with_len}
use Rattle.block_plan.specs.BlockMvs.{no_vector, vector_of}
use Rattle.block_plan.specs.declared.block.BlockInfo.{BlockInfo}
use Rattle.block_plan.specs.declared.block.Mv.{Mv}
use Rattle.block_plan.specs.declared.block.Prediction.{Prediction}
use Rattle.block_plan.specs.declared.block.Prediction.TheVariants.{Intra, Inter}
use Rattle.mv_prediction.specs.Vectors.{same_vector, IsSmallVector}
use Rattle.mv_prediction.specs.declared.found.Found.{Found}
use Rattle.mv_prediction.specs.declared.found.Found.TheVariants.{Nothing, One, Two}
use Rattle.mv_prediction.specs.declared.search.MvSearch.{MvSearch}

-- a block lies in its frame and its tile
pub record IsSite (s : MvSearch) : Type 0 where
  pub row : s.at.row < s.places.rows
  pub first : s.at.tile_from ≤ s.at.col
  pub last : s.at.col < s.at.tile_to
  pub tile : s.at.tile_to ≤ s.places.cols

-- the first two vectors that differ, as far as they are found
abbrev pub with_vector : Found → Mv → Found
with_vector Nothing v = One v
with_vector (One u) v = if same_vector u v then One u else Two u v
with_vector (Two u w) v = Two u w

unfoldable pub with_vectors : Found → List Mv → Found
with_vectors found vs = fold with_vector found vs

-- those of the n places from one on
unfoldable pub with_places : (ℕ → List Mv) → Found → ℕ → ℕ → Found
with_places f found from n = with_vectors found (flat_map f (range_with_len from n))

abbrev pub vectors_in : Found → List Mv
vectors_in Nothing = no_vector ∷ no_vector ∷ []
vectors_in (One u) = u ∷ no_vector ∷ []
vectors_in (Two u w) = u ∷ w ∷ []

abbrev pub is_full : Found → Bool
is_full Nothing = false
is_full (One u) = false
is_full (Two u w) = true

abbrev pub IsSmallFound : Found → Type 0
IsSmallFound Nothing = Unit {0}
IsSmallFound (One u) = IsSmallVector u
IsSmallFound (Two u w) = IsSmallVector u × IsSmallVector w

-- The vectors of a block, as all that are read, are small.
abbrev pub PredictsSmall : Prediction → Type 0
PredictsSmall (Intra p) = Unit {0}
PredictsSmall (Inter p) = (quarter list : ℕ) → IsSmallVector (vector_of p quarter list)

abbrev pub HasSmallVectors : BlockInfo → Type 0
HasSmallVectors b = PredictsSmall b.prediction

-- two vectors that are small
abbrev pub AreSmall : List Mv → Type 0
AreSmall vs = All IsSmallVector vs

-- the blocks of the frame before; none where they aren't used
abbrev pub blocks_of : {Q : Type 0} → (Q → List BlockInfo) → Option Q → List BlockInfo
blocks_of blocks (Some q) = blocks q
blocks_of blocks None = []
