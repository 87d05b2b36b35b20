-- The nearest and the near vector of a block, and of the quarters of one below 8x8 (6.5 of the standard: find_best_ref_mvs,
-- append_sub8x8_mvs).
use Rattle.std.specs.Prelude.{ℕ, List, ◌∷◌, Bool, nat_eq, nat_lt, if◌then◌else◌}
use Rattle.block_plan.specs.BlockMvs.{vector_at}
use Rattle.block_plan.specs.declared.block.Mv.{Mv}
use Rattle.mv_prediction.specs.Candidates.{other_than}
use Rattle.mv_prediction.specs.Vectors.{usable_precision}
use Rattle.mv_prediction.specs.declared.sub_blocks.NearVectors.{NearVectors}

-- The nearest is the best one too, to which differences are added.
unfoldable pub near_vectors : Bool → List Mv → NearVectors
near_vectors allowed candidates = record {
  nearest = usable_precision allowed (vector_at candidates 0);
  near = usable_precision allowed (vector_at candidates 1);
}

-- a vector, and the first of a list that differs from it
abbrev pub beside : Mv → List Mv → NearVectors
beside nearest others = record { nearest = nearest; near = other_than nearest others }

-- Of a quarter, from its own candidates and the vectors of the quarters before it.
unfoldable pub sub_block_vectors : ℕ → List Mv → List Mv → NearVectors
sub_block_vectors sub candidates quarters =
    if nat_eq sub 0 then record { nearest = vector_at candidates 0; near = vector_at candidates 1 }
    else (if nat_lt sub 3 then beside (vector_at quarters 0) candidates
    else beside (vector_at quarters 2) (vector_at quarters 1 ∷ vector_at quarters 0 ∷ candidates))
