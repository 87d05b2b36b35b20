-- What is suggested for a block depends on the blocks of its tile's columns alone.
use Rattle.std.proofs.Common.{◌≡◌, ℕ, ◌+◌, ◌<◌, ◌≤◌, ◌++◌, [], ℤ, pos, Bool, true, false, ◌&&◌, List, refl, ap, arith, Option, Some, None, if◌then◌else◌, map}
use Rattle.std.specs.Prelude.{◌+ℤ◌, int_le, int_lt, unsigned_abs, slice_index, slice_index_or}
use Rattle.std.specs.List.{flat_map, range_with_len}
use Rattle.std.proofs.lemmas.Int.{ints}
use Rattle.vp9_types.specs.declared.block.ReferenceFrame.{ReferenceFrame}
use Rattle.vp9_tables.specs.declared.data.motion.TheConstants.{COUNTER_TO_CONTEXT}
use Rattle.block_plan.specs.Blocks.{covering}
use Rattle.block_plan.specs.declared.block.BlockInfo.{BlockInfo}
use Rattle.mv_prediction.specs.Candidates.{moved, at_both, neighbour, offset_of, own_of, others_of, counter_of, candidate_vectors, first_two, mode_context, ref_list_mv}
use Rattle.mv_prediction.specs.Laws.{SameIn}
use Rattle.mv_prediction.specs.Vectors.{clamp_mv_ref}
use Rattle.mv_prediction.specs.declared.search.MvSearch.{MvSearch}

-- a moved place lies between the two
lies : (z : ℤ) (from to : ℕ) → int_le (pos from) z ≡ true → int_lt z (pos to) ≡ true → (from ≤ unsigned_abs z) × (unsigned_abs z < to)
lies z from to low high = (omega (arith, ints), omega (arith, ints))

same_at : (xs ys : List BlockInfo) (row : Option ℕ) (z : ℤ) (from to : ℕ) (a b : Bool) → int_le (pos from) z ≡ a → int_lt z (pos to) ≡ b → SameIn from to xs ys
    → at_both (covering xs) row (if a && b then Some (unsigned_abs z) else None) ≡ at_both (covering ys) row (if a && b then Some (unsigned_abs z) else None)
same_at xs ys None z from to a b low high same = refl
same_at xs ys (Some r) z from to true true low high same = let p = lies z from to low high in same r (unsigned_abs z) p.0 p.1
same_at xs ys (Some r) z from to true false low high same = refl
same_at xs ys (Some r) z from to false b low high same = refl

pub same_neighbour : (xs ys : List BlockInfo) (s : MvSearch) (k : ℕ) → SameIn s.at.tile_from s.at.tile_to xs ys → neighbour xs s k ≡ neighbour ys s k
unfolding neighbour
same_neighbour xs ys s k same =
    let z = pos s.at.col +ℤ slice_index_or (offset_of s.at.size k) 1 (pos 0) in
    same_at xs ys (moved s.at.row (slice_index_or (offset_of s.at.size k) 0 (pos 0)) 0 s.places.rows) z s.at.tile_from s.at.tile_to
    (int_le (pos s.at.tile_from) z) (int_lt z (pos s.at.tile_to)) refl refl same

pub same_context : (xs ys : List BlockInfo) (s : MvSearch) → SameIn s.at.tile_from s.at.tile_to xs ys → mode_context xs s ≡ mode_context ys s
unfolding mode_context
same_context xs ys s same =
    λ i. slice_index COUNTER_TO_CONTEXT (counter_of (same_neighbour xs ys s 0 same i) + counter_of (same_neighbour xs ys s 1 same i))

same_list : (xs ys xs_before ys_before : List BlockInfo) (s : MvSearch) (reference : ReferenceFrame) (sub : Option ℕ)
    → ((k : ℕ) → neighbour xs s k ≡ neighbour ys s k) → covering xs_before s.at.row s.at.col ≡ covering ys_before s.at.row s.at.col
    → candidate_vectors xs xs_before s reference sub ≡ candidate_vectors ys ys_before s reference sub
unfolding candidate_vectors
same_list xs ys xs_before ys_before s reference sub same before = λ i.
    flat_map (λ k. own_of reference sub (offset_of s.at.size k) (same k i)) (range_with_len 0 2)
    ++ flat_map (λ k. own_of reference None (offset_of s.at.size k) (same k i)) (range_with_len 2 6)
    ++ own_of reference None [] (before i)
    ++ flat_map (λ k. others_of s.biases reference (same k i)) (range_with_len 0 8)
    ++ others_of s.biases reference (before i)

pub same_candidates : (s : MvSearch) (xs ys xs_before ys_before : List BlockInfo) (reference : ReferenceFrame) (sub : Option ℕ)
    → SameIn s.at.tile_from s.at.tile_to xs ys → SameIn s.at.tile_from s.at.tile_to xs_before ys_before → s.at.tile_from ≤ s.at.col → s.at.col < s.at.tile_to
    → ref_list_mv xs xs_before s reference sub ≡ ref_list_mv ys ys_before s reference sub
unfolding ref_list_mv
same_candidates s xs ys xs_before ys_before reference sub same before first last =
    ap (λ vs. map (clamp_mv_ref s) (first_two vs)) (same_list xs ys xs_before ys_before s reference sub (λ k. same_neighbour xs ys s k same) (before s.at.row s.at.col first last))
