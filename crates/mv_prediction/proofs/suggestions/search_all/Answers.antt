use Rattle.std.proofs.Common.{◌≡◌, [], None, rules, true}
use Rattle.std.specs.List.{flat_map, range_with_len}
use Rattle.std.specs.Option.{option_copied}
use Rattle.block_plan.specs.Blocks.{covering}
use Rattle.mv_prediction.specs.Candidates.{candidate_vectors, own_at, own_of, others_at, others_of}
use Rattle.mv_prediction.specs.Code.{with_places, with_vectors, blocks_of, is_full}
use Rattle.mv_prediction.proofs.Founds.{all_parts, three_parts_full, two_parts_full, one_part_full}
use Rattle.mv_prediction.proofs.suggestions.search_all.Goals as goal

pub returns-then-is_full-clause-is : goal.returns-then-is_full-clause-is
unfolding candidate_vectors with_places
returns-then-is_full-clause-is g c =
    let s = c.args.search.now in
    let reference = c.args.wanted.reference in
    let earlier = g.N.Neighbours.blocks c.args.earlier.now in
    let block = covering (blocks_of g.Q.Neighbours.blocks (option_copied c.args.before)) s.at.row s.at.col in
    let full : is_full c.with_first_two-found.result ≡ true = search rules in
    one_part_full (flat_map (own_at earlier s reference c.args.wanted.sub) (range_with_len 0 2)) (flat_map (own_at earlier s reference None) (range_with_len 2 6))
    (own_of reference None [] block) (flat_map (others_at earlier s reference) (range_with_len 0 8)) (others_of s.biases reference block)
    c.with_first_two-found.result c.with_first_two-found.ensures.is full

pub returns-then-is_full-2-clause-is : goal.returns-then-is_full-2-clause-is
unfolding candidate_vectors with_places
returns-then-is_full-2-clause-is g c =
    let s = c.args.search.now in
    let reference = c.args.wanted.reference in
    let earlier = g.N.Neighbours.blocks c.args.earlier.now in
    let block = covering (blocks_of g.Q.Neighbours.blocks (option_copied c.args.before)) s.at.row s.at.col in
    let full : is_full c.with_other_six-found.result ≡ true = search rules in
    two_parts_full (flat_map (own_at earlier s reference c.args.wanted.sub) (range_with_len 0 2)) (flat_map (own_at earlier s reference None) (range_with_len 2 6))
    (own_of reference None [] block) (flat_map (others_at earlier s reference) (range_with_len 0 8)) (others_of s.biases reference block)
    c.with_first_two-found.result c.with_other_six-found.result c.with_first_two-found.ensures.is c.with_other_six-found.ensures.is full

pub returns-then-is_full-3-clause-is : goal.returns-then-is_full-3-clause-is
unfolding candidate_vectors with_places
returns-then-is_full-3-clause-is g c =
    let s = c.args.search.now in
    let reference = c.args.wanted.reference in
    let earlier = g.N.Neighbours.blocks c.args.earlier.now in
    let block = covering (blocks_of g.Q.Neighbours.blocks (option_copied c.args.before)) s.at.row s.at.col in
    let full : is_full c.with_own_before-found.result ≡ true = search rules in
    let own : c.with_own_before-found.result ≡ with_vectors c.with_other_six-found.result (own_of reference None [] block) =
    rw c.block_before-block.ensures.is at c.with_own_before-found.ensures.is in
    three_parts_full (flat_map (own_at earlier s reference c.args.wanted.sub) (range_with_len 0 2)) (flat_map (own_at earlier s reference None) (range_with_len 2 6))
    (own_of reference None [] block) (flat_map (others_at earlier s reference) (range_with_len 0 8)) (others_of s.biases reference block)
    c.with_first_two-found.result c.with_other_six-found.result c.with_own_before-found.result
    c.with_first_two-found.ensures.is c.with_other_six-found.ensures.is own full

pub returns-clause-is : goal.returns-clause-is
unfolding candidate_vectors with_places
returns-clause-is g c =
    let s = c.args.search.now in
    let reference = c.args.wanted.reference in
    let earlier = g.N.Neighbours.blocks c.args.earlier.now in
    let block = covering (blocks_of g.Q.Neighbours.blocks (option_copied c.args.before)) s.at.row s.at.col in
    let own : c.with_own_before-found.result ≡ with_vectors c.with_other_six-found.result (own_of reference None [] block) =
    rw c.block_before-block.ensures.is at c.with_own_before-found.ensures.is in
    let others : c.with_others_before.result ≡ with_vectors c.with_turned-found.result (others_of s.biases reference block) =
    rw c.block_before-block.ensures.is at c.with_others_before.ensures.is in
    all_parts (flat_map (own_at earlier s reference c.args.wanted.sub) (range_with_len 0 2)) (flat_map (own_at earlier s reference None) (range_with_len 2 6))
    (own_of reference None [] block) (flat_map (others_at earlier s reference) (range_with_len 0 8)) (others_of s.biases reference block)
    c.with_first_two-found.result c.with_other_six-found.result c.with_own_before-found.result c.with_turned-found.result c.with_others_before.result
    c.with_first_two-found.ensures.is c.with_other_six-found.ensures.is own c.with_turned-found.ensures.is others
