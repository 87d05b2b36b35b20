use Rattle.std.proofs.Common.{◌≡◌, ◌≤◌, true, length, rules}
use Rattle.vp9_tables.specs.Scans.{area}
use Rattle.prob_contexts.specs.ProbLists.{lists_of}
use Rattle.token_writer.proofs.Turns.{can_by}
use Rattle.writer_tests.proofs.token_tests.writes.Goals as goal

pub put_tokens-requires-clause-can : goal.put_tokens-requires-clause-can
put_tokens-requires-clause-can g c =
    let room : length c.args.row.now.coded.now ≤ area c.args.row.now.at.tx = search rules in
    let ends : c.ends_in_a_level.result ≡ true = search rules in
    can_by _ (lists_of c.default_contexts-contexts.result) _ _ _ c.new-tables.ensures.are c.place_levels.ensures.size room c.place_levels.ensures.small c.place_levels.ensures.others
    (c.ends_in_a_level.ensures ends)
