use Rattle.std.proofs.Common.{◌<◌, ◌∙◌, refl, length, arith}
use Rattle.std.proofs.lemmas.List.{length-set}
use Rattle.prob_contexts.specs.Code.{joined_counts}
use Rattle.prob_contexts.proofs.Joining.{add_step, rest_step}
use Rattle.prob_contexts.proofs.counts.add_each.Goals as goal

pub loop-i-init : goal.loop-i-init
unfolding joined_counts
loop-i-init c = record { size = refl; done = refl; rest = refl }

pub loop-i-preserved : goal.loop-i-preserved
loop-i-preserved c =
    let low : c.loop-i.i < length c.loop-i.counters = omega arith in
    let same = c.loop-i.invariant in
    record {
      size = length-set _ _ _ ∙ same.size;
      done = add_step c.loop-i.counters c.args.counters.now c.args.more.now c.loop-i.i c.saturating_add.result low same.size c.requires same.done same.rest c.saturating_add.ensures;
      rest = rest_step c.loop-i.counters c.args.counters.now c.loop-i.i c.saturating_add.result same.rest;
    }
