use Rattle.std.proofs.Common.{◌<◌, ◌≤◌, ◌∙◌, refl, sym, length, take, arith}
use Rattle.std.proofs.lemmas.List.{length-set, take_more_set}
use Rattle.std.proofs.lemmas.List.Elements.{All-push}
use Rattle.backward_adapt.specs.Adaptation.{rate_of, adapted_from}
use Rattle.prob_contexts.specs.Code.{counter_of}
use Rattle.backward_adapt.proofs.Agreeing.{all_merged}
use Rattle.backward_adapt.proofs.Steps.{adapt_step, all_kept}
use Rattle.backward_adapt.proofs.lists.FrameCounts.adapt_from.Goals as goal

pub returns-in_default-clause-value : goal.returns-in_default-clause-value
unfolding adapted_from
returns-in_default-clause-value c = λ times tells.
    all_kept (rate_of c.args.self.now.frame c.args.kind) times c.args.kind c.args.from c.args.saved.now c.args.probs.now (sym c.in_default.ensures) c.requires.size

pub returns-clause-value : goal.returns-clause-value
unfolding adapted_from
returns-clause-value c = λ times tells.
    all_merged (rate_of c.args.self.now.frame c.args.kind) c.in-Some.rate c.args.self.now.counts.now times c.args.kind c.args.from c.loop-i.i c.args.saved.now c.loop-i.probs c.args.probs.now
    (sym c.rate_of.ensures ∙ c.in-Some.is) c.loop-i.invariant.size (omega arith) (omega arith) c.loop-i.invariant.done tells c.requires.within

pub loop-i-init : goal.loop-i-init
loop-i-init c = record { size = c.requires.size; done = refl; kept = λ k d low. let no : ⊥ = omega arith in absurd no }

pub loop-i-preserved : goal.loop-i-preserved
loop-i-preserved c =
    let same = c.loop-i.invariant in
    let low : c.loop-i.i < length c.loop-i.probs = omega arith in
    record {
      size = length-set _ _ _ ∙ same.size;
      done = adapt_step c.in-Some.rate (counter_of c.args.self.now.counts.now) c.args.kind c.args.from c.args.saved.now c.loop-i.probs c.loop-i.i c.merge_prob.result low same.done
          (rw (c.counter-zeros.ensures, c.counter-ones.ensures) at c.merge_prob.ensures.value);
      kept = rw (take_more_set c.loop-i.probs c.loop-i.i c.merge_prob.result low) (All-push (λ p. 1 ≤ p) (take c.loop-i.i c.loop-i.probs) c.merge_prob.result same.kept c.merge_prob.ensures.least);
    }
