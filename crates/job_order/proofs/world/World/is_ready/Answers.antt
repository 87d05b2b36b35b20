use Rattle.std.proofs.Common.{◌∙◌, refl, sym, ap, subst, reverse}
use Rattle.job_order.specs.JobSegments.{IsBelow}
use Rattle.job_order.specs.Needs.{IsNeed}
use Rattle.job_order.specs.Worlds.{IsFinished, IsReady}
use Rattle.job_order.specs.Code.{Names}
use Rattle.job_order.proofs.Readiness.{ready_from, named_of}
use Rattle.job_order.proofs.world.World.is_ready.Goals as goal

pub returns-clause-yes : goal.returns-clause-yes
returns-clause-yes g c = λ yes.
    subst (λ w. IsReady g.M.Meaning.rules w c.args.job) c.self.view_is
    (ready_from g.M.Meaning.rules _ c.args.job c.needs_of-needs.result c.args.reads
    (c.requires.reads ∙ ap (λ w. g.M.Meaning.rules.reads c.args.job w.finished) (sym c.self.view_is))
    (subst (λ s. IsBelow s c.self.inside.drawn c.args.job) c.deref.ensures.value (c.if-not-is_drawn.ensures.yes refl))
    (subst (λ l. IsFinished (reverse l) c.args.job → ⊥) c.deref-else-not-is_drawn.ensures.value (c.if-is_done.ensures.no refl))
    (λ need. subst (λ s. IsNeed s c.self.inside.window c.args.reads c.args.job need → Names s c.needs_of-needs.result need) c.deref-2.ensures.value (c.needs_of-needs.ensures need).0)
    (λ need.
    subst (λ l. Names c.self.inside.segments.items c.needs_of-needs.result need → IsFinished (reverse l) need) c.deref-4.ensures.value
    (subst (λ s. Names s c.needs_of-needs.result need → IsFinished (reverse c.deref-4.result.now) need) c.deref-3.ensures.value (c.are_done.ensures.yes yes need))))

pub returns-clause-no : goal.returns-clause-no
returns-clause-no g c = λ no ready.
    c.are_done.ensures.no no
    (λ need.
    subst (λ l. Names c.deref-3.result.now c.needs_of-needs.result need → IsFinished (reverse l) need) (sym c.deref-4.ensures.value)
    (subst (λ s. Names s c.needs_of-needs.result need → IsFinished (reverse c.self.inside.finished.items) need) (sym c.deref-3.ensures.value)
    (named_of g.M.Meaning.rules _ c.args.job c.needs_of-needs.result c.args.reads
    (c.requires.reads ∙ ap (λ w. g.M.Meaning.rules.reads c.args.job w.finished) (sym c.self.view_is))
    (λ other. subst (λ s. Names s c.needs_of-needs.result other → IsNeed s c.self.inside.window c.args.reads c.args.job other) c.deref-2.ensures.value (c.needs_of-needs.ensures other).1)
    (subst (λ w. IsReady g.M.Meaning.rules w c.args.job) (sym c.self.view_is) ready) need)))
