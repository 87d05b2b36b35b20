use Rattle.std.proofs.Common.{◌≡◌, ◌+◌, false, true, slice_get, slice_set, Some, ap, sym, subst}
use Rattle.vp9_types.specs.declared.job.JobName.{JobName}
use Rattle.job_order.specs.JobSegments.{job_at}
use Rattle.job_order.specs.Needs.{IsNeed}
use Rattle.job_order.specs.declared.segment.Segment.{Segment}
use Rattle.job_order.specs.Worlds.{and_published}
use Rattle.job_crew.specs.Code.{PoolParts, IsDone, Fits}
use Rattle.job_crew.specs.Events.{IsShop, IsDoneBy}
use Rattle.job_crew.proofs.Shops.{finishes, event_of, puts_same, puts_next}
use Rattle.job_crew.proofs.pool.Pool.finish.Goals as goal

pub invariant_of-self-2 : goal.invariant_of-self-2
invariant_of-self-2 g c =
    let there : job_at c.self.inside.segments.items (c.self.inside.marks.base + c.in-Some.at) ≡ Some c.args.news.job =
    subst (λ (v : PoolParts). job_at v.segments (v.base + c.in-Some.at) ≡ Some c.args.news.job) (sym c.self.view_is) c.in-Some.ensures.there in
    let unset : slice_get c.self.inside.marks.marks.items c.in-Some.at ≡ Some false =
    subst (λ (v : PoolParts). slice_get v.marks c.in-Some.at ≡ Some false) (sym c.self.view_is) c.in-Some.ensures.open in
    let needs : (need : JobName) → IsNeed c.self.inside.segments.items c.self.inside.window c.args.news.reads c.args.news.job need
    → IsDoneBy c.self.inside.segments.items c.self.inside.marks.base c.self.inside.marks.marks.items need =
    subst (λ (v : PoolParts). (need : JobName) → IsNeed v.segments v.window c.args.news.reads c.args.news.job need → IsDone v need) (sym c.self.view_is) (c.has_needs.ensures c.if-not-has_needs.false) in
    let shop : IsShop g.M.Meaning.rules g.M.Meaning.truth g.W.Window.window c.self.inside.segments.items c.self.inside.starts.items c.self.inside.drawn c.self.inside.marks.base
    c.self.inside.marks.marks.items false =
    subst (λ o. IsShop g.M.Meaning.rules g.M.Meaning.truth g.W.Window.window c.self.inside.segments.items c.self.inside.starts.items c.self.inside.drawn c.self.inside.marks.base
    c.self.inside.marks.marks.items o) c.if-self.false c.self.invariant.3 in
    let all =
    finishes g.M.Meaning.rules g.M.Meaning.truth c.self.inside.segments.items c.put_in.new.segments.items c.self.inside.starts.items c.put_in.new.starts.items c.self.inside.names.items
    c.self.inside.mark c.self.inside.published c.put_in.new.published c.self.inside.drawn c.self.invariant.0 g.W.Window.window c.self.inside.marks.base c.self.inside.marks.marks.items shop
    c.in-Some.at c.args.news.job there unset c.args.news.reads c.requires.covers
    (subst (λ i. (need : JobName) → IsNeed c.self.inside.segments.items i c.args.news.reads c.args.news.job need
    → IsDoneBy c.self.inside.segments.items c.self.inside.marks.base c.self.inside.marks.marks.items need) c.self.invariant.2 needs)
    c.args.value.now c.requires.right c.args.news.publishes c.args.news.ends c.requires.publishes c.requires.passed (c.put_in.ensures.yes c.if-not-put_in.false) in (
      all.0,
      c.self.invariant.1,
      c.self.invariant.2,
      rw c.set.ensures.base (rw c.set.ensures.set all.1),
    )

pub returns-clause-event : goal.returns-clause-event
returns-clause-event g c = λ _.
    let there : job_at c.self.inside.segments.items (c.self.inside.marks.base + c.in-Some.at) ≡ Some c.args.news.job =
    subst (λ (v : PoolParts). job_at v.segments (v.base + c.in-Some.at) ≡ Some c.args.news.job) (sym c.self.view_is) c.in-Some.ensures.there in
    let unset : slice_get c.self.inside.marks.marks.items c.in-Some.at ≡ Some false =
    subst (λ (v : PoolParts). slice_get v.marks c.in-Some.at ≡ Some false) (sym c.self.view_is) c.in-Some.ensures.open in
    let needs : (need : JobName) → IsNeed c.self.inside.segments.items c.self.inside.window c.args.news.reads c.args.news.job need
    → IsDoneBy c.self.inside.segments.items c.self.inside.marks.base c.self.inside.marks.marks.items need =
    subst (λ (v : PoolParts). (need : JobName) → IsNeed v.segments v.window c.args.news.reads c.args.news.job need → IsDone v need) (sym c.self.view_is) (c.has_needs.ensures c.if-not-has_needs.false) in
    let shop : IsShop g.M.Meaning.rules g.M.Meaning.truth g.W.Window.window c.self.inside.segments.items c.self.inside.starts.items c.self.inside.drawn c.self.inside.marks.base
    c.self.inside.marks.marks.items false =
    subst (λ o. IsShop g.M.Meaning.rules g.M.Meaning.truth g.W.Window.window c.self.inside.segments.items c.self.inside.starts.items c.self.inside.drawn c.self.inside.marks.base
    c.self.inside.marks.marks.items o) c.if-self.false c.self.invariant.3 in
    event_of g.M.Meaning.rules g.M.Meaning.truth c.self.inside.segments.items c.put_in.new.segments.items c.self.inside.starts.items c.put_in.new.starts.items c.self.inside.names.items
    c.self.inside.mark c.self.inside.published c.put_in.new.published c.self.inside.drawn c.self.invariant.0 g.W.Window.window c.self.inside.marks.base c.self.inside.marks.marks.items shop
    c.in-Some.at c.args.news.job there unset c.args.news.reads c.requires.covers
    (subst (λ i. (need : JobName) → IsNeed c.self.inside.segments.items i c.args.news.reads c.args.news.job need
    → IsDoneBy c.self.inside.segments.items c.self.inside.marks.base c.self.inside.marks.marks.items need) c.self.invariant.2 needs)
    c.args.value.now c.requires.right

pub returns-clause-yes : goal.returns-clause-yes
returns-clause-yes g c = λ _.
    let put = c.put_in.ensures.yes c.if-not-put_in.false in
    let fit : (s : Segment) → c.args.news.publishes ≡ Some s → Fits c.self.inside.segments.items s =
    puts_next c.self.inside.segments.items c.put_in.new.segments.items c.self.inside.starts.items c.put_in.new.starts.items c.self.inside.published c.put_in.new.published
    c.args.news.publishes put in
    let same : c.put_in.new.segments.items ≡ and_published c.self.inside.segments.items c.args.news.publishes =
    puts_same c.self.inside.segments.items c.put_in.new.segments.items c.self.inside.starts.items c.put_in.new.starts.items c.self.inside.published c.put_in.new.published
    c.args.news.publishes put in (
      c.in-Some.at,
      c.in-Some.ensures.there,
      c.in-Some.ensures.open,
      subst (λ (v : PoolParts). (s : Segment) → c.args.news.publishes ≡ Some s → Fits v.segments s) c.self.view_is fit,
      rw same (rw c.set.ensures.base (rw c.set.ensures.set
          (ap (λ (v : PoolParts). record v { segments = and_published v.segments c.args.news.publishes; marks = slice_set v.marks c.in-Some.at true; over = c.args.news.ends }) c.self.view_is))),
    )
