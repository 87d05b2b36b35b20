use Rattle.std.proofs.Common.{◌≡◌, ℕ, ◌+◌, ◌-◌, ◌∙◌, ap, refl, arith, rules, None, true}
use Rattle.mv_prediction.specs.Candidates.{own_at}
use Rattle.mv_prediction.specs.Code.{with_places, with_vectors, is_full}
use Rattle.mv_prediction.proofs.Founds.{no_places, places_more, full_places}
use Rattle.mv_prediction.proofs.suggestions.with_other_six.Goals as goal

pub loop-k-init : goal.loop-k-init
loop-k-init g c = record {
  is = no_places (own_at (g.N.Neighbours.blocks c.args.earlier.now) c.args.search.now c.args.reference None) c.args.found 2 0 refl;
  small = c.requires.found;
}

pub loop-k-preserved : goal.loop-k-preserved
loop-k-preserved g c =
    let f = own_at (g.N.Neighbours.blocks c.args.earlier.now) c.args.search.now c.args.reference None in
    let k = c.loop-k.k in
    record {
      is = c.with_own_at-all.ensures.is ∙ (ap (λ found. with_vectors found (f k)) c.loop-k.invariant.is ∙ places_more f c.args.found 2 (k - 2) k (k + 1 - 2) (omega arith) (omega arith));
      small = c.with_own_at-all.ensures.small;
    }

pub returns-then-is_full-clause-is : goal.returns-then-is_full-clause-is
returns-then-is_full-clause-is g c =
    let f = own_at (g.N.Neighbours.blocks c.args.earlier.now) c.args.search.now c.args.reference None in
    let k = c.loop-k.k in
    let full : is_full c.with_own_at-all.result ≡ true = search rules in
    let here : c.with_own_at-all.result ≡ with_places f c.args.found 2 (k + 1 - 2) =
    c.with_own_at-all.ensures.is ∙ (ap (λ found. with_vectors found (f k)) c.loop-k.invariant.is ∙ places_more f c.args.found 2 (k - 2) k (k + 1 - 2) (omega arith) (omega arith)) in
    full_places f c.args.found c.with_own_at-all.result 2 (k + 1 - 2) 6 (7 - k) (omega arith) here full

pub returns-clause-is : goal.returns-clause-is
returns-clause-is g c =
    let f = own_at (g.N.Neighbours.blocks c.args.earlier.now) c.args.search.now c.args.reference None in
    let end : c.loop-k.k - 2 ≡ 6 = omega arith in
    c.loop-k.invariant.is ∙ ap (λ (n : ℕ). with_places f c.args.found 2 n) end
