use Rattle.std.proofs.Common.{◌≡◌, ℕ, ◌+◌, ◌-◌, ◌∙◌, ap, refl, arith, rules, true}
use Rattle.mv_prediction.specs.Candidates.{others_at}
use Rattle.mv_prediction.specs.Code.{with_places, with_vectors, is_full}
use Rattle.mv_prediction.proofs.Founds.{no_places, places_more, full_places}
use Rattle.mv_prediction.proofs.suggestions.with_turned.Goals as goal

pub loop-k-init : goal.loop-k-init
loop-k-init g c = record {
  is = no_places (others_at (g.N.Neighbours.blocks c.args.earlier.now) c.args.search.now c.args.wanted) c.args.found 0 0 refl;
  small = c.requires.found;
}

pub loop-k-preserved : goal.loop-k-preserved
loop-k-preserved g c =
    let f = others_at (g.N.Neighbours.blocks c.args.earlier.now) c.args.search.now c.args.wanted in
    let k = c.loop-k.k in
    record {
      is = c.with_others_at-all.ensures.is ∙ (ap (λ found. with_vectors found (f k)) c.loop-k.invariant.is ∙ places_more f c.args.found 0 k k (k + 1) (omega arith) refl);
      small = c.with_others_at-all.ensures.small;
    }

pub returns-then-is_full-clause-is : goal.returns-then-is_full-clause-is
returns-then-is_full-clause-is g c =
    let f = others_at (g.N.Neighbours.blocks c.args.earlier.now) c.args.search.now c.args.wanted in
    let k = c.loop-k.k in
    let full : is_full c.with_others_at-all.result ≡ true = search rules in
    let here : c.with_others_at-all.result ≡ with_places f c.args.found 0 (k + 1) =
    c.with_others_at-all.ensures.is ∙ (ap (λ found. with_vectors found (f k)) c.loop-k.invariant.is ∙ places_more f c.args.found 0 k k (k + 1) (omega arith) refl) in
    full_places f c.args.found c.with_others_at-all.result 0 (k + 1) 8 (7 - k) (omega arith) here full

pub returns-clause-is : goal.returns-clause-is
returns-clause-is g c =
    let f = others_at (g.N.Neighbours.blocks c.args.earlier.now) c.args.search.now c.args.wanted in
    let end : c.loop-k.k ≡ 8 = omega arith in
    c.loop-k.invariant.is ∙ ap (λ (n : ℕ). with_places f c.args.found 0 n) end
