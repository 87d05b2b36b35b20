use Rattle.std.proofs.Common.{◌<◌, ◌≤◌, ◌+◌, ◌∙◌, ℕ, inl, inr, arith, length-set, List, length, get_or, map}
use Rattle.std.specs.Prelude.{slice_set}
use Rattle.std.proofs.lemmas.Bool.{cases_lt}
use Rattle.std.proofs.lemmas.List.{map-set, get_or-set_other, length-map}
use Rattle.std.proofs.lemmas.Grind.{get_or-set_at}
use Rattle.picture_tests.proofs.filter.draw_row.Goals as goal

one_drawn : {X : Type 0} (f : X → ℕ) (xs : List X) (k most : ℕ) (x : X) → k < length xs → f x ≤ most
    → ((j : ℕ) → j < k → get_or (map f xs) j 0 ≤ most) → (j : ℕ) → j < k + 1 → get_or (map f (slice_set xs k x)) j 0 ≤ most
one_drawn f xs k most x here small so j low = rw (map-set f xs k x) (elim (cases_lt j k) [
  | inl before ↦ rw (get_or-set_other (map f xs) k j (f x) 0 (λ same. omega (arith, same, before))) (so j before)
  | inr at ↦ rw (get_or-set_at (map f xs) k j (f x) 0 (omega (arith, low, at)) (omega (arith, here, length-map xs f))) small
])

pub loop-x-preserved : goal.loop-x-preserved
loop-x-preserved g c = let i = c.loop-x.invariant in
    let small : g.P.Sample.value c.narrow.result ≤ c.args.most = omega (arith, c.narrow.ensures, c.min.ensures) in
    record {
      long = length-set _ _ _ ∙ i.long;
      small = one_drawn g.P.Sample.value c.loop-x.line c.loop-x.x c.args.most c.narrow.result (omega (arith, i.long, c.loop-x-test.true, c.loop-x.auto.x-end)) small i.small;
    }
