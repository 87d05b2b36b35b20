use Rattle.std.proofs.Common.{◌≡◌, ◌≤◌, ◌∙◌, ℕ, ap, List, get_or, map}
use Rattle.std.proofs.lemmas.List.{length-map}
use Rattle.vp9_types.specs.Maps.{Map, IsAtMost, with_block}
use Rattle.planes.proofs.PlaneLemmas.{with_block_small}
use Rattle.picture_tests.proofs.filter.fill.Goals as goal

row_drawn : (most : ℕ) (m new : Map) (row column n : ℕ) (w : List ℕ) → IsAtMost most m → ((k : ℕ) → get_or w k 0 ≤ most)
    → new ≡ with_block m row column 1 n (λ _ j. get_or w j 0) → IsAtMost most new
row_drawn most m new row column n w small drawn is y x =
    rw (ap (λ (f : Map). f y x) is) (with_block_small most m row column 1 n (λ _ j. get_or w j 0) small (λ _ j. drawn j) y x)

pub loop-y-preserved : goal.loop-y-preserved
loop-y-preserved g c = let i = c.loop-y.invariant in record {
  area = i.area;
  small = row_drawn c.args.most _ _ _ _ _ (map g.P.Sample.value c.draw_row.new.line) i.small c.draw_row.ensures.small
      (c.row_mut-line.ensures.written (map g.P.Sample.value c.draw_row.new.line)
      (length-map c.draw_row.new.line g.P.Sample.value ∙ c.draw_row.ensures.long ∙ c.row_mut-line.ensures.long));
}
