use Rattle.std.proofs.Common.{◌≡◌, ◌≤◌, arith, ◌∙◌, ap, replicate, length, take, ℕ, List}
use Rattle.std.proofs.lemmas.List.{length-take-le}
use Rattle.planes.specs.declared.area.Area.{Area}
use Rattle.planes.specs.Planes.{right_end}
use Rattle.line_filter.proofs.SquareLemmas.{part_of_eight}
use Rattle.line_filter.proofs.squares.row_part.Goals as goal

pub returns : goal.returns
returns g c = let w = c.widen_into.ensures in let r = c.row.ensures in
    let end = c.right_end.ensures ∙ ap (λ (a : Area). right_end a) c.area.ensures.value in
    let few : c.min-count.result ≤ 8 = omega (arith, c.min-count.ensures) in
    let zeros : List ℕ = replicate 8 0 in
    let long : ◌≡◌ {A = ℕ} (length (take c.min-count.result zeros)) c.min-count.result = length-take-le c.min-count.result zeros few in
    part_of_eight c.args.plane.now c.args.row c.args.column c.min-count.result c.widen_into.new.to (w.long ∙ long) few
    (λ j low. w.value j (omega (arith, low, long)) ∙ r.samples j low)
    (λ less. omega (arith, less, c.min-count.ensures, end, c.requires.right))
