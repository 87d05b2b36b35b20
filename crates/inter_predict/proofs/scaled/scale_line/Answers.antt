use Rattle.std.proofs.Common.{◌≡◌, ℕ, ◌+◌, ◌/◌, ◌<◌, ◌∙◌, List, ap, arith, get_or, map, take}
use Rattle.std.proofs.lemmas.List.{map-id}
use Rattle.vp9_tables.specs.Filters.{taps_of}
use Rattle.inter_places.specs.Axes.{straight, offset, phase}
use Rattle.inter_places.proofs.Orders.{offset_order}
use Rattle.inter_predict.proofs.Agree.{filtered_same, along_is}
use Rattle.inter_predict.proofs.Values.{taken_is}
use Rattle.inter_predict.proofs.scaled.scale_line.Goals as goal

pub scale_run-requires-clause-enough : goal.scale_run-requires-clause-enough
scale_run-requires-clause-enough g c = λ j low. let x = c.args.filter.now.axis in
    omega (arith, offset_order x j c.args.n (omega (arith, low)), c.offset_of.ensures.value, c.straight.ensures.value, c.if-is_inside.ensures.room, c.requires.row)

pub returns-then-is_inside-clause-value : goal.returns-then-is_inside-clause-value
returns-then-is_inside-clause-value g c = λ j low. let a = c.args in let f = a.filter.now in
    c.scale_run.ensures.value j low ∙ filtered_same f.most (taps_of f.kind (phase f.axis j)) (λ (k : ℕ). get_or (map g.P.Sample.value a.row.now) (c.straight.result + offset f.axis j / 16 + k) 0)
    (λ (k : ℕ). get_or (map g.P.Sample.value a.row.now) (straight f.axis (offset f.axis j / 16 + k)) 0)
    (λ k few. let at = c.if-is_inside.ensures.places (offset f.axis j / 16 + k) (omega (arith, few, offset_order f.axis j a.n (omega (arith, low)), c.offset_of.ensures.value)) in
    let same : c.straight.result + offset f.axis j / 16 + k ≡ straight f.axis (offset f.axis j / 16 + k) = omega (arith, at, c.straight.ensures.value) in
    ap (λ (z : ℕ). get_or (map g.P.Sample.value a.row.now) z 0) same)
    ∙ along_is f.most f.kind f.axis (λ (k : ℕ). get_or (map g.P.Sample.value a.row.now) k 0) j

pub returns-else-is_inside-clause-value : goal.returns-else-is_inside-clause-value
returns-else-is_inside-clause-value g c = λ j low. let a = c.args in let f = a.filter.now in let count : ℕ = c.offset_of.result / 16 + 8 in
    c.scale_run-else-is_inside.ensures.value j low ∙ filtered_same f.most (taps_of f.kind (phase f.axis j))
    (λ (k : ℕ). get_or (map (λ (n : ℕ). n) (take count c.read_numbers.new.out)) (0 + offset f.axis j / 16 + k) 0)
    (λ (k : ℕ). get_or (map g.P.Sample.value a.row.now) (straight f.axis (offset f.axis j / 16 + k)) 0)
    (λ k few. let within : offset f.axis j / 16 + k < c.offset_of.result / 16 + 8 = omega (arith, few, offset_order f.axis j a.n (omega (arith, low)), c.offset_of.ensures.value) in
    taken_is (λ (n : ℕ). n) c.read_numbers.new.out count (0 + offset f.axis j / 16 + k) (offset f.axis j / 16 + k) (omega arith) within
    ∙ ap (λ (xs : List ℕ). get_or xs (offset f.axis j / 16 + k) 0) (map-id c.read_numbers.new.out)
    ∙ c.read_numbers.ensures.value (offset f.axis j / 16 + k) within)
    ∙ along_is f.most f.kind f.axis (λ (k : ℕ). get_or (map g.P.Sample.value a.row.now) k 0) j
