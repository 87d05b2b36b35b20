use Rattle.std.proofs.Common.{◌≤◌, ◌-◌, ◌∙◌, arith}
use Rattle.std.specs.Option.{option_copied}
use Rattle.vp9_types.specs.Maps.{rows_of}
use Rattle.vp9_types.specs.Sizes.{greatest}
use Rattle.planes.specs.Planes.{lower_end, right_end, plane_map}
use Rattle.intra_predict.specs.Steps.{prediction, with_any_residue}
use Rattle.intra_predict.proofs.Bounds.{edges_small}
use Rattle.intra_predict.proofs.StepLemmas.{any_residue_small, prediction_small, square_put, square_small}
use Rattle.intra_predict.proofs.SquareLemmas.{square_fits, whole_square}
use Rattle.intra_predict.proofs.steps.put_four.Goals as goal

pub rebuild-requires-clause-small : goal.rebuild-requires-clause-small
rebuild-requires-clause-small g c = let a = c.args in let p = a.plane.now in
    rw c.read_sized.ensures (edges_small (right_end p.area) (lower_end p.area) 4 a.block.now.place a.depth (plane_map p) c.requires.small)

pub put_inside-requires-clause-fits : goal.put_inside-requires-clause-fits
unfolding prediction
put_inside-requires-clause-fits g c = let a = c.args in let b = a.block.now in let p = a.plane.now in
    let f = prediction (right_end p.area) (lower_end p.area) a.depth b (plane_map p) in
    square_fits 4 (greatest a.depth) _ c.rebuild.new.buffer (with_any_residue a.depth 4 f (option_copied a.residue))
    (rw (c.requires.size, ← c.read_sized.ensures) c.rebuild.ensures.values)
    (any_residue_small a.depth 4 f (option_copied a.residue) (prediction_small (right_end p.area) (lower_end p.area) a.depth b (plane_map p) c.requires.small))
    c.requires.fits

pub returns-then-columns-ge8-clause-map : goal.returns-then-columns-ge8-clause-map
unfolding prediction
returns-then-columns-ge8-clause-map g c = let a = c.args in let b = a.block.now in let p = a.plane.now in
    let width = right_end p.area in let height = lower_end p.area in
    let f = with_any_residue a.depth 4 (prediction width height a.depth b (plane_map p)) (option_copied a.residue) in
    let high : 4 ≤ height - b.place.row = rw (c.lower_end.ensures, c.area-area.ensures.value) at c.if-rows-ge4.true in
    let across : 8 ≤ width - b.place.column = rw (c.right_end.ensures, c.area-area.ensures.value) at c.if-columns-ge8.true in
    let wide : 4 ≤ width - b.place.column = omega (arith, across) in
    c.put_inside.ensures.map
    ∙ (whole_square width height (plane_map p) b.place.row b.place.column 4 (rows_of 4 c.rebuild.new.buffer) high wide
    ∙ square_put width height (plane_map p) b.place.row b.place.column 4 c.rebuild.new.buffer f
    (rw (c.requires.size, ← c.read_sized.ensures) c.rebuild.ensures.values))

pub returns-then-columns-ge8-clause-small : goal.returns-then-columns-ge8-clause-small
returns-then-columns-ge8-clause-small g c = λ y x. let a = c.args in let b = a.block.now in let p = a.plane.now in
    let f = prediction (right_end p.area) (lower_end p.area) a.depth b (plane_map p) in
    let is = returns-then-columns-ge8-clause-map g c in
    rw is (square_small _ (right_end p.area) (lower_end p.area) (plane_map p) b.place.row b.place.column 4
    (with_any_residue a.depth 4 f (option_copied a.residue)) c.requires.small
    (any_residue_small a.depth 4 f (option_copied a.residue) (prediction_small (right_end p.area) (lower_end p.area) a.depth b (plane_map p) c.requires.small)) y x)
