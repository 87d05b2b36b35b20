use Rattle.std.proofs.Common.{◌∙◌}
use Rattle.std.specs.Option.{option_copied}
use Rattle.planes.specs.Planes.{lower_end, right_end, plane_map}
use Rattle.vp9_types.specs.Sizes.{greatest}
use Rattle.intra_predict.specs.Steps.{prediction, with_any_residue}
use Rattle.intra_predict.proofs.Bounds.{edges_small}
use Rattle.intra_predict.proofs.StepLemmas.{any_residue_small, prediction_small, square_put, square_small}
use Rattle.intra_predict.proofs.SquareLemmas.{square_fits}
use Rattle.intra_predict.proofs.steps.put_sized.Goals as goal

pub rebuild-requires-clause-small : goal.rebuild-requires-clause-small
rebuild-requires-clause-small g c = let a = c.args in let p = a.plane.now in
    rw c.read_sized.ensures (edges_small (right_end p.area) (lower_end p.area) g.row.N a.block.now.place a.depth (plane_map p) c.requires.small)

pub put_square-requires-clause-fits : goal.put_square-requires-clause-fits
unfolding prediction
put_square-requires-clause-fits g c = let a = c.args in let b = a.block.now in let p = a.plane.now in
    let f = prediction (right_end p.area) (lower_end p.area) a.depth b (plane_map p) in
    square_fits g.row.N (greatest a.depth) _ c.rebuild.new.buffer (with_any_residue a.depth g.row.N f (option_copied a.residue))
    (rw (c.requires.size, ← c.read_sized.ensures) c.rebuild.ensures.values)
    (any_residue_small a.depth g.row.N f (option_copied a.residue) (prediction_small (right_end p.area) (lower_end p.area) a.depth b (plane_map p) c.requires.small))
    c.requires.fits

pub returns-clause-map : goal.returns-clause-map
unfolding prediction
returns-clause-map g c = let a = c.args in let b = a.block.now in let p = a.plane.now in
    let f = with_any_residue a.depth g.row.N (prediction (right_end p.area) (lower_end p.area) a.depth b (plane_map p)) (option_copied a.residue) in
    c.put_square.ensures.map
    ∙ square_put (right_end p.area) (lower_end p.area) (plane_map p) b.place.row b.place.column g.row.N c.rebuild.new.buffer f
    (rw (c.requires.size, ← c.read_sized.ensures) c.rebuild.ensures.values)

pub returns-clause-small : goal.returns-clause-small
returns-clause-small g c = λ y x. let a = c.args in let b = a.block.now in let p = a.plane.now in
    let f = prediction (right_end p.area) (lower_end p.area) a.depth b (plane_map p) in
    let is = returns-clause-map g c in
    rw is (square_small _ (right_end p.area) (lower_end p.area) (plane_map p) b.place.row b.place.column g.row.N
    (with_any_residue a.depth g.row.N f (option_copied a.residue)) c.requires.small
    (any_residue_small a.depth g.row.N f (option_copied a.residue) (prediction_small (right_end p.area) (lower_end p.area) a.depth b (plane_map p) c.requires.small)) y x)
