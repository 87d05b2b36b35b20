use Rattle.std.proofs.Common.{◌≤◌, refl, subst, length}
use Rattle.vp9_types.specs.Shapes.{mi_rows}
use Rattle.vp9_types.specs.Sizes.{superblocks_along}
use Rattle.vp9_types.specs.declared.shape.Shape.{Shape}
use Rattle.job_rows.proofs.NamedFrames.{TakesRows, depth_of_number, shape_of_number, takes_nothing, takes_some}
use Rattle.job_rows.proofs.references.reference_rows.Goals.{in-Some, in-None}
use Rattle.job_rows.proofs.references.reference_rows.Goals as goal

pub rows_of-requires : goal.rows_of-requires
rows_of-requires g c κs =
    let format = g.B.DecodeRun.format in
    let film = g.B.DecodeRun.film in
    let n = c.number_of-number.result in
    let is = c.number_of-number.ensures in
    let t : TakesRows (superblocks_along (mi_rows c.args.reference.now.shape)) c.match-bands.first.0 c.match-bands.first.1 c.args.bands = elim c.match-bands.branch [
      | in-Some w ↦ takes_some c.args.reference.now.shape c.args.bands w.in-Some.bands w.end_behind.result c.match-bands.first w.in-Some.is c.requires.inside w.end_behind.ensures w.first-is
      | in-None w ↦ takes_nothing c.args.reference.now.shape c.args.bands c.match-bands.first w.in-None.is w.first-is
    ] in (
      (refl, (refl, tt)),
      (
        t.order,
        (
          subst (λ (s : Shape). c.match-bands.first.1 ≤ superblocks_along (mi_rows s)) (shape_of_number format film c.args.frame c.args.reference.now n is) t.inside,
          depth_of_number g.P.PlaneSample.keeps format film c.args.frame c.args.reference.now n is c.requires.keeps,
        ),
      ),
    )

pub returns : goal.returns
returns g c =
    let format = g.B.DecodeRun.format in
    let film = g.B.DecodeRun.film in
    let n = c.number_of-number.result in
    let is = c.number_of-number.ensures in
    let t : TakesRows (superblocks_along (mi_rows c.args.reference.now.shape)) c.match-bands.first.0 c.match-bands.first.1 c.args.bands = elim c.match-bands.branch [
      | in-Some w ↦ takes_some c.args.reference.now.shape c.args.bands w.in-Some.bands w.end_behind.result c.match-bands.first w.in-Some.is c.requires.inside w.end_behind.ensures w.first-is
      | in-None w ↦ takes_nothing c.args.reference.now.shape c.args.bands c.match-bands.first w.in-None.is w.first-is
    ] in
    record {
      number = is;
      same = refl;
      shape = shape_of_number format film c.args.frame c.args.reference.now n is;
      held = c.in_ok-rows_of.ensures.rows;
      have = t.have (length c.in_ok-rows_of.field-0.items) c.in_ok-rows_of.ensures.many;
    }
