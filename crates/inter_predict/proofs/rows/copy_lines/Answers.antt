use Rattle.std.proofs.Common.{◌≡◌, ◌+◌, ◌<◌, ◌∙◌, ap, arith, map}
use Rattle.inter_places.specs.Axes.{straight}
use Rattle.inter_predict.proofs.Blocks.{rows_more}
use Rattle.inter_predict.proofs.rows.copy_lines.Goals as goal

pub loop-r-preserved : goal.loop-r-preserved
loop-r-preserved g c = let a = c.args in let p = a.place.now in let m = g.S.Samples.map a.view.now p.plane in
    let row = rw c.requires.width at c.put_run.ensures.row in
    let before = rw c.requires.width at c.put_run.ensures.before in
    let inside = c.requires.copied.inside in
    rows_more (λ r j. m (straight p.down (a.first + r)) (straight p.across (3 + j))) p.columns c.loop-r.r (map g.P.Sample.value c.loop-r.lines) (map g.P.Sample.value c.put_run.new.lines) c.loop-r.invariant
    (λ j low.
    let third = inside.places 3 (omega arith) in
    let at = inside.places (3 + j) (omega (arith, low)) in
    let same : c.straight-from.result + j ≡ straight p.across (3 + j) = omega (arith, third, at, c.straight-from.ensures.value) in
    let within : c.straight-from.result + j < p.across.size = omega (arith, third, c.straight-from.ensures.value, inside.room, low) in
    row j low ∙ c.read_row-row.ensures.row (c.straight-from.result + j) within ∙ ap (m (straight p.down (a.first + c.loop-r.r))) same)
    before
