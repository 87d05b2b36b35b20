use Rattle.std.proofs.Common.{◌≡◌, ◌+◌, ◌<◌, ◌∙◌, ap, arith, map}
use Rattle.inter_places.specs.Axes.{straight}
use Rattle.inter_predict.specs.Code.{strided}
use Rattle.inter_predict.proofs.Blocks.{rows_more}
use Rattle.inter_predict.proofs.piece_lines.copy_piece.Goals as goal

pub loop-r-preserved : goal.loop-r-preserved
loop-r-preserved g c = let a = c.args in let p = a.place.now in let f = g.P.Sample.value in
    let inside = c.requires.copied.inside in
    let row = rw c.requires.width at c.put_run.ensures.row in
    let before = rw c.requires.width at c.put_run.ensures.before in
    rows_more (λ r j. strided a.stride (map f a.samples.now) r (straight p.across (3 + j))) p.columns c.loop-r.r (map f c.loop-r.lines) (map f c.put_run.new.lines) c.loop-r.invariant
    (λ j low.
    let third = inside.places 3 (omega arith) in
    let at = inside.places (3 + j) (omega (arith, low)) in
    let same : c.straight-from.result + j ≡ straight p.across (3 + j) = omega (arith, third, at, c.straight-from.ensures.value) in
    let within : c.straight-from.result + j < p.across.size = omega (arith, third, c.straight-from.ensures.value, inside.room, low) in
    row j low ∙ c.row_in-row.ensures.row (c.straight-from.result + j) within ∙ ap (strided a.stride (map f a.samples.now) c.loop-r.r) same)
    before
