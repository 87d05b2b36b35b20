use Rattle.std.proofs.Common.{ℕ, ◌+◌, ◌||◌, ◌∙◌, nat_lt, refl, ap}
use Rattle.block_plan.specs.Blocks.{above_place}
use Rattle.mode_syntax.specs.Partitions.{width_beside, widths_above}
use Rattle.mode_syntax.proofs.Anywhere.{any_more}
use Rattle.mode_syntax.proofs.partition.any_narrower.Goals as goal

pub loop-i-init : goal.loop-i-init
unfolding widths_above
loop-i-init g c = refl

pub loop-i-preserved : goal.loop-i-preserved
unfolding widths_above
loop-i-preserved g c =
    let f = λ (k : ℕ). width_beside (above_place (g.N.Neighbours.blocks c.args.earlier.now) c.args.row (c.args.col + k)) in
    ap (λ (width : ℕ). c.loop-i.narrower || nat_lt width c.args.bound) (c.width_beside.ensures ∙ ap width_beside c.above_place.ensures)
    ∙ any_more (λ width. nat_lt width c.args.bound) f c.loop-i.i c.loop-i.narrower c.loop-i.invariant
