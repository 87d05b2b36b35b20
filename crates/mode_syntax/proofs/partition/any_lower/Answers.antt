use Rattle.std.proofs.Common.{ℕ, ◌+◌, ◌||◌, ◌∙◌, nat_lt, refl, ap}
use Rattle.block_plan.specs.Blocks.{left_place}
use Rattle.mode_syntax.specs.Partitions.{height_beside, heights_left}
use Rattle.mode_syntax.proofs.Anywhere.{any_more}
use Rattle.mode_syntax.proofs.partition.any_lower.Goals as goal

pub loop-i-init : goal.loop-i-init
unfolding heights_left
loop-i-init g c = refl

pub loop-i-preserved : goal.loop-i-preserved
unfolding heights_left
loop-i-preserved g c =
    let f = λ (k : ℕ). height_beside (left_place (g.N.Neighbours.blocks c.args.earlier.now) c.args.at.tile_from (c.args.at.row + k) c.args.at.col) in
    ap (λ (height : ℕ). c.loop-i.lower || nat_lt height c.args.bound) (c.height_beside.ensures ∙ ap height_beside c.left_place.ensures)
    ∙ any_more (λ height. nat_lt height c.args.bound) f c.loop-i.i c.loop-i.lower c.loop-i.invariant
