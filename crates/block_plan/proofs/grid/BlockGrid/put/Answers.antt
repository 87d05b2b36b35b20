use Rattle.std.proofs.Common.{◌≡◌, ◌+◌, ◌-◌, length, rules}
use Rattle.block_plan.proofs.Numbers.{grid_after}
use Rattle.block_plan.proofs.grid.BlockGrid.put.Goals as goal

pub invariant_of-self : goal.invariant_of-self
invariant_of-self c =
    let inside = c.self.inside in
    let number : c.len-number.result ≡ length c.self.inside.blocks.items + 1 = search rules in
    let whole : c.self.inside.places.len ≡ length c.self.inside.places.items = search rules in
    grid_after inside.blocks.items c.push_reserved.new.self.items c.args.block inside.rows inside.from (inside.to - inside.from) c.len-number.result inside.places.len
    inside.places.items c.deref_mut.result.now c.number_places.new.places c.self.invariant c.deref_mut.ensures.value c.number_places.auto.places whole
    c.push_reserved.ensures.items number c.number_places.ensures.agree c.number_places.ensures.few
