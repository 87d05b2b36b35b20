use Rattle.std.proofs.Common.{rules, ◌≡◌, [], ◌∷◌, sym}
use Rattle.job_order.specs.declared.segment.Segment.TheVariants.{Opening}
use Rattle.job_crew.proofs.Shops.{pool_first, shop_first}
use Rattle.job_crew.proofs.pool.Pool.new.Goals as goal

pub invariant_of-result : goal.invariant_of-result
invariant_of-result g c =
    let segments : c.push_reserved.new.self.items ≡ Opening ∷ [] = search rules in
    let starts : c.push_reserved-2.new.self.items ≡ 0 ∷ [] = search rules in (
      pool_first g.M.Meaning.rules g.M.Meaning.truth c.push_reserved.new.self.items c.reserve-3.new.self.items c.first.result segments (search rules)
          (c.first.ensures.mark c.push_reserved.new.self.items) c.first.ensures.first,
      search rules,
      sym c.requires.window,
      shop_first g.M.Meaning.rules g.M.Meaning.truth g.W.Window.window c.push_reserved.new.self.items c.push_reserved-2.new.self.items c.in_ok-marks.marks.base c.in_ok-marks.marks.marks.items c.requires.can
          segments starts c.in_ok-marks.ensures.base c.in_ok-marks.ensures.none,
    )
