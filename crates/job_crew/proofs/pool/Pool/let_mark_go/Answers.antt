use Rattle.job_crew.proofs.Shops.{shop_pops}
use Rattle.job_crew.proofs.pool.Pool.let_mark_go.Goals as goal

pub invariant_of-self : goal.invariant_of-self
invariant_of-self g c = (
  c.self.invariant.0,
  c.self.invariant.1,
  c.self.invariant.2,
  shop_pops g.M.Meaning.rules g.M.Meaning.truth g.W.Window.window _ _ _ _ _ _ c.self.invariant.3 c.let_go.new.self.base c.let_go.new.self.marks.items c.let_go.ensures.same c.let_go.ensures.drawn,
)
