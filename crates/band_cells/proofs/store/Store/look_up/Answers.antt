use Rattle.std.proofs.Common.{ℕ, Some, sym, ◌∙◌, ap, arith}
use Rattle.band_cells.proofs.Names.{next_name, no_names, all_names}
use Rattle.band_cells.specs.Code.{name_of}
use Rattle.band_cells.proofs.store.Store.look_up.Goals as goal

pub loop-index-init : goal.loop-index-init
loop-index-init g c = (
  omega arith,
  omega arith,
  omega (arith, c.reserve.ensures.len, c.clear.ensures.len),
  omega (arith, c.in_ok-reserve.ensures.ok, c.saturating_sub.ensures),
  omega arith,
  no_names _ _ _ _ _ (c.reserve.ensures.items ∙ c.clear.ensures.items) (omega arith),
)

pub push_reserved-requires : goal.push_reserved-requires
push_reserved-requires g c = omega (arith, c.loop-index.invariant.0, c.loop-index.invariant.2, c.loop-index.invariant.3, c.loop-index-test.true)

pub loop-index-preserved : goal.loop-index-preserved
loop-index-preserved g c = (
  omega (arith, c.loop-index.invariant.0),
  omega (arith, c.loop-index.invariant.0, c.loop-index-test.true),
  omega (arith, c.push_reserved.ensures.len, c.loop-index.invariant.0, c.loop-index.invariant.2),
  omega (arith, c.push_reserved.ensures.capacity, c.loop-index.invariant.3),
  omega (arith, c.push_reserved.ensures.capacity, c.loop-index.invariant.4),
  next_name _ _ _ _ _ _ _ c.loop-index.index _ c.loop-index.invariant.5 (omega (arith, c.loop-index.invariant.0)) (omega (arith, c.loop-index.invariant.0))
      (c.wait_for.ensures ∙ ap (λ (k : ℕ). Some (name_of k c.loop-index.index)) (sym c.requires.frame)) c.push_reserved.ensures.items,
)

pub returns-clause-found : goal.returns-clause-found
returns-clause-found g c = all_names _ _ _ _ _ _ c.loop-index.invariant.5 (omega (arith, c.loop-index.invariant.0, c.loop-index.invariant.1, c.loop-index-test.false))
