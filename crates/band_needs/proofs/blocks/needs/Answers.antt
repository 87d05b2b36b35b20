use Rattle.std.proofs.Common.{sym, arith, subst}
use Rattle.std.specs.Prelude.{length}
use Rattle.band_needs.specs.Ranges.{needs_at}
use Rattle.band_needs.specs.BandReads.{AreRead, BlocksRead}
use Rattle.band_needs.specs.Code.{shapes_of}
use Rattle.band_needs.specs.declared.ranges.BandNeeds.{BandNeeds}
use Rattle.band_needs.proofs.Exact.{needs_are}
use Rattle.band_needs.proofs.RowLemmas.{all_blocks}
use Rattle.band_needs.proofs.blocks.needs.Goals as goal

pub returns-clause-value : goal.returns-clause-value
returns-clause-value c = let a = c.args in
    all_blocks a.shape.now (shapes_of a.references.now) a.blocks.now c.loop-k.k c.loop-k.needs c.loop-k.invariant (omega (arith, c.loop-k-test.false, c.loop-k.auto.k-end))

pub returns-clause-exact : goal.returns-clause-exact
returns-clause-exact c = let a = c.args in λ r.
    subst (λ (n : BandNeeds). AreRead (BlocksRead a.shape.now (shapes_of a.references.now) a.blocks.now (length a.blocks.now) r) (needs_at n r))
    (sym (all_blocks a.shape.now (shapes_of a.references.now) a.blocks.now c.loop-k.k c.loop-k.needs c.loop-k.invariant (omega (arith, c.loop-k-test.false, c.loop-k.auto.k-end))))
    (needs_are a.shape.now (shapes_of a.references.now) a.blocks.now r (λ k d low. (c.requires k d low).row))
