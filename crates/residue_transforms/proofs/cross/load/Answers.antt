use Rattle.std.proofs.Common.{◌*◌, length, arith, rules}
use Rattle.residue_transforms.proofs.Loads.{columns_loaded, loaded_small}
use Rattle.residue_transforms.proofs.cross.load.Goals as goal

pub returns-clause-loaded : goal.returns-clause-loaded
returns-clause-loaded c =
    columns_loaded (length c.args.t.now) c.args.first c.args.from.now c.loop-k.t (4 * c.loop-k.k) (search rules) (omega (arith, c.requires.fours, c.loop-k-test.false))
    c.requires.size c.loop-k.invariant

pub returns-clause-small : goal.returns-clause-small
returns-clause-small c =
    loaded_small (length c.args.t.now) c.args.from.now (c.args.first * length c.args.t.now) c.loop-k.t (4 * c.loop-k.k)
    (omega (arith, c.requires.fours, c.loop-k-test.false, c.loop-k.auto.t)) c.requires.values c.loop-k.invariant
