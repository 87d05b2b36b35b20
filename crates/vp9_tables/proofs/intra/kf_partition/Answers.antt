use Rattle.std.proofs.Common.{refl}
use Rattle.vp9_tables.specs.declared.data.intra.TheConstants.{KF_PARTITION}
use Rattle.vp9_tables.proofs.Ranges.{row_of_probabilities}
use Rattle.vp9_tables.proofs.intra.kf_partition.Goals as goal

pub returns-clause-range : goal.returns-clause-range
returns-clause-range c = row_of_probabilities KF_PARTITION c.args.context refl c.requires
