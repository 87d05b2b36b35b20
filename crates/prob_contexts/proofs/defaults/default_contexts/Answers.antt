use Rattle.std.proofs.Common.{refl}
use Rattle.vp9_tables.specs.declared.data.defaults.TheConstants.{PROB_PARTITION, PROB_SKIP, PROB_UV_MODE}
use Rattle.vp9_tables.proofs.Ranges.{each_least}
use Rattle.prob_contexts.proofs.defaults.default_contexts.Goals as goal

pub invariant_of-result : goal.invariant_of-result
invariant_of-result c = record { positive_skip = each_least PROB_SKIP refl; positive_partitions = each_least PROB_PARTITION refl; positive_uv_modes = each_least PROB_UV_MODE refl }
