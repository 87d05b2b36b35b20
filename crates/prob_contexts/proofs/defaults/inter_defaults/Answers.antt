use Rattle.std.proofs.Common.{refl}
use Rattle.vp9_tables.specs.declared.data.defaults.TheConstants.{PROB_COMP_FLAG, PROB_COMP_REF, PROB_FILTER, PROB_INTER_MODE, PROB_IS_INTER, PROB_SINGLE_REF, PROB_Y_MODE}
use Rattle.vp9_tables.proofs.Ranges.{each_least}
use Rattle.prob_contexts.proofs.defaults.inter_defaults.Goals as goal

pub invariant_of-result : goal.invariant_of-result
invariant_of-result c = record { positive_modes = each_least PROB_INTER_MODE refl; positive_filters = each_least PROB_FILTER refl; positive_is_inter = each_least PROB_IS_INTER refl; positive_compound_flag = each_least PROB_COMP_FLAG refl; positive_single_references = each_least PROB_SINGLE_REF refl; positive_compound_references = each_least PROB_COMP_REF refl; positive_y_modes = each_least PROB_Y_MODE refl }
