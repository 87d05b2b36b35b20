use Rattle.std.proofs.Common.{refl}
use Rattle.vp9_tables.specs.declared.data.defaults.TheConstants.{PROB_MV_BITS, PROB_MV_CLASS, PROB_MV_CLASS0, PROB_MV_CLASS0_FR, PROB_MV_CLASS0_HP, PROB_MV_FR, PROB_MV_HP, PROB_MV_JOINT, PROB_MV_SIGN}
use Rattle.vp9_tables.proofs.Ranges.{each_least}
use Rattle.prob_contexts.proofs.defaults.vector_defaults.Goals as goal

pub invariant_of-result : goal.invariant_of-result
invariant_of-result c = record { positive_joints = each_least PROB_MV_JOINT refl; positive_signs = each_least PROB_MV_SIGN refl; positive_classes = each_least PROB_MV_CLASS refl; positive_class0 = each_least PROB_MV_CLASS0 refl; positive_bits = each_least PROB_MV_BITS refl; positive_class0_fractions = each_least PROB_MV_CLASS0_FR refl; positive_fractions = each_least PROB_MV_FR refl; positive_class0_high = each_least PROB_MV_CLASS0_HP refl; positive_high = each_least PROB_MV_HP refl }
