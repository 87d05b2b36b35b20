-- The probabilities that a decoder starts with (setup_past_independence in 7.2, section 10.5 of the standard).
use Rattle.std.specs.Prelude.{ℕ, ◌*◌, List, take, drop}
use Rattle.vp9_tables.specs.declared.data.defaults.TheConstants.{PROB_COEF, PROB_COMP_FLAG, PROB_COMP_REF, PROB_FILTER, PROB_INTER_MODE, PROB_IS_INTER, PROB_MV_BITS, PROB_MV_CLASS, PROB_MV_CLASS0, PROB_MV_CLASS0_FR, PROB_MV_CLASS0_HP, PROB_MV_FR, PROB_MV_HP, PROB_MV_JOINT, PROB_MV_SIGN, PROB_PARTITION, PROB_SINGLE_REF, PROB_SKIP, PROB_TX16, PROB_TX32, PROB_TX8, PROB_UV_MODE, PROB_Y_MODE}
use Rattle.prob_contexts.specs.ProbLists.{ContextLists, CoefLists}

-- the coefficients of a size, by its number, are a quarter of the table
abbrev pub coefs_of_size : ℕ → List ℕ
coefs_of_size n = take 396 (drop (396 * n) PROB_COEF)

abbrev pub default_coef : CoefLists
default_coef = record { of_4x4 = coefs_of_size 0; of_8x8 = coefs_of_size 1; of_16x16 = coefs_of_size 2; of_32x32 = coefs_of_size 3 }

abbrev pub default_lists : ContextLists
default_lists = record {
  tx = record { of_8x8 = PROB_TX8; of_16x16 = PROB_TX16; of_32x32 = PROB_TX32 };
  coef = default_coef;
  skip = PROB_SKIP;
  inter = record {
    modes = PROB_INTER_MODE;
    filters = PROB_FILTER;
    is_inter = PROB_IS_INTER;
    compound_flag = PROB_COMP_FLAG;
    single_references = PROB_SINGLE_REF;
    compound_references = PROB_COMP_REF;
    y_modes = PROB_Y_MODE;
  };
  partitions = PROB_PARTITION;
  vectors = record {
    joints = PROB_MV_JOINT;
    signs = PROB_MV_SIGN;
    classes = PROB_MV_CLASS;
    class0 = PROB_MV_CLASS0;
    bits = PROB_MV_BITS;
    class0_fractions = PROB_MV_CLASS0_FR;
    fractions = PROB_MV_FR;
    class0_high = PROB_MV_CLASS0_HP;
    high = PROB_MV_HP;
  };
  uv_modes = PROB_UV_MODE;
}
