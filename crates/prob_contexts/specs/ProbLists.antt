-- The probabilities of a frame as lists of numbers (8.4.2 and 9.3 of the standard), without the proofs that each is 1 to
-- 255, which the types of the code keep.
use Rattle.std.specs.Prelude.{ℕ, List}
use Rattle.vp9_types.specs.declared.block.TxSize.{TxSize}
use Rattle.vp9_types.specs.declared.block.TxSize.TheVariants.{T4x4, T8x8, T16x16, T32x32}
use Rattle.prob_contexts.specs.declared.contexts.Contexts.{Contexts}
use Rattle.prob_contexts.specs.declared.groups.CoefProbs.{CoefProbs}
use Rattle.prob_contexts.specs.declared.groups.InterProbs.{InterProbs}
use Rattle.prob_contexts.specs.declared.groups.TxProbs.{TxProbs}
use Rattle.prob_contexts.specs.declared.groups.VectorProbs.{VectorProbs}

pub record TxLists : Type 0 where
  pub of_8x8 : List ℕ
  pub of_16x16 : List ℕ
  pub of_32x32 : List ℕ

pub record CoefLists : Type 0 where
  pub of_4x4 : List ℕ
  pub of_8x8 : List ℕ
  pub of_16x16 : List ℕ
  pub of_32x32 : List ℕ

pub record InterLists : Type 0 where
  pub modes : List ℕ
  pub filters : List ℕ
  pub is_inter : List ℕ
  pub compound_flag : List ℕ
  pub single_references : List ℕ
  pub compound_references : List ℕ
  pub y_modes : List ℕ

pub record VectorLists : Type 0 where
  pub joints : List ℕ
  pub signs : List ℕ
  pub classes : List ℕ
  pub class0 : List ℕ
  pub bits : List ℕ
  pub class0_fractions : List ℕ
  pub fractions : List ℕ
  pub class0_high : List ℕ
  pub high : List ℕ

pub record ContextLists : Type 0 where
  pub tx : TxLists
  pub coef : CoefLists
  pub skip : List ℕ
  pub inter : InterLists
  pub partitions : List ℕ
  pub vectors : VectorLists
  pub uv_modes : List ℕ

abbrev pub tx_lists : TxProbs → TxLists
tx_lists p = record { of_8x8 = p.of_8x8; of_16x16 = p.of_16x16; of_32x32 = p.of_32x32 }

abbrev pub coef_lists : CoefProbs → CoefLists
coef_lists p = record { of_4x4 = p.of_4x4; of_8x8 = p.of_8x8; of_16x16 = p.of_16x16; of_32x32 = p.of_32x32 }

abbrev pub inter_lists : InterProbs → InterLists
inter_lists p = record {
  modes = p.modes;
  filters = p.filters;
  is_inter = p.is_inter;
  compound_flag = p.compound_flag;
  single_references = p.single_references;
  compound_references = p.compound_references;
  y_modes = p.y_modes;
}

abbrev pub vector_lists : VectorProbs → VectorLists
vector_lists p = record {
  joints = p.joints;
  signs = p.signs;
  classes = p.classes;
  class0 = p.class0;
  bits = p.bits;
  class0_fractions = p.class0_fractions;
  fractions = p.fractions;
  class0_high = p.class0_high;
  high = p.high;
}

abbrev pub lists_of : Contexts → ContextLists
lists_of c = record {
  tx = tx_lists c.tx;
  coef = coef_lists c.coef;
  skip = c.skip;
  inter = inter_lists c.inter;
  partitions = c.partitions;
  vectors = vector_lists c.vectors;
  uv_modes = c.uv_modes;
}

-- the coefficients' probabilities of a transform size
abbrev pub coef_of : CoefLists → TxSize → List ℕ
coef_of c T4x4 = c.of_4x4
coef_of c T8x8 = c.of_8x8
coef_of c T16x16 = c.of_16x16
coef_of c T32x32 = c.of_32x32
