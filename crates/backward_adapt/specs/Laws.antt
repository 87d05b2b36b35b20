-- What laws of adaptation speak of: probabilities by kind and place.
use Rattle.std.specs.Prelude.{◌≡◌, ℕ, ◌+◌, List, [], ◌∷◌, ◌++◌, true, false, length, slice_index}
use Rattle.prob_contexts.specs.declared.kind.CountedBool.{CountedBool}
use Rattle.prob_contexts.specs.declared.kind.ProbKind.{ProbKind}
use Rattle.prob_contexts.specs.declared.kind.ProbKind.TheVariants as kind
use Rattle.prob_contexts.specs.ProbLists.{ContextLists}
use Rattle.backward_adapt.specs.declared.merge.Rate.{Rate}
use Rattle.backward_adapt.specs.Adaptation.{left_by}
use Rattle.backward_adapt.specs.Merge.{merge_prob}

-- the list of a kind; of coefficients that of each size, joined
abbrev pub list_of : ContextLists → ProbKind → List ℕ
list_of c kind.Tx8x8 = c.tx.of_8x8
list_of c kind.Tx16x16 = c.tx.of_16x16
list_of c kind.Tx32x32 = c.tx.of_32x32
list_of c kind.Coef = c.coef.of_4x4 ++ c.coef.of_8x8 ++ c.coef.of_16x16 ++ c.coef.of_32x32
list_of c kind.Skip = c.skip
list_of c kind.InterMode = c.inter.modes
list_of c kind.Filter = c.inter.filters
list_of c kind.IsInter = c.inter.is_inter
list_of c kind.CompoundFlag = c.inter.compound_flag
list_of c kind.SingleReference = c.inter.single_references
list_of c kind.CompoundReference = c.inter.compound_references
list_of c kind.YMode = c.inter.y_modes
list_of c kind.UvMode = c.uv_modes
list_of c kind.Partition = c.partitions
list_of c kind.VectorJoint = c.vectors.joints
list_of c kind.VectorSign = c.vectors.signs
list_of c kind.VectorClass = c.vectors.classes
list_of c kind.VectorClass0 = c.vectors.class0
list_of c kind.VectorBit = c.vectors.bits
list_of c kind.VectorClass0Fraction = c.vectors.class0_fractions
list_of c kind.VectorFraction = c.vectors.fractions
list_of c kind.VectorClass0High = c.vectors.class0_high
list_of c kind.VectorHigh = c.vectors.high

-- each size has its places for coefficients
pub record HasCoefSizes (c : ContextLists) : Type 0 where
  pub of_4x4 : length c.coef.of_4x4 ≡ 396
  pub of_8x8 : length c.coef.of_8x8 ≡ 396
  pub of_16x16 : length c.coef.of_16x16 ≡ 396
  pub of_32x32 : length c.coef.of_32x32 ≡ 396

-- and each other kind its own
pub record HasSizes (c : ContextLists) : Type 0 where
  pub tx8x8 : length c.tx.of_8x8 ≡ 2
  pub tx16x16 : length c.tx.of_16x16 ≡ 4
  pub tx32x32 : length c.tx.of_32x32 ≡ 6
  pub skip : length c.skip ≡ 3
  pub inter_mode : length c.inter.modes ≡ 21
  pub filter : length c.inter.filters ≡ 8
  pub is_inter : length c.inter.is_inter ≡ 4
  pub compound_flag : length c.inter.compound_flag ≡ 5
  pub single_reference : length c.inter.single_references ≡ 10
  pub compound_reference : length c.inter.compound_references ≡ 5
  pub y_mode : length c.inter.y_modes ≡ 36
  pub uv_mode : length c.uv_modes ≡ 90
  pub partition : length c.partitions ≡ 48
  pub vector_joint : length c.vectors.joints ≡ 3
  pub vector_sign : length c.vectors.signs ≡ 2
  pub vector_class : length c.vectors.classes ≡ 20
  pub vector_class0 : length c.vectors.class0 ≡ 2
  pub vector_bit : length c.vectors.bits ≡ 20
  pub vector_class0_fraction : length c.vectors.class0_fractions ≡ 12
  pub vector_fraction : length c.vectors.fractions ≡ 6
  pub vector_class0_high : length c.vectors.class0_high ≡ 2
  pub vector_high : length c.vectors.high ≡ 2

abbrev pub prob_at : ContextLists → ProbKind → ℕ → ℕ
prob_at c kind place = slice_index (list_of c kind) place

-- merge_probs as a walk: one probability after another, each by how often the node at the next place of its kind was left
unfoldable pub merge_probs : Rate → (CountedBool → ℕ) → ProbKind → ℕ → List ℕ → List ℕ
merge_probs rate times kind place [] = []
merge_probs rate times kind place (before ∷ rest) =
    merge_prob rate before (times (left_by kind place false)) (times (left_by kind place true)) ∷ merge_probs rate times kind (place + 1) rest
