-- How many probabilities each kind has.
use Rattle.std.specs.Prelude.{ℕ, List, [], ◌∷◌, slice_index}
use Rattle.prob_contexts.specs.declared.kind.ProbKind.{ProbKind}
use Rattle.prob_contexts.specs.declared.kind.ProbKind.TheVariants as kind

abbrev pub kind_number : ProbKind → ℕ
kind_number kind.Tx8x8 = 0
kind_number kind.Tx16x16 = 1
kind_number kind.Tx32x32 = 2
kind_number kind.Coef = 3
kind_number kind.Skip = 4
kind_number kind.InterMode = 5
kind_number kind.Filter = 6
kind_number kind.IsInter = 7
kind_number kind.CompoundFlag = 8
kind_number kind.SingleReference = 9
kind_number kind.CompoundReference = 10
kind_number kind.YMode = 11
kind_number kind.UvMode = 12
kind_number kind.Partition = 13
kind_number kind.VectorJoint = 14
kind_number kind.VectorSign = 15
kind_number kind.VectorClass = 16
kind_number kind.VectorClass0 = 17
kind_number kind.VectorBit = 18
kind_number kind.VectorClass0Fraction = 19
kind_number kind.VectorFraction = 20
kind_number kind.VectorClass0High = 21
kind_number kind.VectorHigh = 22

-- contexts times nodes, as in Contexts
abbrev pub kind_sizes : List ℕ
kind_sizes =
    2 ∷ 4 ∷ 6 ∷ 1584 ∷ 3 ∷ 21 ∷ 8 ∷ 4 ∷ 5 ∷ 10 ∷ 5 ∷ 36 ∷ 90 ∷ 48 ∷ 3 ∷ 2 ∷ 20 ∷ 2 ∷ 20 ∷ 12 ∷ 6 ∷ 2 ∷ 2 ∷ []

abbrev pub kind_size : ProbKind → ℕ
kind_size k = slice_index kind_sizes (kind_number k)
