-- The quarters of a block below 8x8, for which modes and vectors are read (6.4.6, 6.4.15 and 6.4.16 of the standard: the loops
-- over idy and idx). They are numbered row by row: 0 and 1 are the upper ones, 2 and 3 the lower ones.
use Rattle.std.specs.Prelude.{ℕ, ◌+◌, List, [], ◌∷◌, slice_set}
use Rattle.std.specs.List.{fold}
use Rattle.vp9_types.specs.declared.block.BlockSize.{BlockSize}
use Rattle.vp9_types.specs.declared.block.BlockSize.TheVariants.{B4x4, B4x8, B8x4}

-- the quarters at which the parts of a block begin, in the order in which they are read
abbrev pub starting_quarters : BlockSize → List ℕ
starting_quarters B4x4 = 0 ∷ 1 ∷ 2 ∷ 3 ∷ []
starting_quarters B4x8 = 0 ∷ 1 ∷ []
starting_quarters B8x4 = 0 ∷ 2 ∷ []
starting_quarters _ = 0 ∷ []

-- those of the part that begins at the k-th
abbrev pub part_quarters : BlockSize → ℕ → List ℕ
part_quarters B4x4 k = k ∷ []
part_quarters B4x8 k = k ∷ (k + 2) ∷ []
part_quarters B8x4 k = k ∷ (k + 1) ∷ []
part_quarters _ k = 0 ∷ 1 ∷ 2 ∷ 3 ∷ []

-- what is read for a part holds for each of its quarters
abbrev pub with_part : {A : Type 0} → BlockSize → ℕ → A → List A → List A
with_part size k x quarters = fold (λ known quarter. slice_set known quarter x) quarters (part_quarters size k)
