-- Intra modes by their numbers, and lists of four.
use Rattle.std.proofs.Common.{◌≡◌, List, [], ◌∷◌, refl, length, slice_index_or, arith}
use Rattle.vp9_types.specs.declared.block.IntraMode.{IntraMode}
use Rattle.vp9_types.specs.declared.block.IntraMode.TheVariants.{Dc, V, H, D45, D135, D117, D153, D207, D63, Tm}
use Rattle.vp9_tables.specs.Numbers.{intra_number}
use Rattle.mode_syntax.specs.IntraModes.{intra_of}

pub intra_of_number : (mode : IntraMode) → intra_of (intra_number mode) ≡ mode
intra_of_number Dc = refl
intra_of_number V = refl
intra_of_number H = refl
intra_of_number D45 = refl
intra_of_number D135 = refl
intra_of_number D117 = refl
intra_of_number D153 = refl
intra_of_number D207 = refl
intra_of_number D63 = refl
intra_of_number Tm = refl

pub four_of : (xs : List IntraMode) → length xs ≡ 4 → xs ≡ slice_index_or xs 0 Dc ∷ slice_index_or xs 1 Dc ∷ slice_index_or xs 2 Dc ∷ slice_index_or xs 3 Dc ∷ []
four_of [] size = absurd (omega arith)
four_of (a ∷ []) size = absurd (omega arith)
four_of (a ∷ b ∷ []) size = absurd (omega arith)
four_of (a ∷ b ∷ c ∷ []) size = absurd (omega arith)
four_of (a ∷ b ∷ c ∷ d ∷ []) size = refl
four_of (a ∷ b ∷ c ∷ d ∷ e ∷ more) size = absurd (omega arith)
