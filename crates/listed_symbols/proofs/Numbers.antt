-- What has the same number is the same.
use Rattle.std.proofs.Common.{◌≡◌, ◌∙◌, ℕ, zero, suc, refl, sym, ap, true, Option}
use Rattle.std.proofs.lemmas.Bool.{eqb-true}
use Rattle.vp9_types.specs.declared.block.IntraMode.{IntraMode}
use Rattle.vp9_types.specs.declared.block.IntraMode.TheVariants.{Dc, V, H, D45, D135, D117, D153, D207, D63, Tm}
use Rattle.vp9_types.specs.declared.block.InterMode.{InterMode}
use Rattle.vp9_types.specs.declared.block.InterMode.TheVariants.{Nearest, Near, Zero, New}
use Rattle.vp9_types.specs.declared.block.InterpFilter.{InterpFilter}
use Rattle.vp9_types.specs.declared.block.InterpFilter.TheVariants.{Regular, Smooth, Sharp, Bilinear}
use Rattle.vp9_types.specs.declared.block.ReferenceFrame.{ReferenceFrame}
use Rattle.vp9_types.specs.declared.block.ReferenceFrame.TheVariants.{Last, Golden, Altref}
use Rattle.vp9_types.specs.declared.block.TxSize.{TxSize}
use Rattle.vp9_types.specs.declared.block.TxSize.TheVariants.{T4x4, T8x8, T16x16, T32x32}
use Rattle.vp9_tables.specs.Numbers.{filter_number, inter_number, intra_number, reference_number, tx_number, tx_of}
use Rattle.mode_syntax.specs.IntraModes.{intra_of}
use Rattle.block_plan.specs.declared.block.ReferenceFrames.{ReferenceFrames}
use Rattle.listed_symbols.specs.IntraTests.{same_intra}

intra_is : (mode : IntraMode) → intra_of (intra_number mode) ≡ mode
intra_is Dc = refl
intra_is V = refl
intra_is H = refl
intra_is D45 = refl
intra_is D135 = refl
intra_is D117 = refl
intra_is D153 = refl
intra_is D207 = refl
intra_is D63 = refl
intra_is Tm = refl

pub same_intra_is : (mode other : IntraMode) → same_intra mode other ≡ true → mode ≡ other
same_intra_is mode other same =
    sym (intra_is mode) ∙ (ap (λ n. intra_of n) (eqb-true (intra_number mode) (intra_number other) same) ∙ intra_is other)

tx_is : (tx : TxSize) → tx_of (tx_number tx) ≡ tx
tx_is T4x4 = refl
tx_is T8x8 = refl
tx_is T16x16 = refl
tx_is T32x32 = refl

pub tx_of_same : (tx : TxSize) (n : ℕ) → tx_number tx ≡ n → tx ≡ tx_of n
tx_of_same tx n same = sym (tx_is tx) ∙ ap (λ n. tx_of n) same

abbrev inter_of : ℕ → InterMode
inter_of zero = Nearest
inter_of (suc zero) = Near
inter_of (suc (suc zero)) = Zero
inter_of n = New

inter_is : (mode : InterMode) → inter_of (inter_number mode) ≡ mode
inter_is Nearest = refl
inter_is Near = refl
inter_is Zero = refl
inter_is New = refl

pub same_inter_is : (mode other : InterMode) → inter_number mode ≡ inter_number other → mode ≡ other
same_inter_is mode other same = sym (inter_is mode) ∙ (ap (λ n. inter_of n) same ∙ inter_is other)

abbrev filter_of : ℕ → InterpFilter
filter_of zero = Regular
filter_of (suc zero) = Smooth
filter_of (suc (suc zero)) = Sharp
filter_of n = Bilinear

filter_is : (filter : InterpFilter) → filter_of (filter_number filter) ≡ filter
filter_is Regular = refl
filter_is Smooth = refl
filter_is Sharp = refl
filter_is Bilinear = refl

pub same_filter_is : (filter other : InterpFilter) → filter_number filter ≡ filter_number other → filter ≡ other
same_filter_is filter other same = sym (filter_is filter) ∙ (ap (λ n. filter_of n) same ∙ filter_is other)

abbrev reference_of : ℕ → ReferenceFrame
reference_of zero = Last
reference_of (suc zero) = Golden
reference_of n = Altref

reference_is : (reference : ReferenceFrame) → reference_of (reference_number reference) ≡ reference
reference_is Last = refl
reference_is Golden = refl
reference_is Altref = refl

pub same_reference_is : (reference other : ReferenceFrame) → reference_number reference ≡ reference_number other → reference ≡ other
same_reference_is reference other same =
    sym (reference_is reference) ∙ (ap (λ n. reference_of n) same ∙ reference_is other)

abbrev two : ReferenceFrame → Option ReferenceFrame → ReferenceFrames
two first second = record { first = first; second = second }

pub same_references_are : (refs other : ReferenceFrames) → reference_number refs.first ≡ reference_number other.first → refs.second ≡ other.second → refs ≡ other
same_references_are refs other first second =
    ap (λ r. two r refs.second) (same_reference_is refs.first other.first first) ∙ ap (λ s. two other.first s) second
