-- The widths in the table are those of the definition.
use Rattle.std.proofs.Common.{◌≡◌, ◌<◌, ◌+◌, ◌*◌, ◌%◌, ℕ, Bool, true, false, refl, sym, ◌∙◌, ap, nat_eq, slice_get}
use Rattle.std.specs.Prelude.{Option, Some, None, if◌then◌else◌}
use Rattle.std.proofs.lemmas.Bool.{eqb-true, agree_below_at}
use Rattle.vp9_types.specs.declared.block.TxSize.{TxSize}
use Rattle.vp9_types.specs.declared.block.TxSize.TheVariants.{T4x4, T8x8, T16x16, T32x32}
use Rattle.vp9_tables.specs.Numbers.{tx_number}
use Rattle.line_filter.specs.declared.edge.FilterWidth.{FilterWidth}
use Rattle.line_filter.specs.declared.edge.FilterWidth.TheVariants.{Four, Eight, Sixteen}
use Rattle.loop_edges.specs.Cells.{outer_width}
use Rattle.loop_edges.specs.Code.{narrowed}
use Rattle.loop_edges.specs.declared.cells.Crossing.{Crossing}
use Rattle.loop_edges.specs.declared.cells.TheConstants.{OUTER_WIDTHS}

abbrev number : Option FilterWidth → ℕ
number None = 0
number (Some Four) = 1
number (Some Eight) = 2
number (Some Sixteen) = 3

abbrev numbered : ℕ → Option FilterWidth
numbered n = if nat_eq n 0 then None else (if nat_eq n 1 then Some Four else (if nat_eq n 2 then Some Eight else Some Sixteen))

numbered_is : (w : Option FilterWidth) → numbered (number w) ≡ w
numbered_is None = refl
numbered_is (Some Four) = refl
numbered_is (Some Eight) = refl
numbered_is (Some Sixteen) = refl

same : (v w : Option FilterWidth) → nat_eq (number v) (number w) ≡ true → v ≡ w
same v w is = sym (numbered_is v) ∙ (ap numbered (eqb-true _ _ is) ∙ numbered_is w)

abbrev holds : (Option FilterWidth → Bool) → Option (Option FilterWidth) → Bool
holds test None = false
holds test (Some w) = test w

-- a cell that is not the last
abbrev plain : ℕ → Crossing
plain k = record { k = k; is_block_edge = false; is_first = false; is_last = false }

abbrev fits : TxSize → ℕ → Bool
fits tx k = holds (λ w. nat_eq (number w) (number (outer_width tx (plain k)))) (slice_get OUTER_WIDTHS (8 * tx_number tx + k))

all_fit : (tx : TxSize) (k : ℕ) → k < 8 → fits tx k ≡ true
all_fit T4x4 k low = agree_below_at (fits T4x4) (λ _. true) 8 k refl low
all_fit T8x8 k low = agree_below_at (fits T8x8) (λ _. true) 8 k refl low
all_fit T16x16 k low = agree_below_at (fits T16x16) (λ _. true) 8 k refl low
all_fit T32x32 k low = agree_below_at (fits T32x32) (λ _. true) 8 k refl low

entry_is : (tx : TxSize) (k : ℕ) (w : Option FilterWidth) → k < 8 → slice_get OUTER_WIDTHS (8 * tx_number tx + k) ≡ Some w → w ≡ outer_width tx (plain k)
entry_is tx k w low at =
    same w (outer_width tx (plain k)) (sym (ap (holds (λ v. nat_eq (number v) (number (outer_width tx (plain k))))) at) ∙ all_fit tx k low)

large : (t last : Bool) → narrowed (if t then Some Sixteen else None) last ≡ (if t then Some (if last then Eight else Sixteen) else None)
large true last = refl
large false last = refl

small : (t last : Bool) → narrowed (Some (if t then Eight else Four)) last ≡ Some (if t then Eight else Four)
small true last = refl
small false last = refl

narrowed_is : (tx : TxSize) (a : Crossing) → narrowed (outer_width tx (plain a.k)) a.is_last ≡ outer_width tx a
narrowed_is T32x32 a = large (nat_eq (a.k % 4) 0) a.is_last
narrowed_is T16x16 a = large (nat_eq (a.k % 2) 0) a.is_last
narrowed_is T8x8 a = refl
narrowed_is T4x4 a = small (nat_eq (a.k % 4) 0) a.is_last

width_is : (tx : TxSize) (a : Crossing) (w : Option FilterWidth) → a.k < 8 → slice_get OUTER_WIDTHS (8 * tx_number tx + a.k) ≡ Some w
    → narrowed w a.is_last ≡ outer_width tx a
width_is tx a w low at = ap (λ (v : Option FilterWidth). narrowed v a.is_last) (entry_is tx a.k w low at) ∙ narrowed_is tx a

-- behind those of the sizes there are none
abbrev nothing : ℕ → Bool
nothing k = holds (λ w. nat_eq (number w) 0) (slice_get OUTER_WIDTHS (8 * 4 + k))

none_there : (k : ℕ) (w : Option FilterWidth) → k < 8 → slice_get OUTER_WIDTHS (8 * 4 + k) ≡ Some w → w ≡ None
none_there k w low at = same w None (sym (ap (holds (λ v. nat_eq (number v) 0)) at) ∙ agree_below_at nothing (λ _. true) 8 k refl low)

pub edge_is : (is_edge : Bool) (tx : TxSize) (a : Crossing) (w : Option FilterWidth) → a.k < 8
    → slice_get OUTER_WIDTHS (8 * (if is_edge then tx_number tx else 4) + a.k) ≡ Some w → narrowed w a.is_last ≡ (if is_edge then outer_width tx a else None)
edge_is true tx a w low at = width_is tx a w low at
edge_is false tx a w low at = ap (λ (v : Option FilterWidth). narrowed v a.is_last) (none_there a.k w low at)
