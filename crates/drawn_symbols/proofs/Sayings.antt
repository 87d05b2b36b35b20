-- What is drawn of the quarters of a block can be said.
use Rattle.std.proofs.Common.{◌≡◌, ℕ, zero, suc, ◌<◌, true, false, [], ◌∷◌, refl, arith}
use Rattle.std.specs.Prelude.{◌≢◌}
use Rattle.vp9_types.specs.declared.block.BlockSize.{BlockSize}
use Rattle.vp9_types.specs.declared.block.BlockSize.TheVariants.{B4x4, B4x8, B8x4, B8x8, B8x16, B16x8, B16x16, B16x32, B32x16, B32x32, B32x64, B64x32, B64x64}
use Rattle.vp9_types.specs.declared.block.InterpFilter.{InterpFilter}
use Rattle.vp9_types.specs.declared.block.InterpFilter.TheVariants.{Bilinear}
use Rattle.block_geometry.specs.BlockSizes.{is_below_8x8}
use Rattle.vector_writer.specs.VectorFits.{quarter_saying}
use Rattle.vector_writer.specs.SaidVectors.{mode_of_part, symbols_at}
use Rattle.vector_writer.specs.declared.symbols.QuarterSymbols.{QuarterSymbols}
use Rattle.drawn_symbols.specs.Code.{CanBeQuarter, CanBeSymbols}
use Rattle.drawn_symbols.specs.InterDraws.{symbols_of}
use Rattle.drawn_symbols.specs.declared.quarters.Best.{Best}

each_four : (P : ℕ → Type 0) → P 0 → P 1 → P 2 → P 3 → (j : ℕ) → j < 4 → P j
each_four P a b c d zero low = a
each_four P a b c d (suc zero) low = b
each_four P a b c d (suc (suc zero)) low = c
each_four P a b c d (suc (suc (suc zero))) low = d
each_four P a b c d (suc (suc (suc (suc j)))) low = absurd (omega arith)

no : true ≡ false → ⊥
no e = cc

says_first : (size : BlockSize) → is_below_8x8 size ≡ false → (k : ℕ) → quarter_saying size k ≡ 0
says_first B4x4 below k = absurd (no below)
says_first B4x8 below k = absurd (no below)
says_first B8x4 below k = absurd (no below)
says_first B8x8 below k = refl
says_first B8x16 below k = refl
says_first B16x8 below k = refl
says_first B16x16 below k = refl
says_first B16x32 below k = refl
says_first B32x16 below k = refl
says_first B32x32 below k = refl
says_first B32x64 below k = refl
says_first B64x32 below k = refl
says_first B64x64 below k = refl

quarter : (b : Best) (q : QuarterSymbols) → CanBeQuarter b q → CanBeQuarter b (record { mode = q.mode; differences = q.differences })
quarter b q can = record { first = can.first; second = can.second }

pub four_can : (b : Best) (filter : InterpFilter) (q r t u : QuarterSymbols) → filter ≢ Bilinear
    → CanBeQuarter b q → CanBeQuarter b r → CanBeQuarter b t → CanBeQuarter b u → CanBeSymbols b B4x4 (symbols_of b.references filter (q ∷ r ∷ t ∷ u ∷ []))
four_can b filter q r t u named cq cr ct cu = record {
  references = refl;
  named = named;
  same = λ k low. refl;
  vectors = each_four (λ k. CanBeQuarter b (symbols_at (symbols_of b.references filter (q ∷ r ∷ t ∷ u ∷ [])) k)) (quarter b q cq) (quarter b r cr) (quarter b t ct) (quarter b u cu);
}

pub columns_can : (b : Best) (filter : InterpFilter) (q r : QuarterSymbols) → filter ≢ Bilinear
    → CanBeQuarter b q → CanBeQuarter b r → CanBeSymbols b B4x8 (symbols_of b.references filter (q ∷ r ∷ q ∷ r ∷ []))
columns_can b filter q r named cq cr = record {
  references = refl;
  named = named;
  same = each_four (λ k. mode_of_part (symbols_of b.references filter (q ∷ r ∷ q ∷ r ∷ [])).modes k ≡ mode_of_part (symbols_of b.references filter (q ∷ r ∷ q ∷ r ∷ [])).modes (quarter_saying B4x8 k)) refl refl refl refl;
  vectors = each_four (λ k. CanBeQuarter b (symbols_at (symbols_of b.references filter (q ∷ r ∷ q ∷ r ∷ [])) (quarter_saying B4x8 k))) (quarter b q cq) (quarter b r cr) (quarter b q cq) (quarter b r cr);
}

pub rows_can : (b : Best) (filter : InterpFilter) (q r : QuarterSymbols) → filter ≢ Bilinear
    → CanBeQuarter b q → CanBeQuarter b r → CanBeSymbols b B8x4 (symbols_of b.references filter (q ∷ q ∷ r ∷ r ∷ []))
rows_can b filter q r named cq cr = record {
  references = refl;
  named = named;
  same = each_four (λ k. mode_of_part (symbols_of b.references filter (q ∷ q ∷ r ∷ r ∷ [])).modes k ≡ mode_of_part (symbols_of b.references filter (q ∷ q ∷ r ∷ r ∷ [])).modes (quarter_saying B8x4 k)) refl refl refl refl;
  vectors = each_four (λ k. CanBeQuarter b (symbols_at (symbols_of b.references filter (q ∷ q ∷ r ∷ r ∷ [])) (quarter_saying B8x4 k))) (quarter b q cq) (quarter b q cq) (quarter b r cr) (quarter b r cr);
}

pub whole_can : (b : Best) (size : BlockSize) (filter : InterpFilter) (q : QuarterSymbols) → is_below_8x8 size ≡ false → filter ≢ Bilinear
    → CanBeQuarter b q → CanBeSymbols b size (symbols_of b.references filter (q ∷ q ∷ q ∷ q ∷ []))
whole_can b size filter q below named cq = record {
  references = refl;
  named = named;
  same = each_four (λ k. mode_of_part (symbols_of b.references filter (q ∷ q ∷ q ∷ q ∷ [])).modes k ≡ mode_of_part (symbols_of b.references filter (q ∷ q ∷ q ∷ q ∷ [])).modes (quarter_saying size k))
      (rw (says_first size below 0) refl) (rw (says_first size below 1) refl) (rw (says_first size below 2) refl) (rw (says_first size below 3) refl);
  vectors = λ k low. rw (says_first size below k) (quarter b q cq);
}
