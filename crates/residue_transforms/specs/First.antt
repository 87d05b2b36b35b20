-- A first coefficient alone: a DCT both ways makes one value of it, everywhere.
use Rattle.std.specs.Prelude.{◌≡◌, ℕ, ◌<◌, ℤ, pos, ◌*ℤ◌, Bool, true, false, List, length, replicate, Result, Ok, Err}
use Rattle.vp9_types.specs.declared.rule.Rule.{Rule}
use Rattle.vp9_types.specs.declared.rule.Rule.TheVariants.{CoefRange}
use Rattle.vp9_types.specs.declared.block.TxSize.{TxSize}
use Rattle.vp9_types.specs.declared.block.TxType.{TxType}
use Rattle.inverse_transforms.specs.Ranges.{fits, limit_of, round14}
use Rattle.inverse_transforms.specs.Flow.{at}
use Rattle.residue_transforms.specs.declared.quant.Quant.{Quant}
use Rattle.residue_transforms.specs.declared.kind.Kind.TheVariants.{Cosines}
use Rattle.residue_transforms.specs.Residue.{coefficient, kind_of_rows, kind_of_columns, rounding_bits, round}

-- times cos64(16), the root of one half
unfoldable pub rooted : ℤ → ℤ
rooted x = round14 (x *ℤ pos 11585)

-- all values but the first are 0
abbrev pub IsFirstAlone : List ℤ → Type 0
IsFirstAlone xs = (k : ℕ) → 0 < k → at xs k ≡ pos 0

-- the DCT both ways
pub record AreCosines (lossless : Bool) (tx : TxSize) (kind : TxType) : Type 0 where
  pub rows : kind_of_rows lossless tx kind ≡ Cosines
  pub columns : kind_of_columns lossless tx kind ≡ Cosines

-- what each value of the residue is, by the first coefficient
abbrev pub flat_value : Quant → TxSize → ℤ → ℤ
flat_value quant tx x = round (rounding_bits quant.lossless tx) (rooted (rooted x))

-- the first coefficient fits, and all values are made of it; or it doesn't
abbrev pub Flattens : Quant → TxSize → List ℤ → Result (Unit {0}) Rule → List ℤ → Type 0
Flattens quant tx levels (Ok _) new =
    (fits (limit_of quant.depth) (coefficient quant tx 0 (at levels 0)) ≡ true)
    × (new ≡ replicate (length levels) (flat_value quant tx (coefficient quant tx 0 (at levels 0))))
Flattens quant tx levels (Err rule) new =
    (fits (limit_of quant.depth) (coefficient quant tx 0 (at levels 0)) ≡ false) × (rule ≡ CoefRange)
