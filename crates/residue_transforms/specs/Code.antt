-- What the code holds between one step and the next.
use Rattle.std.specs.Prelude.{ℕ, ◌<◌, ◌≤◌, ℤ, unsigned_abs}
use Rattle.vp9_types.specs.declared.block.TxSize.{TxSize}
use Rattle.inverse_transforms.specs.Ranges.{limit_of}
use Rattle.residue_transforms.specs.declared.quant.Quant.{Quant}
use Rattle.residue_transforms.specs.Residue.{coefficient}

-- whatever a level of at most this magnitude becomes, at any place, is below the limit
abbrev pub AllFit : Quant → TxSize → ℕ → Type 0
AllFit quant tx whole = (place : ℕ) (x : ℤ) → unsigned_abs x ≤ whole → unsigned_abs (coefficient quant tx place x) < limit_of quant.depth
