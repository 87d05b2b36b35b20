-- What inter blocks read, as what their symbols say.
use Rattle.std.specs.Prelude.{◌≡◌, ℕ, ◌<◌, Bool, Result, length}
use Rattle.vp9_types.specs.declared.rule.Rule.{Rule}
use Rattle.frame_headers.specs.declared.header.FrameFilter.{FrameFilter}
use Rattle.block_plan.specs.declared.block.InterPrediction.{InterPrediction}
use Rattle.block_plan.specs.declared.block.ReferenceFrames.{ReferenceFrames}
use Rattle.inter_modes.specs.BlockVectors.{Sources, row_vectors}
use Rattle.vector_writer.specs.VectorFits.{CanSayInter}
use Rattle.vector_writer.specs.SaidVectors.{inter_said}
use Rattle.vector_writer.specs.declared.symbols.InterSymbols.{InterSymbols}

-- a prediction, or a rule, is what symbols say that can be put, of four quarters and two lists
pub record IsSaid (s : Sources) (skips : Bool) (filter : FrameFilter) (refs : ReferenceFrames) (r : Result InterPrediction Rule) : Type 0 where
  pub symbols : InterSymbols
  pub references : symbols.references ≡ refs
  pub modes : length symbols.modes ≡ 4
  pub rows : length symbols.differences ≡ 4
  pub pairs : (k : ℕ) → k < 4 → length (row_vectors symbols.differences k) ≡ 2
  pub can : CanSayInter s skips filter symbols
  pub said : r ≡ inter_said s symbols
