-- What the law of headers that are read speaks of.
use Rattle.std.specs.Prelude.{All}
use Rattle.frame_headers.specs.HeaderState.{SlotsHaveSizes}
use Rattle.frame_headers.specs.declared.persist.Persist.{Persist}
use Rattle.header_writer.specs.WellFormed.{AreSegmentFeatures}

-- What frames leave behind them: each slot that holds a frame holds one of a size that frames have, and the segments'
-- features have values that their fields can code.
pub record IsLeftByFrames (before : Persist) : Type 0 where
  pub sizes : SlotsHaveSizes before
  pub features : All AreSegmentFeatures before.features.segments
