use Rattle.superframe_index.proofs.Splits.{has_frames, only_frames, are_parts}
use Rattle.superframe_index.proofs.laws.payload_has_these_frames.Goals as goal

pub returns-clause-has : goal.returns-clause-has
returns-clause-has c = has_frames

pub returns-clause-only : goal.returns-clause-only
returns-clause-only c = only_frames

pub returns-clause-placed : goal.returns-clause-placed
returns-clause-placed c = are_parts
