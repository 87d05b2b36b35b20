use Rattle.superframe_index.specs.PayloadFrames.{sizes_of}
use Rattle.superframe_index.proofs.Steps.{HasTaken}
use Rattle.superframe_index.proofs.splitting.split_by.Given as goal

abbrev pub invariant-loop-done : goal.invariant-loop-done
invariant-loop-done l = HasTaken l.index.from l.index.frames l.index.size_bytes (sizes_of l.payload l.index) l.done l.at l.sizes l.parts.items
