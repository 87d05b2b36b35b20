use Rattle.std.proofs.Common.{ap, ◌∙◌}
use Rattle.file_frames.specs.Containers.{packets_of_file}
use Rattle.file_frames.specs.FileFrames.{split_packets, frames_of_file}
use Rattle.file_frames.proofs.Containers.{has_packets, only_packets}
use Rattle.file_frames.proofs.Splits.{are_split, only_split}
use Rattle.file_frames.proofs.laws.file_has_these_frames.Goals as goal

pub returns-clause-has : goal.returns-clause-has
unfolding frames_of_file
returns-clause-has c = λ bytes. (
  packets_of_file bytes,
  has_packets bytes (c.file_has_these_packets.ensures.has bytes),
  are_split (packets_of_file bytes).payloads (packets_of_file bytes).ending c.payload_has_these_frames.ensures.has,
)

pub returns-clause-only : goal.returns-clause-only
unfolding frames_of_file
returns-clause-only c = λ bytes file h.
    only_split h.0.payloads h.0.ending file c.payload_has_these_frames.ensures.only h.2
    ∙ ap split_packets (only_packets bytes h.0 (c.file_has_these_packets.ensures.only bytes) h.1)
