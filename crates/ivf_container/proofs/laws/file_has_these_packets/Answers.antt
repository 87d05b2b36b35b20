use Rattle.ivf_container.proofs.Files.{has_packets, only_packets}
use Rattle.ivf_container.proofs.laws.file_has_these_packets.Goals as goal

pub returns-clause-has : goal.returns-clause-has
returns-clause-has c = has_packets

pub returns-clause-only : goal.returns-clause-only
returns-clause-only c = only_packets
