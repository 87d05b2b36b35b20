use Rattle.std.proofs.Common.{rules}
use Rattle.ivf_container.specs.Packets.{next_packet_at}
use Rattle.ivf_container.proofs.Walks.{is_next}
use Rattle.ivf_container.proofs.packet.next_packet.Goals as goal

pub returns-clause-exact : goal.returns-clause-exact
unfolding next_packet_at
returns-clause-exact c = search rules

pub returns-clause-next : goal.returns-clause-next
returns-clause-next c = is_next c.args.bytes.now c.args.at c.requires _ (returns-clause-exact c)
