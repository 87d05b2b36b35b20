use Rattle.container_writer.proofs.WrittenFiles.{header_is, packet_is, file_is}
use Rattle.container_writer.proofs.laws.a_written_file_has_its_packets.Goals as goal

pub returns-clause-header : goal.returns-clause-header
returns-clause-header c = header_is

pub returns-clause-packet : goal.returns-clause-packet
returns-clause-packet c = packet_is

pub returns-clause-file : goal.returns-clause-file
returns-clause-file c = file_is
