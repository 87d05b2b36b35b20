use Rattle.frame_headers.specs.Header.{uncompressed_header}
use Rattle.header_writer.specs.WellFormed.{IsWellFormed}
use Rattle.header_checks.proofs.Readings.{read_has}
use Rattle.header_checks.proofs.ReadHeaders.{header_yields, next_is_left, start_is_left}
use Rattle.header_checks.proofs.laws.what_is_read_can_be_written.Goals as goal

pub returns-clause-well : goal.returns-clause-well
returns-clause-well c = λ before bits rest x left are read. read_has (uncompressed_header before) (IsWellFormed before) bits rest x (header_yields before left) are read

pub returns-clause-first : goal.returns-clause-first
returns-clause-first c = start_is_left

pub returns-clause-next : goal.returns-clause-next
returns-clause-next c = next_is_left
